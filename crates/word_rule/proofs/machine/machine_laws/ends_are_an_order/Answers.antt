use Rattle.word_rule.proofs.WorldOrders.{order_from}
use Rattle.word_rule.proofs.machine.machine_laws.ends_are_an_order.Goals as goal

pub returns : goal.returns
returns g c = λ w o schedule. order_from g.O.SeqObject w o schedule
