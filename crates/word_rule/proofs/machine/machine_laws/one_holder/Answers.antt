use Rattle.word_rule.proofs.Arrivals.{one_lem}
use Rattle.word_rule.proofs.machine.machine_laws.one_holder.Goals as goal

pub returns : goal.returns
returns g c = λ w o schedule x i j d there below below' a b. one_lem g.O.SeqObject w o schedule x i j d there below below' a b
