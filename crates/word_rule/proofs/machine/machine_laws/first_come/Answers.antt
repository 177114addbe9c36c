use Rattle.word_rule.proofs.Arrivals.{order_lem, few_lem, until_lem}
use Rattle.word_rule.proofs.machine.machine_laws.first_come.Goals as goal

pub returns-clause-order : goal.returns-clause-order
returns-clause-order g c = λ w o schedule x. order_lem g.O.SeqObject w o schedule x

pub returns-clause-few : goal.returns-clause-few
returns-clause-few g c = λ w o schedule i x a t. few_lem g.O.SeqObject w o schedule i x a t

pub returns-clause-until_its_end : goal.returns-clause-until_its_end
returns-clause-until_its_end g c = λ w o schedule more i x a not. until_lem g.O.SeqObject w o schedule more i x a not
