use Rattle.word_rule.proofs.Alive.{gets_lem, stays_lem}
use Rattle.word_rule.proofs.machine.machine_laws.someone_gets_on.Goals as goal

pub returns-clause-someone : goal.returns-clause-someone
returns-clause-someone g c = λ w o schedule. gets_lem g.O.SeqObject w o schedule

pub returns-clause-stays : goal.returns-clause-stays
returns-clause-stays g c = λ w o schedule i j ne on. stays_lem g.O.SeqObject w o schedule i j ne on
