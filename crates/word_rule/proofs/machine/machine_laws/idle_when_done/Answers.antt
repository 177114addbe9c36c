use Rattle.word_rule.proofs.IdleSteps.{idle_done}
use Rattle.word_rule.proofs.machine.machine_laws.idle_when_done.Goals as goal

pub returns : goal.returns
returns g c = λ w o schedule i cpu there. idle_done g.O.SeqObject w o schedule i cpu there
