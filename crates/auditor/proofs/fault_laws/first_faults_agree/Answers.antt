use Rattle.auditor.specs.{StepModels.object_model, Terms.starts}
use Rattle.auditor.proofs.FaultOrder.{one_first}
use Rattle.auditor.proofs.fault_laws.first_faults_agree.Goals as goal

pub returns : goal.returns
returns g c = λ objects run f h a b. one_first (object_model g.O.SeqObject) (starts g.O.SeqObject objects) run f h a b
