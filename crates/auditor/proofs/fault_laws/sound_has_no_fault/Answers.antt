use Rattle.auditor.specs.{StepModels.object_model, Terms.starts, Transcripts.opened_by}
use Rattle.auditor.proofs.{ObjectModels.sound_to, Verdicts.no_fault}
use Rattle.auditor.proofs.fault_laws.sound_has_no_fault.Goals as goal

pub returns : goal.returns
returns g c = λ opened_objects run sound f h.
    let objects = opened_by opened_objects in
    no_fault (object_model g.O.SeqObject) (starts g.O.SeqObject objects) run (sound_to g.O.SeqObject objects run sound) f h
