use Rattle.auditor.specs.{StepModels.object_model, Terms.starts, Transcripts.opened_by}
use Rattle.auditor.proofs.{ObjectModels.sound_from, Verdicts.sound_of}
use Rattle.auditor.proofs.fault_laws.no_fault_is_sound.Goals as goal

pub returns : goal.returns
returns g c = λ opened_objects run h.
    let objects = opened_by opened_objects in
    sound_from g.O.SeqObject objects run (sound_of (object_model g.O.SeqObject) (starts g.O.SeqObject objects) run h)
