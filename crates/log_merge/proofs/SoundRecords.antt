-- A sound record has no fault.
use Rattle.sound_run.specs.Sound.{Sound}
use Rattle.kernel_object.specs.{contracts.object.KernelObjectSeqObject.TheImpl.{ghosts as kernel}, KernelTypes.KernelRun}
use Rattle.records.specs.{Runs.opened_of, Settings.Settings}
use Rattle.auditor.specs.{declared.fault.Fault.Fault, Faults.IsFirstFault, StepModels.object_model, Terms.starts}
use Rattle.auditor.proofs.{ObjectModels.sound_to, Verdicts.no_fault}

pub none_first : (settings : Settings) (run : KernelRun) → Sound kernel (opened_of settings) run → (f : Fault) → IsFirstFault kernel (opened_of settings) run f → ⊥
none_first settings run sound f first =
    let objects = opened_of settings in
    no_fault (object_model kernel) (starts kernel objects) run (sound_to kernel objects run sound) f first.there
