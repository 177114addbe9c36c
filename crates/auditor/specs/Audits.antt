-- What is said of a record, and of a text.
use Rattle.std.specs.Prelude.{◌≡◌, ◌↔◌, ℕ, List, Option, Result, Ok, Err}
use Rattle.kernel_object.specs.contracts.object.KernelObjectSeqObject.TheImpl.{ghosts as kernel}
use Rattle.record_lines.specs.{declared.text.fault.TextFault.TextFault, Sources.IsRest}
use Rattle.records.specs.{RecordFaults.IsWhole, RecordRanges.Record, RecordSources.NamesBadLineOfRest, Runs.opened_of}
use Rattle.sound_run.specs.Sound.{Sound}
use Rattle.auditor.specs.{declared.fault.Fault.Fault, declared.fault.Verdict.Verdict, Faults.IsFirstFault}
use Rattle.record_lines.specs.declared.text.fault.TextFault.TheVariants as text_fault
use Rattle.auditor.specs.declared.fault.Verdict.TheVariants as verdict

-- a sound record is called so, and an unsound one by its first fault
pub record IsVerdict (r : Record) (v : Verdict) : Type 0 where
  pub sound : (v ≡ verdict.Sound) ↔ Sound kernel (opened_of r.settings) r.run
  pub fault : (f : Fault) → (v ≡ verdict.Unsound f) ↔ IsFirstFault kernel (opened_of r.settings) r.run f

-- the verdict on the record that the source's bytes spell
pub record IsVerdictOnText (remaining : Option (List ℕ)) (v : Verdict) : Type 0 where
  pub bytes : List ℕ
  pub all : IsRest remaining bytes
  pub of : Record
  pub spelled : IsWhole bytes of
  pub is : IsVerdict of v

-- a bad line is the first with which no record goes on
abbrev pub IsTextFault : Option (List ℕ) → TextFault → Type 0
IsTextFault remaining fault = NamesBadLineOfRest remaining fault

-- the record was judged, unless memory ran out or reading failed
abbrev pub IsAudited : Record → Result Verdict TextFault → Type 0
IsAudited r (Ok v) = IsVerdict r v
IsAudited r (Err text_fault.OutOfMemory) = Unit {0}
IsAudited r (Err text_fault.ReadFailed) = Unit {0}
IsAudited r (Err (text_fault.BadLine n)) = ⊥
