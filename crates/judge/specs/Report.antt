-- What is reported of a text that was judged.
use Rattle.std.specs.Prelude.{◌≡◌, ℕ, List, Result, Ok, Err}
use Rattle.auditor.specs.{Audits.IsVerdict, declared.fault.Fault.Fault, declared.fault.Fault.TheVariants.{TooLong, WrongStep, RoomWasLeft, NotItsEvent, NotAsked, Unclaimed}, declared.fault.Verdict.Verdict, declared.fault.Verdict.TheVariants.{Sound, Unsound}}
use Rattle.records.specs.{RecordFaults.{IsWhole, NamesBadLine}, RecordRanges.Record}
use Rattle.record_lines.specs.{declared.text.fault.LinesFault.LinesFault, declared.text.fault.LinesFault.TheVariants.{OutOfMemory, Line}}
use Rattle.judge.specs.declared.report.Report.{Report}

-- a kind with its numbers
abbrev pub report : ℕ → ℕ → ℕ → ℕ → Report
report kind first second third = record { kind = kind; first = first; second = second; third = third }

-- a fault: its kind, and where it is
abbrev pub fault_report : Fault → Report
fault_report (TooLong object) = report 1 object 0 0
fault_report (WrongStep object event step) = report 2 object event step
fault_report (RoomWasLeft cpu entry) = report 3 cpu entry 0
fault_report (NotItsEvent cpu entry) = report 4 cpu entry 0
fault_report (NotAsked cpu entry) = report 5 cpu entry 0
fault_report (Unclaimed object event) = report 6 object event 0

-- a verdict
abbrev pub verdict_report : Verdict → Report
verdict_report Sound = report 0 0 0 0
verdict_report (Unsound fault) = fault_report fault

-- a verdict, or why there is none
abbrev pub answer_report : Result Verdict LinesFault → Report
answer_report (Ok v) = verdict_report v
answer_report (Err (Line n)) = report 8 n 0 0
answer_report (Err OutOfMemory) = report 9 0 0 0

-- the verdict on the record that the bytes spell, or the first line with which no record goes on
abbrev pub IsVerdictOn : List ℕ → Result Verdict LinesFault → Type 0
IsVerdictOn bytes (Ok v) = (r : Record) × IsWhole bytes r × IsVerdict r v
IsVerdictOn bytes (Err fault) = NamesBadLine bytes fault

-- what is reported is the verdict, or why there is none
pub record IsVerdictReported (bytes : List ℕ) (t : Report) : Type 0 where
  pub answer : Result Verdict LinesFault
  pub right : IsVerdictOn bytes answer
  pub same : t ≡ answer_report answer
