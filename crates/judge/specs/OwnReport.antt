-- What is reported of a record of one's own that was judged by counts: of each log how many steps, from the first on, are right.
use Rattle.std.specs.Prelude.{◌≡◌, ℕ, List}
use Rattle.auditor.specs.declared.fault.Verdict.{Verdict}
use Rattle.judge.specs.{Models.{IsMistold, IsVerdictByCounts}, Report.{report, verdict_report}, declared.report.Report.Report}
use Rattle.custom_records.specs.{Ranges.CustomRecord, RecordFaults.{IsCustomText, IsBadCustomLine}}

-- what becomes of a text and counts
pub data OwnOutcome : Type 0 where
  judged : Verdict → OwnOutcome
  mistold : ℕ → OwnOutcome
  bad_line : ℕ → OwnOutcome
  out_of_memory : OwnOutcome

-- no count is missing, one too many, or above the steps of its log
abbrev pub AreFitting : CustomRecord → List ℕ → Type 0
AreFitting r counts = (x : ℕ) → IsMistold r counts x → ⊥

-- the verdict on the record that the bytes spell, by every model that has these counts; the first count that fits no model; the
-- first line with which no record goes on
abbrev pub IsOwnOutcome : List ℕ → List ℕ → OwnOutcome → Type 0
IsOwnOutcome bytes counts (judged v) = (r : CustomRecord) × IsCustomText bytes r × AreFitting r counts × IsVerdictByCounts r counts v
IsOwnOutcome bytes counts (mistold x) = (r : CustomRecord) × IsCustomText bytes r × IsMistold r counts x
IsOwnOutcome bytes counts (bad_line n) = IsBadCustomLine bytes n
IsOwnOutcome bytes counts out_of_memory = Unit {0}

-- what is reported of an outcome
abbrev pub own_report_of : OwnOutcome → Report
own_report_of (judged v) = verdict_report v
own_report_of (mistold x) = report 11 x 0 0
own_report_of (bad_line n) = report 8 n 0 0
own_report_of out_of_memory = report 9 0 0 0

-- what is reported is what becomes of the bytes and the counts
pub record IsOwnVerdictReported (bytes counts : List ℕ) (t : Report) : Type 0 where
  pub outcome : OwnOutcome
  pub right : IsOwnOutcome bytes counts outcome
  pub same : t ≡ own_report_of outcome
