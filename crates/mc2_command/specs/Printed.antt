-- The text of an answer, and its status.
use Rattle.std.specs.Prelude.{ℕ, List, string_bytes}
use Rattle.auditor.specs.declared.fault.Verdict.{Verdict}
use Rattle.log_merge.specs.MergedText.{merged_text}
use Rattle.records.specs.RecordFaults.{text_of}
use Rattle.mc2_command.specs.declared.commands.Answer.{Answer}
use Rattle.auditor.specs.declared.fault.Verdict.TheVariants as verdicts
use Rattle.mc2_command.specs.declared.commands.Answer.TheVariants as answers

-- a record is printed as its text, an order as its lines, and a report or a verdict as it is
abbrev pub printed : Answer → List ℕ
printed (answers.Record r) = text_of r
printed (answers.Report text) = string_bytes text
printed (answers.Verdict verdict line) = string_bytes line
printed (answers.Merged ordered) = merged_text ordered.of ordered.places

-- 1 where a fault was found, 0 for all else
abbrev pub status_by : Verdict → ℕ
status_by verdicts.Sound = 0
status_by (verdicts.Unsound fault) = 1

abbrev pub status_with : Answer → ℕ
status_with (answers.Record r) = 0
status_with (answers.Report text) = 0
status_with (answers.Verdict verdict line) = status_by verdict
status_with (answers.Merged ordered) = 0
