use Rattle.std.proofs.Common.{◌≡◌, take, string_bytes}
use Rattle.cpu_worker.specs.Report.{all_entries, objects_words}
use Rattle.cpu_worker.proofs.Reports.{text_of_words}
use Rattle.cpu_worker.proofs.report_lines.report.Given as goal

-- the lines so far
abbrev pub invariant-loop-place : goal.invariant-loop-place
invariant-loop-place l = string_bytes l.text ≡ text_of_words (objects_words (all_entries l.transcripts) (take l.place l.object-items))
