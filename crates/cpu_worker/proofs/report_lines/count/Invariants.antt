use Rattle.std.proofs.Common.{◌≡◌, take, length}
use Rattle.cpu_worker.specs.Report.{all_entries}
use Rattle.cpu_worker.proofs.report_lines.count.Given as goal

-- the number so far
abbrev pub invariant-loop-transcript : goal.invariant-loop-transcript
invariant-loop-transcript l = l.entries ≡ length (all_entries (take l.transcript-index l.transcripts))
