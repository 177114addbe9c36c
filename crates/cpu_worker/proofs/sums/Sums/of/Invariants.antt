use Rattle.std.proofs.Common.{◌≡◌, take}
use Rattle.cpu_worker.specs.Report.{all_entries, entries_on, sums_of}
use Rattle.cpu_worker.proofs.sums.Sums.of.Given as goal

-- the sums so far
abbrev pub invariant-loop-transcript : goal.invariant-loop-transcript
invariant-loop-transcript l = l.sums ≡ sums_of (entries_on l.place (all_entries (take l.transcript-index l.transcripts)))
