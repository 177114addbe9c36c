use Rattle.std.proofs.Common.{◌≡◌}
use Rattle.auditor.proofs.Feeding.{with_entries}
use Rattle.auditor.proofs.judge.feed_transcript.Given as goal

abbrev pub invariant-loop-entry : goal.invariant-loop-entry
invariant-loop-entry g l = l.judged ≡ with_entries l.fn.judged l.transcript l.entry-index
