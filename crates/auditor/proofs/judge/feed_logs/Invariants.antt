use Rattle.std.proofs.Common.{◌≡◌}
use Rattle.auditor.proofs.Feeding.{with_logs}
use Rattle.auditor.specs.{Terms.starts, Transcripts.opened_by}
use Rattle.auditor.proofs.judge.feed_logs.Given as goal

abbrev pub invariant-loop-object : goal.invariant-loop-object
invariant-loop-object g l = l.judged ≡ with_logs (starts g.O.SeqObject (opened_by l.opened_objects)) l.run l.object
