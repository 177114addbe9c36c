use Rattle.std.proofs.Common.{◌≡◌}
use Rattle.auditor.proofs.Feeding.{with_transcripts}
use Rattle.auditor.specs.{Terms.starts, Transcripts.opened_by}
use Rattle.auditor.proofs.judge.feed_transcripts.Given as goal

abbrev pub invariant-loop-entries : goal.invariant-loop-entries
invariant-loop-entries g l = l.judged ≡ with_transcripts (starts g.O.SeqObject (opened_by l.opened_objects)) l.run l.entries-index
