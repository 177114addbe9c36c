use Rattle.std.proofs.Common.{◌≡◌}
use Rattle.auditor.proofs.Feeding.{with_events}
use Rattle.auditor.specs.Terms.{terms_at}
use Rattle.auditor.proofs.judge.feed_log.Given as goal

abbrev pub invariant-loop-event : goal.invariant-loop-event
invariant-loop-event g l = l.judged ≡ with_events l.fn.judged (terms_at l.opened (g.J.StepJudge.shows l.fn.judge)) l.log l.event-index
