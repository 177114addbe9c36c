use Rattle.std.proofs.Common.{vec_len}
use Rattle.guarded_cell.proofs.many_callers.+call_each+fn-call_each-join+arg2.Given as goal

abbrev pub decreases-call_each : goal.decreases-call_each
decreases-call_each g l = vec_len l.passes

abbrev pub decreases-join+arg2 : goal.decreases-join+arg2
decreases-join+arg2 g l = vec_len l.passes
