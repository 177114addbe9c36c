use Rattle.std.proofs.Common.{◌≡◌, ◌<◌, ◌+◌, ◌-◌, ◌++◌, ◌∷◌, [], length, get_or, slice_index}
use Rattle.event_log.specs.Distinct.{AreDistinctBelow}
use Rattle.sound_run.specs.Sound.{transcript_of}
use Rattle.log_merge.specs.{Chains.Chain, Prefixes.IsBlocked}
use Rattle.log_merge.proofs.walk.walk_from.Given as goal

abbrev pub invariant-loop-i : goal.invariant-loop-i
invariant-loop-i g l = record {
  start : get_or (l.walk.items ++ l.cpu ∷ []) 0 0 ≡ l.start;
  different : AreDistinctBelow (length l.at) l.walk.items;
  waits : Chain (IsBlocked (g.S.RunShape.run l.shape) (slice_index l.at) (slice_index l.placed)) l.walk.items l.cpu;
  cpu : l.cpu < length l.at;
  left : get_or l.at l.cpu 0 < length (transcript_of l.cpu (g.S.RunShape.run l.shape));
}

abbrev pub decreases-loop-i : goal.decreases-loop-i
decreases-loop-i g l = (length l.at + 1) - length l.walk.items
