use Rattle.std.proofs.Common.{ℕ, ◌<◌, ◌≤◌, length, get_or}
use Rattle.sound_run.specs.Sound.{transcript_of}
use Rattle.log_merge.proofs.next_entry.first_left.Given as goal

abbrev pub invariant-loop-cpu : goal.invariant-loop-cpu
invariant-loop-cpu g l = (k : ℕ) → k < l.cpu → length (transcript_of k (g.S.RunShape.run l.shape)) ≤ get_or l.at k 0
