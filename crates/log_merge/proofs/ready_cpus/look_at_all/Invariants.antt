use Rattle.std.proofs.Common.{◌≡◌, ◌↔◌, ◌<◌, ◌≤◌, ℕ, length}
use Rattle.log_merge.specs.{Flags.{capacity, HasFlag}, WhoCanCome.IsRight}
use Rattle.log_merge.proofs.ready_cpus.look_at_all.Given as goal

abbrev pub invariant-loop-cpu : goal.invariant-loop-cpu
invariant-loop-cpu g l = record {
  room : capacity l.flags ≡ capacity l.fn.flags;
  right : (k : ℕ) → k < l.cpu → IsRight (g.S.RunShape.run l.shape) l.at l.placed l.flags k;
  others : (k : ℕ) → length l.at ≤ k → HasFlag l.flags k ↔ HasFlag l.fn.flags k;
}
