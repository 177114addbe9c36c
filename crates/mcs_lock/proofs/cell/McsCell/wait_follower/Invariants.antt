use Rattle.std.proofs.Common.{◌≡◌}
use Rattle.mcs_lock.specs.{Seen.IsSeen, Passes.{IsLeavingOf, view_of_leaving, state_of_leaving}}
use Rattle.mcs_lock.proofs.cell.McsCell.wait_follower.Given as goal

abbrev pub invariant-loop : goal.invariant-loop
invariant-loop g l = record {
  leaving : IsLeavingOf l.self l.leaving;
  hold_view : view_of_leaving l.leaving ≡ view_of_leaving l.fn.leaving;
  seen : IsSeen (state_of_leaving l.fn.leaving) (state_of_leaving l.leaving);
}
