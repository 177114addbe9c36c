use Rattle.std.proofs.Common.{◌≡◌, List}
use Rattle.word_rule.specs.{declared.machine.step_done.StepDone.StepDone, Cell.Grows}
use Rattle.word_rule.proofs.OneHolds.{Waits, Since}
use Rattle.mcs_lock.specs.Passes.{IsWaitingOf, view_of_behind, view_of_waiting, state_of_behind, state_of_waiting}
use Rattle.mcs_lock.proofs.cell.McsCell.wait_behind.Given as goal

abbrev pub invariant-loop : goal.invariant-loop
invariant-loop g l = record {
  waiting : IsWaitingOf l.self l.waiting;
  caller : (view_of_waiting l.waiting).caller ≡ (view_of_behind l.fn.behind).caller;
  grows : Grows (view_of_behind l.fn.behind).caller.owned (view_of_behind l.fn.behind).seen (view_of_waiting l.waiting).seen;
  done : (done : List StepDone) × Waits 0 l.looks done × Since (view_of_behind l.fn.behind).caller (state_of_behind l.fn.behind).run done (state_of_waiting l.waiting);
}
