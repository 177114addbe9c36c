use Rattle.std.proofs.Common.{◌≡◌, List, ◌∷◌, false}
use Rattle.word_rule.specs.{Cell.Grows, declared.machine.step_done.StepDone.StepDone}
use Rattle.word_rule.proofs.OneHolds.{Waits, Since}
use Rattle.ticket_lock.specs.Passes.{IsDrawnOf, view_of_drawn, state_of_drawn}
use Rattle.word_rule.specs.declared.machine.step_done.StepDone.TheVariants as steps
use Rattle.ticket_lock.proofs.cell.TicketCell.look_on.Given as goal

abbrev pub invariant-loop : goal.invariant-loop
invariant-loop g l = record {
  drawn : IsDrawnOf l.self l.drawn;
  caller : (view_of_drawn l.drawn).caller ≡ (view_of_drawn l.fn.drawn).caller;
  grows : Grows (view_of_drawn l.fn.drawn).caller.owned (view_of_drawn l.fn.drawn).seen (view_of_drawn l.drawn).seen;
  done : (done : List StepDone) × Waits 0 l.looks (steps.Look false ∷ done) × Since (view_of_drawn l.fn.drawn).caller (state_of_drawn l.fn.drawn).run done (state_of_drawn l.drawn);
}
