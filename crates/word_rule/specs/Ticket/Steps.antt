-- The steps of a ticket lock, one relation for each kind.
use Rattle.std.specs.Prelude.{◌≡◌, ℕ, ◌+◌, ◌%◌, Bool, true, false, List, [], ◌∷◌, ◌++◌, length}
use Rattle.event_log.specs.{declared.object.SeqObject.Ghosts, declared.event.Event.Event}
use Rattle.word_rule.specs.{declared.lock_kind.Stage.TheVariants.{Idle, Ticket}, declared.lock_kind.TicketStage.TheVariants.{Drawn, Served}, declared.view.TraceStep.TraceStep, CallerState.{CallerState, Moves, Takes, Gives, NeedsAnother}, Cell.Caller, LockRuns.arrivals_in, Ticket.State.tickets, OneHold.leaving}
use Rattle.word_rule.specs.declared.machine.step_done.StepDone.TheVariants as steps

-- the run ends with the caller's draw, and the ticket is the cell's first one and as many more as had arrived in line before
pub record HasDrawn {O P C R : Type 0} (caller : Caller O P C R) (ticket : ℕ) (run : List (TraceStep (Event O P C R))) : Type 0 where
  pub before : List (TraceStep (Event O P C R))
  pub is : run ≡ before ++ leaving caller.acting steps.Draw [] ∷ []
  pub number : ticket ≡ (caller.cell.first + length (arrivals_in before)) % tickets

module _ {O P C R : Type 0} (meaning : Ghosts O P C R) (before after : CallerState O P C R) where
  -- the caller joins the line's end, and has the next ticket
  abbrev pub IsDraw : Type 0
  IsDraw = (ticket : ℕ) × Moves meaning Idle (Ticket (Drawn ticket)) (steps.Draw ∷ []) before after × HasDrawn before.caller ticket after.run

  -- the caller looks whether its ticket is served: it gets the object, or has looked in vain
  abbrev pub IsLook : Bool → Type 0
  IsLook true = (ticket : ℕ) × Takes meaning (Ticket (Drawn ticket)) (Ticket (Served ticket)) (steps.Look true ∷ []) before after
  IsLook false = (ticket : ℕ) × NeedsAnother meaning (Moves meaning (Ticket (Drawn ticket)) (Ticket (Drawn ticket)) (steps.Look false ∷ [])) before after

  -- the caller tries to be the only one in line: it gets the object, by a draw and a look at once, or does nothing
  abbrev pub IsTry : Bool → Type 0
  IsTry true = (ticket : ℕ) × Takes meaning Idle (Ticket (Served ticket)) (steps.Draw ∷ steps.Look true ∷ []) before after
  IsTry false = NeedsAnother meaning (Moves meaning Idle Idle []) before after

  -- the caller gives the object back, and the next ticket is served
  abbrev pub IsServe : Type 0
  IsServe = (ticket : ℕ) × Gives meaning (Ticket (Served ticket)) Idle steps.Serve before after
