-- Contracts of arrivals at a ticket lock.
use Rattle.std.specs.{declared.cmp.PartialEq.{Ghosts as Eq}, declared.default.Default.{Ghosts as Default}}
use Rattle.event_log.specs.declared.object.SeqObject.{Ghosts}
use Rattle.word_rule.specs.{declared.pass.Pass.Pass, CallerState.CallerState, Passes.state_of_pass, Ticket.Steps.IsDraw}
use Rattle.ticket_lock.specs.{declared.cell.TicketCell.TicketCell, declared.states.Drawn.{Drawn as DrawnCaller}, Passes.{IsDrawnOf, state_of_drawn}}

module _ {O P C R : Type 0} {g : Ghosts O P C R} {call_eq : Eq C} {call_default : Default C} {reply_eq : Eq R} {reply_default : Default R} where
  -- the caller drew a ticket, and this is true of its state then
  abbrev pub AfterDraw : TicketCell O P C R → Pass O P C R g call_eq call_default reply_eq reply_default → (CallerState O P C R → Type 0) → Type 0
  AfterDraw c p then = (d : DrawnCaller O P C R g call_eq call_default reply_eq reply_default) × IsDrawnOf c d × IsDraw g (state_of_pass p) (state_of_drawn d) × then (state_of_drawn d)
