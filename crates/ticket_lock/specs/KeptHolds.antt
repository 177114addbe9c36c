-- Contracts of ticket lock holders whose object stays in its slot.
use Rattle.std.specs.{declared.cmp.PartialEq.{Ghosts as Eq}, declared.default.Default.{Ghosts as Default}}
use Rattle.event_log.specs.declared.object.SeqObject.{Ghosts}
use Rattle.word_rule.specs.{declared.lock_kind.Stage.TheVariants.Ticket, declared.lock_kind.TicketStage.TheVariants.Served, Cell.stored, CallerState.CallerState, Rule.Callers.state_with, Sides.IsOutsideAt}
use Rattle.ticket_lock.specs.{declared.cell.TicketCell.TicketCell, declared.kept.Kept.Kept}

module _ {O P C R : Type 0} {g : Ghosts O P C R} {call_eq : Eq C} {call_default : Default C} {reply_eq : Eq R} {reply_default : Default R} where
  -- a holder of the cell
  abbrev pub IsKeptOf : TicketCell O P C R → Kept O P C R g call_eq call_default reply_eq reply_default → Type 0
  IsKeptOf c k = IsOutsideAt c.table k.outside

  -- its state: a hold of the object that its log leaves
  abbrev pub state_of_kept : Kept O P C R g call_eq call_default reply_eq reply_default → CallerState O P C R
  state_of_kept k = state_with k.outside.key.value (Ticket (Served k.ticket)) (stored g k.outside.key.value k.outside.seat.me.0.main.seen) k.outside.seat.me
