-- Callers of a ticket lock that keep their own state.
use Rattle.std.specs.{declared.cmp.PartialEq.{Ghosts as Eq}, declared.default.Default.{Ghosts as Default}}
use Rattle.event_log.specs.declared.object.SeqObject.{Ghosts}
use Rattle.word_rule.specs.{CallerState.CallerState, Passes.{state_of_pass, state_of_hold}}
use Rattle.ticket_lock.specs.{declared.cell.TicketCell.TicketCell, declared.caller.TicketCaller.TicketCaller, Passes.{IsPassOf, IsDrawnOf, IsHoldOf, state_of_drawn}}
use Rattle.ticket_lock.specs.declared.caller.TicketCaller.TheVariants as at

module _ {O P C R : Type 0} {g : Ghosts O P C R} {call_eq : Eq C} {call_default : Default C} {reply_eq : Eq R} {reply_default : Default R} where
  -- the caller is of the cell
  abbrev pub IsCallerOf : TicketCell O P C R → TicketCaller O P C R g call_eq call_default reply_eq reply_default → Type 0
  IsCallerOf c (at.Idle p) = IsPassOf c p
  IsCallerOf c (at.Drawn d) = IsDrawnOf c d
  IsCallerOf c (at.Holding h) = IsHoldOf c h

  -- its state
  abbrev pub state_of_caller : TicketCaller O P C R g call_eq call_default reply_eq reply_default → CallerState O P C R
  state_of_caller (at.Idle p) = state_of_pass p
  state_of_caller (at.Drawn d) = state_of_drawn d
  state_of_caller (at.Holding h) = state_of_hold h
