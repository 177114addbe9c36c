-- Callers that keep their own state, of a cell behind a lock of either kind.
use Rattle.std.specs.{declared.cmp.PartialEq.{Ghosts as Eq}, declared.default.Default.{Ghosts as Default}}
use Rattle.event_log.specs.declared.object.SeqObject.{Ghosts}
use Rattle.word_rule.specs.{declared.pass.Pass.Pass, declared.hold.Hold.Hold, declared.progress.Polled.Polled, CallerState.CallerState}
use Rattle.guarded_cell.specs.{declared.cell.AnyCell.AnyCell, declared.any_caller.AnyCaller.AnyCaller}
use Rattle.ticket_lock.specs.Callers as ticket
use Rattle.mcs_lock.specs.Callers as mcs
use Rattle.ticket_lock.specs.declared.caller.TicketCaller.TheVariants as at_ticket
use Rattle.mcs_lock.specs.declared.caller.McsCaller.TheVariants as at_mcs
use Rattle.word_rule.specs.declared.progress.Polled.TheVariants as polled
use Rattle.guarded_cell.specs.declared.cell.AnyCell.TheVariants as cells
use Rattle.guarded_cell.specs.declared.any_caller.AnyCaller.TheVariants as callers

-- the same report of a caller of another type
abbrev pub map_polled : {H S T : Type 0} → (S → T) → Polled H S → Polled H T
map_polled f (polled.Held h looked) = polled.Held h looked
map_polled f (polled.Waits q) = polled.Waits (f q)
map_polled f (polled.Refused q) = polled.Refused (f q)

module _ {O P C R : Type 0} {g : Ghosts O P C R} {call_eq : Eq C} {call_default : Default C} {reply_eq : Eq R} {reply_default : Default R} where
  -- the caller is of the cell, and so of its lock
  abbrev pub IsCallerOf : AnyCell O P C R → AnyCaller O P C R g call_eq call_default reply_eq reply_default → Type 0
  IsCallerOf (cells.Ticket c) (callers.Ticket t) = ticket.IsCallerOf c t
  IsCallerOf (cells.Mcs c) (callers.Mcs m) = mcs.IsCallerOf c m
  IsCallerOf cell caller = ⊥

  -- its state
  abbrev pub state_of_caller : AnyCaller O P C R g call_eq call_default reply_eq reply_default → CallerState O P C R
  state_of_caller (callers.Ticket t) = ticket.state_of_caller t
  state_of_caller (callers.Mcs m) = mcs.state_of_caller m

  -- the idle caller with that pass, and the caller with that hold
  abbrev pub idle_caller : AnyCell O P C R → Pass O P C R g call_eq call_default reply_eq reply_default → AnyCaller O P C R g call_eq call_default reply_eq reply_default
  idle_caller (cells.Ticket c) p = callers.Ticket (at_ticket.Idle p)
  idle_caller (cells.Mcs c) p = callers.Mcs (at_mcs.Idle p)

  abbrev pub holder : AnyCell O P C R → Hold O P C R g call_eq call_default reply_eq reply_default → AnyCaller O P C R g call_eq call_default reply_eq reply_default
  holder (cells.Ticket c) h = callers.Ticket (at_ticket.Holding h)
  holder (cells.Mcs c) h = callers.Mcs (at_mcs.Holding h)
