-- Cells behind a lock of either kind, and their callers.
use Rattle.std.specs.{declared.cmp.PartialEq.{Ghosts as Eq}, declared.default.Default.{Ghosts as Default}}
use Rattle.event_log.specs.declared.object.SeqObject.{Ghosts}
use Rattle.sound_run.specs.declared.lock_kind.LockKind.{LockKind}
use Rattle.word_rule.specs.{Cell.Cell, declared.pass.Pass.Pass, declared.hold.Hold.Hold}
use Rattle.ticket_lock.specs.Passes.{IsPassOf as IsTicketPass, IsHoldOf as IsTicketHold}
use Rattle.mcs_lock.specs.Passes.{IsPassOf as IsMcsPass, IsHoldOf as IsMcsHold}
use Rattle.guarded_cell.specs.declared.cell.AnyCell.{AnyCell}
use Rattle.sound_run.specs.declared.lock_kind.LockKind.TheVariants as kinds
use Rattle.guarded_cell.specs.declared.cell.AnyCell.TheVariants as cells

module _ {O P C R : Type 0} where
  -- which lock guards the cell's object
  abbrev pub kind_of : AnyCell O P C R → LockKind
  kind_of (cells.Ticket c) = kinds.Ticket
  kind_of (cells.Mcs c) = kinds.Mcs

  -- what was fixed when the cell was opened
  abbrev pub fixed_of : AnyCell O P C R → Cell O P C R
  fixed_of (cells.Ticket c) = c.table.table.shared.key
  fixed_of (cells.Mcs c) = c.table.table.shared.key

-- The types of callers are over all that an object is bound by.
module _ {O P C R : Type 0} {g : Ghosts O P C R} {call_eq : Eq C} {call_default : Default C} {reply_eq : Eq R} {reply_default : Default R} where
  -- the pass is of the cell, and so of its kind
  abbrev pub IsPassOf : AnyCell O P C R → Pass O P C R g call_eq call_default reply_eq reply_default → Type 0
  IsPassOf (cells.Ticket c) p = IsTicketPass c p
  IsPassOf (cells.Mcs c) p = IsMcsPass c p

  -- the hold is of the cell, and so of its kind
  abbrev pub IsHoldOf : AnyCell O P C R → Hold O P C R g call_eq call_default reply_eq reply_default → Type 0
  IsHoldOf (cells.Ticket c) h = IsTicketHold c h
  IsHoldOf (cells.Mcs c) h = IsMcsHold c h
