-- Passes of the cells whose calls are timed.
use Rattle.std.proofs.Props.{props}
use Rattle.std.specs.{Prelude.ℕ, declared.cmp.PartialEq.{Ghosts as Eq}, declared.default.Default.{Ghosts as Default}}
use Rattle.event_log.specs.declared.object.SeqObject.{Ghosts}
use Rattle.shared_queue.specs.{declared.queue.ThreadQueue.ThreadQueue, declared.call.QueueCall.QueueCall, declared.call.QueueReply.QueueReply}
use Rattle.word_rule.specs.declared.pass.Pass.{Pass}
use Rattle.ticket_lock.specs.Passes.{IsPassOf as IsTicketPass}
use Rattle.mcs_lock.specs.Passes.{IsPassOf as IsMcsPass}
use Rattle.guarded_cell.specs.Kinds.{IsPassOf as IsEitherPass}
use Rattle.bench.specs.declared.cells.Cell.{Cell}
use Rattle.guarded_cell.specs.declared.cell.AnyCell.TheVariants as either
use Rattle.bench.specs.declared.cells.Cell.TheVariants as cells

module _ {g : Ghosts ThreadQueue ℕ QueueCall QueueReply} {ce : Eq QueueCall} {cd : Default QueueCall} {re : Eq QueueReply} {rd : Default QueueReply} where
  -- the pass is of the cell
  abbrev pub IsPassOf : Cell → Pass ThreadQueue ℕ QueueCall QueueReply g ce cd re rd → Type 0
  IsPassOf (cells.Ticket c) p = IsTicketPass c p
  IsPassOf (cells.Mcs c) p = IsMcsPass c p
  IsPassOf (cells.Any c) p = IsEitherPass c p

  -- and is so in one way at most
  pub IsPassOf-prop : (c : Cell) (p : Pass ThreadQueue ℕ QueueCall QueueReply g ce cd re rd) → IsProp (IsPassOf c p)
  IsPassOf-prop (cells.Ticket c) p = hlevel props
  IsPassOf-prop (cells.Mcs c) p = hlevel props
  IsPassOf-prop (cells.Any (either.Ticket c)) p = hlevel props
  IsPassOf-prop (cells.Any (either.Mcs c)) p = hlevel props
