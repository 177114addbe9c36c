-- A caller is of a cell in at most one way, and so is a pass.
use Rattle.std.specs.{declared.cmp.PartialEq.{Ghosts as Eq}, declared.default.Default.{Ghosts as Default}}
use Rattle.event_log.specs.declared.object.SeqObject.{Ghosts}
use Rattle.event_log.proofs.Props.{legal_props}
use Rattle.word_rule.specs.declared.pass.Pass.{Pass}
use Rattle.guarded_cell.specs.{declared.cell.AnyCell.AnyCell, declared.any_caller.AnyCaller.AnyCaller, AnyCallers.IsCallerOf, Kinds.IsPassOf}
use Rattle.guarded_cell.specs.declared.cell.AnyCell.TheVariants as cells
use Rattle.guarded_cell.specs.declared.any_caller.AnyCaller.TheVariants as callers
use Rattle.ticket_lock.specs.declared.caller.TicketCaller.TheVariants as at_ticket
use Rattle.mcs_lock.specs.declared.caller.McsCaller.TheVariants as at_mcs

module _ {O P C R : Type 0} {g : Ghosts O P C R} {call_eq : Eq C} {call_default : Default C} {reply_eq : Eq R} {reply_default : Default R} where
  pub of_prop : IsSet O → IsSet P → IsSet C → IsSet R → (cell : AnyCell O P C R) (p : AnyCaller O P C R g call_eq call_default reply_eq reply_default) → IsProp (IsCallerOf cell p)
  of_prop so sp sc sr (cells.Ticket c) (callers.Ticket (at_ticket.Idle p)) = hlevel (so, sp, sc, sr, legal_props)
  of_prop so sp sc sr (cells.Ticket c) (callers.Ticket (at_ticket.Drawn p)) = hlevel (so, sp, sc, sr, legal_props)
  of_prop so sp sc sr (cells.Ticket c) (callers.Ticket (at_ticket.Holding p)) = hlevel (so, sp, sc, sr, legal_props)
  of_prop so sp sc sr (cells.Ticket c) (callers.Mcs p) = hlevel (so, sp, sc, sr, legal_props)
  of_prop so sp sc sr (cells.Mcs c) (callers.Ticket p) = hlevel (so, sp, sc, sr, legal_props)
  of_prop so sp sc sr (cells.Mcs c) (callers.Mcs (at_mcs.Idle p)) = hlevel (so, sp, sc, sr, legal_props)
  of_prop so sp sc sr (cells.Mcs c) (callers.Mcs (at_mcs.Rested p)) = hlevel (so, sp, sc, sr, legal_props)
  of_prop so sp sc sr (cells.Mcs c) (callers.Mcs (at_mcs.Ready p)) = hlevel (so, sp, sc, sr, legal_props)
  of_prop so sp sc sr (cells.Mcs c) (callers.Mcs (at_mcs.Behind p)) = hlevel (so, sp, sc, sr, legal_props)
  of_prop so sp sc sr (cells.Mcs c) (callers.Mcs (at_mcs.Armed p)) = hlevel (so, sp, sc, sr, legal_props)
  of_prop so sp sc sr (cells.Mcs c) (callers.Mcs (at_mcs.Waiting p)) = hlevel (so, sp, sc, sr, legal_props)
  of_prop so sp sc sr (cells.Mcs c) (callers.Mcs (at_mcs.Holding p)) = hlevel (so, sp, sc, sr, legal_props)
  of_prop so sp sc sr (cells.Mcs c) (callers.Mcs (at_mcs.Alone p)) = hlevel (so, sp, sc, sr, legal_props)
  of_prop so sp sc sr (cells.Mcs c) (callers.Mcs (at_mcs.Leaving p)) = hlevel (so, sp, sc, sr, legal_props)
  of_prop so sp sc sr (cells.Mcs c) (callers.Mcs (at_mcs.Passing p)) = hlevel (so, sp, sc, sr, legal_props)

  pub pass_prop : IsSet O → IsSet P → IsSet C → IsSet R → (cell : AnyCell O P C R) (p : Pass O P C R g call_eq call_default reply_eq reply_default) → IsProp (IsPassOf cell p)
  pass_prop so sp sc sr (cells.Ticket c) p = hlevel (so, sp, sc, sr, legal_props)
  pass_prop so sp sc sr (cells.Mcs c) p = hlevel (so, sp, sc, sr, legal_props)

pub ruleset of_props = (of_prop, pass_prop, legal_props)
