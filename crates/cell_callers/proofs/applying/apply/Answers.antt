use Rattle.std.specs.{declared.cmp.PartialEq.{Ghosts as Eq}, declared.default.Default.{Ghosts as Default}}
use Rattle.std.proofs.Common.{◌≡◌, refl, rules}
use Rattle.event_log.specs.declared.object.SeqObject.{Ghosts}
use Rattle.word_rule.specs.{declared.hold.Hold.Hold, Passes.state_of_hold}
use Rattle.guarded_cell.specs.{declared.cell.AnyCell.AnyCell, AnyCallers.{holder, state_of_caller}}
use Rattle.guarded_cell.specs.declared.cell.AnyCell.TheVariants as cells
use Rattle.cell_callers.proofs.applying.apply.Goals as goal

module _ {O P C R : Type 0} {g : Ghosts O P C R} {call_eq : Eq C} {call_default : Default C} {reply_eq : Eq R} {reply_default : Default R} where
  holder_state : (cell : AnyCell O P C R) (h : Hold O P C R g call_eq call_default reply_eq reply_default) → state_of_caller (holder cell h) ≡ state_of_hold h
  holder_state (cells.Ticket c) h = refl
  holder_state (cells.Mcs c) h = refl

pub returns-in-Ok-clause-of : goal.returns-in-Ok-clause-of
returns-in-Ok-clause-of g c = let of = c.shared_apply_held-done.ensures.of c.args.cell.now c.in-Ok.ensures.hold.0 in search rules

pub returns-in-Ok-clause-caller : goal.returns-in-Ok-clause-caller
returns-in-Ok-clause-caller g c =
    let done = c.shared_apply_held-done in
    rw c.holder.ensures (rw c.in-Ok.ensures.hold.1 (rw (holder_state c.args.cell.now done.new.hold) (rw (holder_state c.args.cell.now c.in-Ok.hold) done.ensures.caller)))
