-- What contracts say of a cell's passes and holds, whichever lock the cell has.
use Rattle.std.specs.{Prelude.List, declared.cmp.PartialEq.{Ghosts as Eq}, declared.default.Default.{Ghosts as Default}}
use Rattle.event_log.specs.{declared.event.Event.Event, declared.object.SeqObject.Ghosts}
use Rattle.word_rule.specs.{declared.lock_kind.Stage.TheVariants.Idle, declared.view.TraceStep.TraceStep, declared.lock_table.LockTable.LockTable, declared.pass.Pass.Pass, declared.hold.Hold.Hold, Cell.{PassView, HoldView}, CallerState.CallerState, Sides.{IsOutsideAt, IsInsideAt, view_of_outside, view_of_inside, state_outside, state_inside}}

-- The types of callers are over all that an object is bound by.
module _ {O P C R : Type 0} {g : Ghosts O P C R} {call_eq : Eq C} {call_default : Default C} {reply_eq : Eq R} {reply_default : Default R} where
  -- a caller of the cell whose table it is
  abbrev pub IsPassAt : LockTable O P C R → Pass O P C R g call_eq call_default reply_eq reply_default → Type 0
  IsPassAt t p = IsOutsideAt t p.outside

  abbrev pub IsHoldAt : LockTable O P C R → Hold O P C R g call_eq call_default reply_eq reply_default → Type 0
  IsHoldAt t h = IsInsideAt t h.inside

  -- what a pass knows, and what a hold knows
  abbrev pub view_of_pass : Pass O P C R g call_eq call_default reply_eq reply_default → PassView O P C R
  view_of_pass p = view_of_outside p.outside

  abbrev pub view_of_hold : Hold O P C R g call_eq call_default reply_eq reply_default → HoldView O P C R
  view_of_hold h = view_of_inside h.inside

  -- where each stands
  abbrev pub state_of_pass : Pass O P C R g call_eq call_default reply_eq reply_default → CallerState O P C R
  state_of_pass p = state_outside Idle p.outside

  abbrev pub state_of_hold : Hold O P C R g call_eq call_default reply_eq reply_default → CallerState O P C R
  state_of_hold h = state_inside h.inside.outside.seat.me.0.main.stage h.inside

  -- the run that each has seen
  abbrev pub run_of_pass : Pass O P C R g call_eq call_default reply_eq reply_default → List (TraceStep (Event O P C R))
  run_of_pass p = p.outside.seat.me.0.main.run

  abbrev pub run_of_hold : Hold O P C R g call_eq call_default reply_eq reply_default → List (TraceStep (Event O P C R))
  run_of_hold h = h.inside.outside.seat.me.0.main.run
