-- Contracts of MCS lock callers that rest with `next` clear, and of their arrivals.
use Rattle.std.specs.{declared.cmp.PartialEq.{Ghosts as Eq}, declared.default.Default.{Ghosts as Default}}
use Rattle.event_log.specs.declared.object.SeqObject.{Ghosts}
use Rattle.word_rule.specs.{declared.lock_kind.Stage.TheVariants.Idle, CallerState.CallerState, Mcs.Steps.IsClear, Sides.{IsOutsideAt, state_outside}}
use Rattle.mcs_lock.specs.{declared.cell.McsCell.McsCell, declared.rested.Rested.{Rested as RestedCaller}, declared.states.Ready.{Ready as ReadyCaller}, Passes.{IsReadyOf, state_of_ready}}

module _ {O P C R : Type 0} {g : Ghosts O P C R} {call_eq : Eq C} {call_default : Default C} {reply_eq : Eq R} {reply_default : Default R} where
  -- a caller of the cell
  abbrev pub IsRestedOf : McsCell O P C R → RestedCaller O P C R g call_eq call_default reply_eq reply_default → Type 0
  IsRestedOf c t = IsOutsideAt c.table t.outside

  -- its state: it is idle
  abbrev pub state_of_rested : RestedCaller O P C R g call_eq call_default reply_eq reply_default → CallerState O P C R
  state_of_rested t = state_outside Idle t.outside

  -- the caller cleared its `next`, and this is true of its state then
  abbrev pub AfterClear : McsCell O P C R → RestedCaller O P C R g call_eq call_default reply_eq reply_default → (CallerState O P C R → Type 0) → Type 0
  AfterClear c t then = (r : ReadyCaller O P C R g call_eq call_default reply_eq reply_default) × IsReadyOf c r × IsClear g (state_of_rested t) (state_of_ready r) × then (state_of_ready r)
