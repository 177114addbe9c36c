-- Callers of an MCS lock that keep their own state.
use Rattle.std.specs.{declared.cmp.PartialEq.{Ghosts as Eq}, declared.default.Default.{Ghosts as Default}}
use Rattle.event_log.specs.declared.object.SeqObject.{Ghosts}
use Rattle.word_rule.specs.{CallerState.CallerState, Passes.{state_of_pass, state_of_hold}}
use Rattle.mcs_lock.specs.{declared.cell.McsCell.McsCell, declared.caller.McsCaller.McsCaller, Arrivals.{IsRestedOf, state_of_rested}, Passes.{IsPassOf, IsReadyOf, IsBehindOf, IsArmedOf, IsWaitingOf, IsHoldOf, IsAloneOf, IsLeavingOf, IsPassingOf, state_of_ready, state_of_behind, state_of_armed, state_of_waiting, state_of_alone, state_of_leaving, state_of_passing}}
use Rattle.mcs_lock.specs.declared.caller.McsCaller.TheVariants as at

module _ {O P C R : Type 0} {g : Ghosts O P C R} {call_eq : Eq C} {call_default : Default C} {reply_eq : Eq R} {reply_default : Default R} where
  -- the caller is of the cell
  abbrev pub IsCallerOf : McsCell O P C R → McsCaller O P C R g call_eq call_default reply_eq reply_default → Type 0
  IsCallerOf c (at.Idle p) = IsPassOf c p
  IsCallerOf c (at.Rested r) = IsRestedOf c r
  IsCallerOf c (at.Ready r) = IsReadyOf c r
  IsCallerOf c (at.Behind b) = IsBehindOf c b
  IsCallerOf c (at.Armed a) = IsArmedOf c a
  IsCallerOf c (at.Waiting w) = IsWaitingOf c w
  IsCallerOf c (at.Holding h) = IsHoldOf c h
  IsCallerOf c (at.Alone a) = IsAloneOf c a
  IsCallerOf c (at.Leaving l) = IsLeavingOf c l
  IsCallerOf c (at.Passing p) = IsPassingOf c p

  -- its state
  abbrev pub state_of_caller : McsCaller O P C R g call_eq call_default reply_eq reply_default → CallerState O P C R
  state_of_caller (at.Idle p) = state_of_pass p
  state_of_caller (at.Rested r) = state_of_rested r
  state_of_caller (at.Ready r) = state_of_ready r
  state_of_caller (at.Behind b) = state_of_behind b
  state_of_caller (at.Armed a) = state_of_armed a
  state_of_caller (at.Waiting w) = state_of_waiting w
  state_of_caller (at.Holding h) = state_of_hold h
  state_of_caller (at.Alone a) = state_of_alone a
  state_of_caller (at.Leaving l) = state_of_leaving l
  state_of_caller (at.Passing p) = state_of_passing p
