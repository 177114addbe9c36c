-- What contracts say of an MCS lock's callers.
use Rattle.std.specs.{declared.cmp.PartialEq.{Ghosts as Eq}, declared.default.Default.{Ghosts as Default}}
use Rattle.event_log.specs.declared.object.SeqObject.{Ghosts}
use Rattle.word_rule.specs.{declared.lock_kind.Stage.TheVariants.{Mcs, Trying}, declared.lock_kind.McsStage.TheVariants.{Ready, Behind, Armed, Waiting, Alone, Leaving, Passing}, Cell.{PassView, HoldView}, CallerState.CallerState, Passes.{IsPassAt, IsHoldAt}, Sides.{IsOutsideAt, IsInsideAt, view_of_outside, view_of_inside, state_outside, state_inside}, declared.pass.Pass.Pass, declared.hold.Hold.Hold}
use Rattle.mcs_lock.specs.{declared.cell.McsCell.McsCell, declared.states.Ready.{Ready as ReadyCaller}, declared.states.Trying.{Trying as TryingCaller}, declared.states.Behind.{Behind as BehindCaller}, declared.states.Armed.{Armed as ArmedCaller}, declared.states.Waiting.{Waiting as WaitingCaller}, declared.states.Alone.{Alone as AloneCaller}, declared.states.Leaving.{Leaving as LeavingCaller}, declared.states.Passing.{Passing as PassingCaller}, declared.states.Entered.Entered}
use Rattle.mcs_lock.specs.declared.states.Entered.TheVariants as entered

-- The types of callers are over all that an object is bound by.
module _ {O P C R : Type 0} {g : Ghosts O P C R} {call_eq : Eq C} {call_default : Default C} {reply_eq : Eq R} {reply_default : Default R} where
  -- a caller of the cell, wherever it stands
  abbrev pub IsPassOf : McsCell O P C R → Pass O P C R g call_eq call_default reply_eq reply_default → Type 0
  IsPassOf c p = IsPassAt c.table p

  abbrev pub IsReadyOf : McsCell O P C R → ReadyCaller O P C R g call_eq call_default reply_eq reply_default → Type 0
  IsReadyOf c r = IsOutsideAt c.table r.outside

  abbrev pub IsTryingOf : McsCell O P C R → TryingCaller O P C R g call_eq call_default reply_eq reply_default → Type 0
  IsTryingOf c t = IsOutsideAt c.table t.outside

  abbrev pub IsBehindOf : McsCell O P C R → BehindCaller O P C R g call_eq call_default reply_eq reply_default → Type 0
  IsBehindOf c b = IsOutsideAt c.table b.outside

  abbrev pub IsArmedOf : McsCell O P C R → ArmedCaller O P C R g call_eq call_default reply_eq reply_default → Type 0
  IsArmedOf c a = IsOutsideAt c.table a.outside

  abbrev pub IsWaitingOf : McsCell O P C R → WaitingCaller O P C R g call_eq call_default reply_eq reply_default → Type 0
  IsWaitingOf c w = IsOutsideAt c.table w.outside

  abbrev pub IsHoldOf : McsCell O P C R → Hold O P C R g call_eq call_default reply_eq reply_default → Type 0
  IsHoldOf c h = IsHoldAt c.table h

  abbrev pub IsAloneOf : McsCell O P C R → AloneCaller O P C R g call_eq call_default reply_eq reply_default → Type 0
  IsAloneOf c a = IsInsideAt c.table a.inside

  abbrev pub IsLeavingOf : McsCell O P C R → LeavingCaller O P C R g call_eq call_default reply_eq reply_default → Type 0
  IsLeavingOf c l = IsInsideAt c.table l.inside

  abbrev pub IsPassingOf : McsCell O P C R → PassingCaller O P C R g call_eq call_default reply_eq reply_default → Type 0
  IsPassingOf c p = IsInsideAt c.table p.inside

  -- what each knows: without the object, and with it
  abbrev pub view_of_behind : BehindCaller O P C R g call_eq call_default reply_eq reply_default → PassView O P C R
  view_of_behind b = view_of_outside b.outside

  abbrev pub view_of_waiting : WaitingCaller O P C R g call_eq call_default reply_eq reply_default → PassView O P C R
  view_of_waiting w = view_of_outside w.outside

  abbrev pub view_of_leaving : LeavingCaller O P C R g call_eq call_default reply_eq reply_default → HoldView O P C R
  view_of_leaving l = view_of_inside l.inside

  abbrev pub view_of_passing : PassingCaller O P C R g call_eq call_default reply_eq reply_default → HoldView O P C R
  view_of_passing p = view_of_inside p.inside

  -- where each stands
  abbrev pub state_of_ready : ReadyCaller O P C R g call_eq call_default reply_eq reply_default → CallerState O P C R
  state_of_ready r = state_outside (Mcs Ready) r.outside

  abbrev pub state_of_trying : TryingCaller O P C R g call_eq call_default reply_eq reply_default → CallerState O P C R
  state_of_trying t = state_outside Trying t.outside

  abbrev pub state_of_behind : BehindCaller O P C R g call_eq call_default reply_eq reply_default → CallerState O P C R
  state_of_behind b = state_outside (Mcs (Behind b.ahead)) b.outside

  abbrev pub state_of_armed : ArmedCaller O P C R g call_eq call_default reply_eq reply_default → CallerState O P C R
  state_of_armed a = state_outside (Mcs (Armed a.ahead)) a.outside

  abbrev pub state_of_waiting : WaitingCaller O P C R g call_eq call_default reply_eq reply_default → CallerState O P C R
  state_of_waiting w = state_outside (Mcs Waiting) w.outside

  abbrev pub state_of_alone : AloneCaller O P C R g call_eq call_default reply_eq reply_default → CallerState O P C R
  state_of_alone a = state_inside (Mcs Alone) a.inside

  abbrev pub state_of_leaving : LeavingCaller O P C R g call_eq call_default reply_eq reply_default → CallerState O P C R
  state_of_leaving l = state_inside (Mcs Leaving) l.inside

  abbrev pub state_of_passing : PassingCaller O P C R g call_eq call_default reply_eq reply_default → CallerState O P C R
  state_of_passing p = state_inside (Mcs (Passing p.follower)) p.inside

  -- this holds of what a caller that has entered is
  abbrev pub IfHold : Entered O P C R g call_eq call_default reply_eq reply_default → (Hold O P C R g call_eq call_default reply_eq reply_default → Type 0) → Type 0
  IfHold (entered.Hold h) Q = Q h
  IfHold (entered.Behind b) Q = Unit {0}

  abbrev pub IfBehind : Entered O P C R g call_eq call_default reply_eq reply_default → (BehindCaller O P C R g call_eq call_default reply_eq reply_default → Type 0) → Type 0
  IfBehind (entered.Hold h) Q = Unit {0}
  IfBehind (entered.Behind b) Q = Q b
