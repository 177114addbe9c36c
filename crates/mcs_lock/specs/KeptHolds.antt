-- Contracts of MCS lock holders whose object stays in its slot.
use Rattle.std.specs.{declared.cmp.PartialEq.{Ghosts as Eq}, declared.default.Default.{Ghosts as Default}}
use Rattle.event_log.specs.declared.object.SeqObject.{Ghosts}
use Rattle.word_rule.specs.{declared.lock_kind.Stage.TheVariants.Mcs, declared.lock_kind.McsStage.TheVariants.{Holding, Alone}, Cell.stored, CallerState.CallerState, Rule.Callers.state_with, Sides.IsOutsideAt}
use Rattle.mcs_lock.specs.{declared.cell.McsCell.McsCell, declared.kept.Kept.{Kept as KeptCaller}, declared.kept.KeptAlone.{KeptAlone as KeptAloneCaller}}

module _ {O P C R : Type 0} {g : Ghosts O P C R} {call_eq : Eq C} {call_default : Default C} {reply_eq : Eq R} {reply_default : Default R} where
  -- a holder of the cell
  abbrev pub IsKeptOf : McsCell O P C R → KeptCaller O P C R g call_eq call_default reply_eq reply_default → Type 0
  IsKeptOf c k = IsOutsideAt c.table k.outside

  abbrev pub IsKeptAloneOf : McsCell O P C R → KeptAloneCaller O P C R g call_eq call_default reply_eq reply_default → Type 0
  IsKeptAloneOf c k = IsOutsideAt c.table k.outside

  -- the state of each: a hold of the object that its log leaves
  abbrev pub state_of_kept : KeptCaller O P C R g call_eq call_default reply_eq reply_default → CallerState O P C R
  state_of_kept k = state_with k.outside.key.value (Mcs Holding) (stored g k.outside.key.value k.outside.seat.me.0.main.seen) k.outside.seat.me

  abbrev pub state_of_kept_alone : KeptAloneCaller O P C R g call_eq call_default reply_eq reply_default → CallerState O P C R
  state_of_kept_alone k = state_with k.outside.key.value (Mcs Alone) (stored g k.outside.key.value k.outside.seat.me.0.main.seen) k.outside.seat.me
