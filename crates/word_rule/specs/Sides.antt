-- What contracts say of a cell's caller, without the object and with it, whichever lock the cell has.
use Rattle.event_log.specs.declared.object.SeqObject.{Ghosts}
use Rattle.word_rule.specs.{declared.lock_kind.Stage.Stage, declared.lock_table.LockTable.LockTable, declared.caller.Outside.Outside, declared.caller.Inside.Inside, Cell.{PassView, HoldView}, CallerState.CallerState, Rule.Callers.{IsAt, IsWithout, IsWith, pass_view_of, hold_view_of, state_without, state_with}}

module _ {O P C R : Type 0} where
  -- it is of the cell whose table it is
  abbrev pub IsOutsideAt : LockTable O P C R → Outside O P C R → Type 0
  IsOutsideAt t x = IsAt t.table.shared.table_id t.table.shared.key x.seat.table_id x.key.value

  abbrev pub IsInsideAt : LockTable O P C R → Inside O P C R → Type 0
  IsInsideAt t x = IsOutsideAt t x.outside

  -- what it knows
  abbrev pub view_of_outside : Outside O P C R → PassView O P C R
  view_of_outside x = pass_view_of x.key.value x.seat.me.0

  abbrev pub view_of_inside : Inside O P C R → HoldView O P C R
  view_of_inside x = hold_view_of x.outside.key.value x.logged x.outside.seat.me.0

  -- where it stands, by its stage
  abbrev pub state_outside : Stage → Outside O P C R → CallerState O P C R
  state_outside stage x = state_without x.key.value stage x.seat.me

  abbrev pub state_inside : Stage → Inside O P C R → CallerState O P C R
  state_inside stage x = state_with x.outside.key.value stage x.logged x.outside.seat.me

  -- it stands there
  abbrev pub StandsOutside : Ghosts O P C R → Stage → Outside O P C R → Type 0
  StandsOutside meaning stage x = IsWithout meaning x.key.value x.cpu.number stage x.seat.me

  abbrev pub StandsInside : Ghosts O P C R → Stage → Inside O P C R → Type 0
  StandsInside meaning stage x = IsWith meaning x.outside.key.value x.outside.cpu.number stage x.logged x.outside.seat.me
