-- A hold of a cell of either kind that stays its hold.
use Rattle.std.proofs.Common.{◌≡◌, ◌∙◌}
use Rattle.std.specs.{declared.cmp.PartialEq.{Ghosts as Eq}, declared.default.Default.{Ghosts as Default}}
use Rattle.event_log.specs.declared.object.SeqObject.{Ghosts}
use Rattle.word_rule.specs.declared.hold.Hold.{Hold}
use Rattle.guarded_cell.specs.{declared.cell.AnyCell.AnyCell, Kinds.IsHoldOf}
use Rattle.guarded_cell.specs.declared.cell.AnyCell.TheVariants as cells

module _ {O P C R : Type 0} {g : Ghosts O P C R} {call_eq : Eq C} {call_default : Default C} {reply_eq : Eq R} {reply_default : Default R} where
  pub stays : (cell : AnyCell O P C R) (a b : Hold O P C R g call_eq call_default reply_eq reply_default) → b.inside.outside.seat.table_id ≡ a.inside.outside.seat.table_id → b.inside.outside.key.value ≡ a.inside.outside.key.value → IsHoldOf cell a → IsHoldOf cell b
  stays (cells.Ticket c) a b table reported of = record { table = table ∙ of.table; reported = reported ∙ of.reported }
  stays (cells.Mcs c) a b table reported of = record { table = table ∙ of.table; reported = reported ∙ of.reported }
