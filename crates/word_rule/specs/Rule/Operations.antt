-- What an operation on a cell's table asks of the seat that steps, and what it reports.
use Rattle.std.specs.Prelude.{◌≡◌, ℕ, ◌<◌, [], ◌∷◌, Option, Some, None}
use mathlib.Core.Option.{none}
use Rattle.atomic_table.specs.{Table.{Step, step, rest}, declared.shared.Seat.{Seat as TableSeat}}
use Rattle.event_log.specs.{declared.object.SeqObject.Ghosts, History.History}
use Rattle.word_rule.specs.{declared.lock_table.LockTable.LockTable, Rule.CellInvariant.SeatView, Rule.Definition.{IsTurn, IsTry, IsPreparing, IsRead}, Rule.Seats.{Seat, keeping, letting}}

module _ {O P C R : Type 0} where
  -- an operation on that word of the table, with these operands
  abbrev pub step_on : LockTable O P C R → ℕ → ℕ → ℕ → Step (Option (History O P C R))
  step_on t word a b = step t.table.shared.table_id.slots word a b none

  -- the seat has stepped, and this was reported
  abbrev pub Stepped : TableSeat (Option (History O P C R)) (SeatView O P C R) → TableSeat (Option (History O P C R)) (SeatView O P C R) → Type 0 → Type 0
  Stepped before after reported = (after.table_id ≡ before.table_id) × (after.id ≡ before.id) × reported

  -- both seats are at this table, neither has taken in a caller, and the other has nothing
  abbrev pub AreBeside : LockTable O P C R → TableSeat (Option (History O P C R)) (SeatView O P C R) → TableSeat (Option (History O P C R)) (SeatView O P C R) → Type 0
  AreBeside t s other = (s.table_id ≡ t.table.shared.table_id) × (other.table_id ≡ t.table.shared.table_id) × (other.me.1 ≡ []) × (0 < t.table.shared.table_id.words) × (s.me.0.others ≡ []) × (other.me.0.others ≡ [])

  -- the seat has let go to the other the first caller that it had taken in
  abbrev pub HasLetGo : TableSeat (Option (History O P C R)) (SeatView O P C R) → TableSeat (Option (History O P C R)) (SeatView O P C R) → TableSeat (Option (History O P C R)) (SeatView O P C R) → Type 0
  HasLetGo before after other = (after.table_id ≡ before.table_id) × (after.id ≡ before.id) × (after.me ≡ (keeping before.me.0, before.me.1)) × (other.table_id ≡ before.table_id) × (other.me ≡ (letting before.me.0, []))

  -- the seat is at this table, and has its object
  abbrev pub IsLending : LockTable O P C R → TableSeat (Option (History O P C R)) (SeatView O P C R) → Type 0
  IsLending t s = (s.table_id ≡ t.table.shared.table_id) × ((x : History O P C R) × (s.me.1 ≡ (0, Some x) ∷ rest s.me.1))

  -- the seat had this object, and has it no more
  abbrev pub HasLent : TableSeat (Option (History O P C R)) (SeatView O P C R) → TableSeat (Option (History O P C R)) (SeatView O P C R) → History O P C R → Type 0
  HasLent before after h = (after.table_id ≡ before.table_id) × (after.id ≡ before.id) × (before.me.1 ≡ (0, Some h) ∷ rest before.me.1) × (after.me ≡ (before.me.0, (0, None) ∷ rest before.me.1))

module _ {O P C R : Type 0} (meaning : Ghosts O P C R) (t : LockTable O P C R) (s : TableSeat (Option (History O P C R)) (SeatView O P C R)) (word : ℕ) where
  -- the seat is at this table, whose word may become f of what it was, by such a step
  abbrev pub Asks : Type 0 → Type 0
  Asks step = (s.table_id ≡ t.table.shared.table_id) × (word < t.table.shared.table_id.words) × step

  -- the seat is this table's, and the step is a turn of the lock
  abbrev pub AsksTurn : (ℕ → ℕ) → (ℕ → Seat O P C R → Type 0) → Type 0
  AsksTurn f then = Asks (IsTurn meaning t.table.shared.key.kind t.table.shared.key t.table.shared.table_id.slots s.id s.me word f then)

  -- a try, which found some ticket served
  abbrev pub AsksTry : (ℕ → ℕ) → (ℕ → Seat O P C R → Type 0) → Type 0
  AsksTry f then = Asks ((ticket : ℕ) × IsTry meaning t.table.shared.key.kind t.table.shared.key ticket t.table.shared.table_id.slots s.id s.me word f then)

  -- the seat is this table's, and the step is one that gets a try ready
  abbrev pub AsksReadying : (ℕ → ℕ) → (ℕ → Seat O P C R → Type 0) → Type 0
  AsksReadying f then = Asks (IsPreparing meaning t.table.shared.key.kind t.table.shared.key t.table.shared.table_id.slots s.id s.me word f then)

  -- the seat is this table's, and the step leaves the lock as it is
  abbrev pub AsksRead : (ℕ → ℕ) → (ℕ → Seat O P C R → Type 0) → Type 0
  AsksRead f then = Asks (IsRead meaning t.table.shared.key.kind t.table.shared.key t.table.shared.table_id.slots s.id s.me word f then)
