-- Atomic operations that aren't a single turn of a lock's definition: an arrival, which is two turns; a turn after which the CPU
-- rests with a try prepared; and one that gives up such a try.
use Rattle.std.specs.Prelude.{ℕ, true, List, [], ◌∷◌, Option}
use Rattle.atomic_table.specs.declared.shared.Seat.{Seat as TableSeat}
use Rattle.event_log.specs.{declared.object.SeqObject.Ghosts, History.History}
use Rattle.word_rule.specs.{declared.lock_table.LockTable.LockTable, declared.machine.step_done.StepDone.StepDone, Line.going, Locks.{Lock, prepare, turn}, Mcs.State.untried, Rule.CellInvariant.SeatView, Rule.Definition.Makes, Rule.Operations.Asks, Rule.Seats.Seat}
use Rattle.word_rule.specs.declared.machine.step_done.StepDone.TheVariants as steps

-- two turns of the CPU, one after the other
abbrev pub two_turns : Lock → ℕ → Lock × List StepDone
two_turns l i = let t = turn l i in ((turn t.0 i).0, t.1 ∷ (turn t.0 i).1 ∷ [])

-- the lock without the try that the CPU may have prepared
abbrev pub unready : Lock → ℕ → Lock
unready l i = record l { line = going l.line i (untried (l.line.stage i)) }

-- the CPU arrives by two turns, as if it had prepared no try
abbrev pub arrives : Lock → ℕ → Lock × List StepDone
arrives l i = two_turns (unready l i) i

-- a CPU whose step has emptied the line rests: it has prepared a try
abbrev pub readied : StepDone → Lock → ℕ → Lock
readied (steps.Empty true) l i = prepare l i
readied s l i = l

-- the CPU takes its turn, and rests if that has emptied the line
abbrev pub rests : Lock → ℕ → Lock × List StepDone
rests l i = let t = turn l i in (readied t.1 t.0 i, t.1 ∷ [])

-- the CPU gives up the try that it has prepared, which is no step
abbrev pub withdraws : Lock → ℕ → Lock × List StepDone
withdraws l i = (unready l i, [])

module _ {O P C R : Type 0} (meaning : Ghosts O P C R) (t : LockTable O P C R) (s : TableSeat (Option (History O P C R)) (SeatView O P C R)) (word : ℕ) where
  -- the seat is this table's, and its caller may take such a step
  abbrev AsksSo : (Lock → ℕ → Lock × List StepDone) → (ℕ → ℕ) → (ℕ → Seat O P C R → Type 0) → Type 0
  AsksSo next f then = Asks meaning t s word (Makes meaning t.table.shared.key.kind t.table.shared.key next t.table.shared.table_id.slots s.id s.me word f then)

  -- it arrives
  abbrev pub AsksArrival : (ℕ → ℕ) → (ℕ → Seat O P C R → Type 0) → Type 0
  AsksArrival = AsksSo arrives

  -- it takes its turn, and rests if that has emptied the line
  abbrev pub AsksRest : (ℕ → ℕ) → (ℕ → Seat O P C R → Type 0) → Type 0
  AsksRest = AsksSo rests

  -- it gives up the try that it has prepared
  abbrev pub AsksWithdrawal : (ℕ → ℕ) → (ℕ → Seat O P C R → Type 0) → Type 0
  AsksWithdrawal = AsksSo withdraws
