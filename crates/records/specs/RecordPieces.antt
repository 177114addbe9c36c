-- Reading a record piece by piece.
use Rattle.std.specs.{Prelude.{ℕ, ◌≡◌, ◌+◌, ◌<◌, ◌≤◌, ◌⊎◌, Bool, List, ◌++◌, length, Result, Ok, Err}, List.AllByRecursion}
use Rattle.record_lines.specs.{declared.text.line_machine.TheConstants.MOST_BYTES, declared.text.fault.LinesFault.LinesFault, declared.text.fault.LinesFault.TheVariants.{OutOfMemory, Line}, LineMachine.HasTaken, Words.{NoEnd, text_of_lines}}
use Rattle.records.specs.{RecordFaults.Agrees, RecordStates.{RecordState, nothing_read, TakesLine}}

-- what was read, the number of the line that has no end yet, and what is kept of it
pub record Reading : Type 0 where
  pub state : RecordState
  pub number : ℕ
  pub passing : Bool
  pub pending : List ℕ

-- the bytes were taken, and nothing else: their whole lines made what was read, and the line that has no end is kept
abbrev pub HasRead : Reading → List ℕ → Type 0
HasRead r bytes = HasTaken TakesLine nothing_read bytes r.state r.number r.passing r.pending

-- the bytes are these lines with their ends, and a rest that has none
pub record IsCut (bytes : List ℕ) (lines : List (List ℕ)) (rest : List ℕ) : Type 0 where
  pub each : AllByRecursion NoEnd lines
  pub no_end : NoEnd rest
  pub parts : bytes ≡ text_of_lines lines ++ rest

-- all lines before line n are right, and n has its end and is bad, or has none yet and is too long already
pub record IsRefused (bytes : List ℕ) (n : ℕ) : Type 0 where
  pub lines : List (List ℕ)
  pub rest : List ℕ
  pub cut : IsCut bytes lines rest
  pub before : (k : ℕ) → k < n → Agrees k bytes
  pub bad : ((n ≤ length lines) × (Agrees n bytes → ⊥)) ⊎ ((n ≡ length lines + 1) × (MOST_BYTES < length rest))

-- that line is named, unless memory ran out
abbrev pub IsRefusedAt : {X : Type 0} → ℕ → Result X LinesFault → Type 0
IsRefusedAt n (Ok x) = ⊥
IsRefusedAt n (Err OutOfMemory) = Unit {0}
IsRefusedAt n (Err (Line m)) = m ≡ n
