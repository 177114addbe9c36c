-- What who reads a text in pieces has taken of it.
use Rattle.std.specs.Prelude.{List, ℕ}
use Rattle.record_lines.specs.{declared.text.fault.LinesFault.LinesFault, declared.text.fault.LinesFault.TheVariants.{OutOfMemory, Line}, declared.text.line_machine.Pieces.Pieces, LineMachine.{HasTaken, IsHeld, IsKept, RefusesLine}}

module _ {S : Type 0} (takes : List ℕ → S → S → Type 0) where
  -- the whole lines of the text were taken, and what follows them is kept
  abbrev pub HasFed : S → List ℕ → Pieces S → Type 0
  HasFed start text p = HasTaken takes start text p.lines p.number p.passing p.pending.items

  -- that is kept of a line without an end
  abbrev pub Keeps : Pieces S → List ℕ → Type 0
  Keeps p unended = IsKept takes p.lines unended p.passing p.pending.items

  -- from the first on the text was taken, of which no more is held than of a line without an end
  abbrev pub TakesPieces : Pieces S → List ℕ → Pieces S → Type 0
  TakesPieces first text p = HasFed first.lines text p × IsHeld takes p.lines p.pending.items

  -- the line that is named is refused, whatever follows the text
  abbrev pub RefusesPieces : (List ℕ → S → Type 0) → (ℕ → ℕ → Type 0) → Pieces S → List ℕ → LinesFault → Type 0
  RefusesPieces refuses fits first text OutOfMemory = Unit {0}
  RefusesPieces refuses fits first text (Line n) = RefusesLine takes refuses fits text first.lines 1 n
