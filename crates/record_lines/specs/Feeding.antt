-- A source whose text is handed on piece by piece.
use Rattle.std.specs.{Prelude.{ℕ, List, Option}, Io.KnownBytes.Consumes}
use Rattle.record_lines.specs.Sources.{IsRest}

-- the rest of a source was taken, and made that
abbrev pub HasTakenRest : {R : Type 0} → (List ℕ → R → Type 0) → Option (List ℕ) → R → Type 0
HasTakenRest takes remaining reader = (text : List ℕ) × IsRest remaining text × takes text reader

-- what was read of a source is refused with that fault
abbrev pub HasRefused : {F : Type 0} → (List ℕ → F → Type 0) → Option (List ℕ) → Option (List ℕ) → F → Type 0
HasRefused refuses old new fault = (seen : List ℕ) × Consumes old new seen × refuses seen fault

-- whatever was taken
abbrev pub TakesAny : {R : Type 0} → R → List ℕ → R → Type 0
TakesAny first text now = Unit {0}

-- whatever was refused
abbrev pub RefusesAny : {R F : Type 0} → R → List ℕ → F → Type 0
RefusesAny first text fault = Unit {0}
