-- What is read of a source that shows its bytes.
use Rattle.std.specs.{Prelude.{ℕ, ◌≡◌, List, Option, Some, ◌≤◌, length, ◌<◌, ◌-◌, ◌^◌, []}, Io.KnownBytes.Consumes}

-- what is read is a source's rest, where it shows it
abbrev pub IsRest : Option (List ℕ) → List ℕ → Type 0
IsRest remaining text = (all : List ℕ) → remaining ≡ Some all → text ≡ all

-- at most so many bytes of a source were read, where it shows its bytes
abbrev pub ReadsAtMost : ℕ → Option (List ℕ) → Option (List ℕ) → Type 0
ReadsAtMost most old new = (seen : List ℕ) × Consumes old new seen × (length seen ≤ most)

-- a source that shows its bytes, fewer than 2^64 - 1, was read to its end
abbrev pub IsReadOut : Option (List ℕ) → Option (List ℕ) → Type 0
IsReadOut old new = (all : List ℕ) → old ≡ Some all → length all < 2 ^ 64 - 1 → new ≡ Some []
