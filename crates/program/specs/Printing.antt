-- What was printed: known contents of a stream grew by such a text, or by a beginning of one.
use Rattle.std.specs.{Prelude.{ℕ, List, Option}, Io.KnownBytes.Appends}
use Rattle.record_lines.specs.Output.{AppendsBeginning}

module _ (Is : List ℕ → Type 0) (old new : Option (List ℕ)) where
  -- they grew by such a text
  abbrev pub Prints : Type 0
  Prints = (text : List ℕ) × Is text × Appends old new text

  -- they grew by a beginning of such a text
  abbrev pub PrintsSome : Type 0
  PrintsSome = (text : List ℕ) × Is text × AppendsBeginning old new text
