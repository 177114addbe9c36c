-- Which words can be the names of files.
use Rattle.std.specs.Prelude.{◌≡◌, ◌==◌, ℕ, Bool, true, false, List, [], ◌∷◌, Option, Some, IfSome}

-- the word can't be the name of a file: it is empty, or begins with `-`
abbrev pub is_no_name : List ℕ → Bool
is_no_name [] = true
is_no_name (byte ∷ rest) = byte == 45

-- the value of an option or of a place, if there is one, is that name of a file
abbrev pub IsFile : Option (List ℕ) → Option (List ℕ) → Type 0
IsFile value name = (value ≡ name) × IfSome name (λ n. is_no_name n ≡ false)

-- there is one, and it is that name of a file
abbrev pub IsWanted : Option (List ℕ) → List ℕ → Type 0
IsWanted value name = (value ≡ Some name) × (is_no_name name ≡ false)
