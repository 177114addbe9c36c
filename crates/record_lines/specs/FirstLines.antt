-- The first lines of a text.
use Rattle.std.specs.Prelude.{ℕ, zero, suc, ◌==◌, if◌then◌else◌, List, [], ◌∷◌}

-- the first n lines with their ends; where there are fewer, all that there is
unfoldable pub first_lines : ℕ → List ℕ → List ℕ
first_lines zero bytes = []
first_lines (suc n) [] = []
first_lines (suc n) (b ∷ bytes) = b ∷ (if b == 10 then first_lines n bytes else first_lines (suc n) bytes)
