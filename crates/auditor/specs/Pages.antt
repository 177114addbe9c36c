-- What a pool keeps beside its table of owners.
use Rattle.std.specs.Prelude.{◌≡◌, ℕ, ◌<◌, ◌≤◌, false, Option, is_none, List, get_or}
use Rattle.page_pool.specs.Table.{owner_of, held_by}

-- every page below n has an owner
abbrev pub AreTakenBelow : ℕ → List (Option ℕ) → Type 0
AreTakenBelow n owners = (p : ℕ) → p < n → is_none (owner_of owners p) ≡ false

-- entry o of the counts says how many pages owner o has
abbrev pub AreCounted : List ℕ → List (Option ℕ) → Type 0
AreCounted counts owners = (o : ℕ) → o ≤ 15 → get_or counts o 0 ≡ held_by owners o
