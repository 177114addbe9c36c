-- A table that says of each thread whether it stands in a list.
use Rattle.std.specs.Prelude.{◌≡◌, ℕ, Bool, false, List, length, get_or}
use Rattle.event_log.specs.Distinct.{has, AreDistinctBelow}

-- entry t of the table says whether t is in the list, where each thread stands once
pub record AreMarked (table : List Bool) (list : List ℕ) : Type 0 where
  pub distinct : AreDistinctBelow (length table) list
  pub marks : (t : ℕ) → get_or table t false ≡ has t list
