-- Threads in a row between two gates: cells name the place behind each place, and the place before it. Below the gates'
-- places are the threads.
use Rattle.std.specs.Prelude.{◌≡◌, ℕ, ◌+◌, Bool, List, [], ◌∷◌, ◌++◌, length, get_or}
use Rattle.event_log.specs.Links.{walk, Linked}
use Rattle.auditor.specs.Marks.{AreMarked}

-- that many threads behind the front gate
abbrev pub row_of : List ℕ → ℕ → ℕ → List ℕ
row_of next front count = walk next (get_or next front 0) count

-- these threads stand between the gates, and the table says which they are
pub record IsRow (table : List Bool) (next previous list : List ℕ) : Type 0 where
  pub next_long : length next ≡ length table + 2
  pub previous_long : length previous ≡ length table + 2
  pub linked : Linked next previous (length table) (list ++ (length table + 1) ∷ [])
  pub marked : AreMarked table list
