-- Lists of numbers, as one value.
use Rattle.std.specs.Prelude.{ℕ, List, set}

-- lists of the numbers below `numbers`, each of which stands at most once in all of them
pub record ChainLists : Type 0 where
  pub numbers : ℕ
  pub lists : List (List ℕ)

-- the same lists but for the one at place c
abbrev pub with_list : ChainLists → ℕ → List ℕ → ChainLists
with_list s c l = record s { lists = set s.lists c l }
