-- Lists of distinct numbers below a bound, as queues and wake lists hold them.
use Rattle.std.specs.{Prelude.{◌≡◌, ℕ, ◌<◌, ◌==◌, Bool, false, not, List, [], ◌∷◌}, List.{list_any, filter}}

-- whether the number is in the list
abbrev pub has : ℕ → List ℕ → Bool
has t xs = list_any (λ y. y == t) xs

-- the list without the number; the rest keeps its order
abbrev pub without : ℕ → List ℕ → List ℕ
without t xs = filter (λ y. not (y == t)) xs

-- the numbers are below n, and none stands twice
abbrev pub AreDistinctBelow : ℕ → List ℕ → Type 0
AreDistinctBelow n [] = Unit {0}
AreDistinctBelow n (x ∷ xs) = (x < n) × (has x xs ≡ false) × AreDistinctBelow n xs
