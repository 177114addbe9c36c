-- Items at the front of a room.
use Rattle.std.proofs.Common.{◌≡◌, ℕ, zero, suc, ◌<◌, ◌≤◌, List, [], ◌∷◌, ◌++◌, length, map, take, drop, refl, ap, arith, slice_index_or, slice_set}

-- the next item takes the place of what stands first behind the items
pub one_more : {A B : Type 0} (f : A → B) (items : List A) (room : List B) (i : ℕ) (other : A) → i < length items → length items ≤ length room
    → slice_set (map f (take i items) ++ drop i room) i (f (slice_index_or items i other)) ≡ map f (take (suc i) items) ++ drop (suc i) room
one_more f [] room i other inside fits = absurd (omega (arith, inside))
one_more f (x ∷ items) [] i other inside fits = absurd (omega (arith, fits))
one_more f (x ∷ items) (y ∷ room) zero other inside fits = refl
one_more f (x ∷ items) (y ∷ room) (suc i) other inside fits = ap (λ l. f x ∷ l) (one_more f items room i other (omega (arith, inside)) (omega (arith, fits)))
