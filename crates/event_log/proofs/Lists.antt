-- Lists of anything: what stands at a place, and a list that another begins with.
use Rattle.std.proofs.Common.{◌≡◌, ◌⊎◌, inl, inr, ⊎_elim, ℕ, zero, suc, ◌+◌, ◌<◌, ◌≤◌, List, [], ◌∷◌, ◌++◌, length, take, drop, get_or, Some, slice_get, refl, ap, arith, add-one}
use Rattle.std.specs.Prelude.{unwrap_or}

module _ {X : Type 0} where
  -- what stands in the front stands in the whole
  pub get_front : (a r : List X) (i : ℕ) (x : X) → slice_get a i ≡ Some x → slice_get (a ++ r) i ≡ Some x
  get_front [] r i x e = cc
  get_front (y ∷ ys) r zero x e = e
  get_front (y ∷ ys) r (suc i) x e = get_front ys r i x e

  pub same_front : (a r : List X) (i : ℕ) → i < length a → slice_get (a ++ r) i ≡ slice_get a i
  same_front [] r i lt = absurd (omega arith)
  same_front (y ∷ ys) r zero lt = refl
  same_front (y ∷ ys) r (suc i) lt = same_front ys r i (omega arith)

  -- what stands behind the front
  pub get_behind : (a r : List X) (x : X) → slice_get (a ++ x ∷ r) (length a) ≡ Some x
  get_behind [] r x = refl
  get_behind (y ∷ ys) r x = get_behind ys r x

  pub get_last : (xs : List X) (x : X) → slice_get (xs ++ x ∷ []) (length xs) ≡ Some x
  get_last [] x = refl
  get_last (z ∷ zs) x = get_last zs x

  -- with one more at the end, an element stands there already, or is that one
  pub get_push : (xs : List X) (x : X) (k : ℕ) (y : X) → slice_get (xs ++ x ∷ []) k ≡ Some y → (slice_get xs k ≡ Some y) ⊎ ((k ≡ length xs) × (x ≡ y))
  get_push [] x zero y e = inr (refl, let same : x ≡ y = cc in same)
  get_push [] x (suc k) y e = absurd (cc)
  get_push (z ∷ zs) x zero y e = inl e
  get_push (z ∷ zs) x (suc k) y e = ⊎_elim (λ old. inl old) (λ q. inr (ap suc q.0, q.1)) (get_push zs x k y e)

  -- what stands at a place
  pub some_at : (xs : List X) (i : ℕ) → i < length xs → (x : X) × (slice_get xs i ≡ Some x)
  some_at [] i lt = absurd (omega arith)
  some_at (y ∷ ys) zero lt = (y, refl)
  some_at (y ∷ ys) (suc i) lt = some_at ys i (omega arith)

  pub take_front : (a r : List X) (i : ℕ) → i ≤ length a → take i (a ++ r) ≡ take i a
  take_front [] r zero le = refl
  take_front [] r (suc i) le = absurd (omega arith)
  take_front (y ∷ ys) r zero le = refl
  take_front (y ∷ ys) r (suc i) le = ap (λ l. y ∷ l) (take_front ys r i (omega arith))

  pub take_whole : (a r : List X) → take (length a) (a ++ r) ≡ a
  take_whole [] r = refl
  take_whole (y ∷ ys) r = ap (λ l. y ∷ l) (take_whole ys r)

  pub drop_whole : (a r : List X) → drop (length a) (a ++ r) ≡ r
  drop_whole [] r = refl
  drop_whole (y ∷ ys) r = drop_whole ys r

  pub index_front : (a r : List X) (i : ℕ) (d : X) → i < length a → get_or (a ++ r) i d ≡ get_or a i d
  index_front [] r i d lt = absurd (omega arith)
  index_front (y ∷ ys) r zero d lt = refl
  index_front (y ∷ ys) r (suc i) d lt = index_front ys r i d (omega arith)

  pub index_behind : (a r : List X) (x d : X) → get_or (a ++ x ∷ r) (length a) d ≡ x
  index_behind [] r x d = refl
  index_behind (y ∷ ys) r x d = index_behind ys r x d

  -- a list that is no longer is the front
  pub no_more : (a r b : List X) → b ≡ a ++ r → length b ≡ length a → b ≡ a
  no_more a r [] e n = no_rest a r e
    where
      no_rest : (c s : List X) → (let l : List X = [] in l) ≡ c ++ s → (let l : List X = [] in l) ≡ c
      no_rest [] s g = refl
      no_rest (y ∷ ys) s g = absurd (cc)
  no_more [] r (z ∷ zs) e n = absurd (omega (arith, n))
  no_more (y ∷ ys) r (z ∷ zs) e n =
      let head : z ≡ y = cc in
      let rest : zs ≡ ys ++ r = cc in
      λ j. head j ∷ no_more ys r zs rest (omega (arith, n)) j

  pub cut : (xs : List X) (i : ℕ) (x : X) → slice_get xs i ≡ Some x → xs ≡ take i xs ++ x ∷ drop (suc i) xs
  cut [] i x e = cc
  cut (y ∷ ys) zero x e = let same : y ≡ x = cc in ap (λ z. z ∷ ys) same
  cut (y ∷ ys) (suc i) x e = ap (λ l. y ∷ l) (cut ys i x e)

  pub cut_at : (xs : List X) (i : ℕ) (x : X) → slice_get xs i ≡ Some x → xs ≡ take i xs ++ x ∷ drop (i + 1) xs
  cut_at xs i x e = rw (add-one i) (cut xs i x e)

-- one of several lists, behind the front
module _ {X : Type 0} where
  pub list_behind : (a r : List (List X)) (x : List X) → unwrap_or (slice_get (a ++ x ∷ r) (length a)) [] ≡ x
  list_behind a r x = ap (λ o. unwrap_or o []) (get_behind a r x)
