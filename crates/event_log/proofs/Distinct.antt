-- Distinct numbers below a bound are few. They stay distinct where one more comes, where some are left out, and in another order.
use Rattle.std.proofs.{Common.{◌≡◌, ◌≢◌, ℕ, ◌<◌, ◌≤◌, ◌==◌, ◌||◌, Bool, true, false, cond, List, [], ◌∷◌, ◌++◌, length, refl, subst, arith}, Math.Dec.eqb, lemmas.Bool.{or_from, or_parts}, lemmas.Bool.Decides.nat_tests, lemmas.Cmp.nat_eq_equiv, lemmas.List.{append-nil, length_push}, lemmas.List.Elements.recursion_from_All, lemmas.List.Sorted.All-permutation, lemmas.Map.Keys.IsDistinct-IsPermutation, lemmas.Map.Steps.length-le_from_distinct_below, lemmas.Map.Views.All-from_any}
use Rattle.std.specs.{List.{list_any, IsDistinct, AllByRecursion, filter}, List.Sorted.IsPermutation}
use Rattle.event_log.specs.Distinct.{has, AreDistinctBelow}

-- a number that isn't in the list differs from each of it
pub apart_from : (x : ℕ) (xs : List ℕ) → has x xs ≡ false → AllByRecursion (λ y. eqb x y ≡ false) xs
apart_from x [] h = tt
apart_from x (y ∷ ys) h =
    let p = or_parts (y == x) (has x ys) h in
    (grind (arith, nat_tests, p.0), apart_from x ys p.1)

-- the same in std's words
pub distinct : (n : ℕ) (xs : List ℕ) → AreDistinctBelow n xs → IsDistinct eqb xs
unfolding IsDistinct
distinct n [] q = tt
distinct n (x ∷ xs) q = (apart_from x xs q.1, distinct n xs q.2)

below : (n : ℕ) (xs : List ℕ) → AreDistinctBelow n xs → (t : ℕ) → list_any (eqb t) xs ≡ true → t < n
below n [] q t h = absurd (cc)
below n (x ∷ xs) q t h =
    let go : (b : Bool) → eqb t x ≡ b → (b || list_any (eqb t) xs) ≡ true → t < n
    = λ b. elim b as (λ v. eqb t x ≡ v → (v || list_any (eqb t) xs) ≡ true → t < n) [ true ↦ λ e _. grind (arith, nat_tests, q.0, e) | false ↦ λ _ k. below n xs q.2 t k ] in
    go (eqb t x) refl h

-- there are at most n of them
pub distinct_length : (n : ℕ) (xs : List ℕ) → AreDistinctBelow n xs → length xs ≤ n
distinct_length n xs q = length-le_from_distinct_below xs n (distinct n xs q) (below n xs q)

-- a number isn't in a list that grows by another
pub has_push : (x y : ℕ) (xs : List ℕ) → has x xs ≡ false → x ≢ y → has x (xs ++ y ∷ []) ≡ false
has_push x y [] h n = grind (arith, nat_tests)
has_push x y (z ∷ xs) h n = let p = or_parts (z == x) (has x xs) h in or_from (z == x) (has x (xs ++ y ∷ [])) p.0 (has_push x y xs p.1 n)

-- a new number may be put at the end
pub distinct_push : (n : ℕ) (xs : List ℕ) (t : ℕ) → AreDistinctBelow n xs → t < n → has t xs ≡ false → AreDistinctBelow n (xs ++ t ∷ [])
distinct_push n [] t q lt h = (lt, refl, tt)
distinct_push n (x ∷ xs) t q lt h =
    let p = or_parts (x == t) (has t xs) h in
    let k : x ≢ t = grind (arith, nat_tests, p.0) in
    (q.0, has_push x t xs q.1 k, distinct_push n xs t q.2 lt p.1)

has_filter : (p : ℕ → Bool) (t : ℕ) (xs : List ℕ) → has t xs ≡ false → has t (filter p xs) ≡ false
has_filter p t [] h = refl
has_filter p t (x ∷ xs) h =
    let parts = or_parts (x == t) (has t xs) h in
    let rest = has_filter p t xs parts.1 in
    elim (p x) as (λ b. has t (cond b (x ∷ filter p xs) (filter p xs)) ≡ false) [ true ↦ or_from (x == t) (has t (filter p xs)) parts.0 rest | false ↦ rest ]

-- some of them may be left out
pub distinct_filter : (p : ℕ → Bool) (n : ℕ) (xs : List ℕ) → AreDistinctBelow n xs → AreDistinctBelow n (filter p xs)
distinct_filter p n [] q = tt
distinct_filter p n (x ∷ xs) q =
    let rest = distinct_filter p n xs q.2 in
    elim (p x) as (λ b. AreDistinctBelow n (cond b (x ∷ filter p xs) (filter p xs))) [ true ↦ (q.0, has_filter p x xs q.1, rest) | false ↦ rest ]

-- there are fewer than n where one is missing
pub distinct_length_missing : (n : ℕ) (xs : List ℕ) (t : ℕ) → AreDistinctBelow n xs → t < n → has t xs ≡ false → length xs < n
distinct_length_missing n xs t q lt h =
    let few = distinct_length n (xs ++ t ∷ []) (distinct_push n xs t q lt h) in
    omega (arith, length_push xs t, few)

-- those before may be left out
pub distinct_rest : (n : ℕ) (xs ys : List ℕ) → AreDistinctBelow n (xs ++ ys) → AreDistinctBelow n ys
distinct_rest n [] ys q = q
distinct_rest n (x ∷ xs) ys q = distinct_rest n xs ys q.2

absent : (x : ℕ) (xs : List ℕ) → AllByRecursion (λ y. eqb x y ≡ false) xs → has x xs ≡ false
absent x [] h = refl
absent x (y ∷ ys) h =
    let other : (y == x) ≡ false = grind (arith, nat_tests, h.0) in
    or_from (y == x) (has x ys) other (absent x ys h.1)

-- from std's words
both : (n : ℕ) (xs : List ℕ) → AllByRecursion (λ x. x < n) xs → IsDistinct eqb xs → AreDistinctBelow n xs
unfolding IsDistinct
both n [] b d = tt
both n (x ∷ xs) b d = (b.0, absent x xs d.0, both n xs b.1 d.1)

flips : (x y : ℕ) → eqb x y ≡ eqb y x
flips x y = grind (arith, nat_tests)

-- in another order they are as distinct
pub distinct_permuted : (n : ℕ) (xs ys : List ℕ) → AreDistinctBelow n xs → IsPermutation xs ys → AreDistinctBelow n ys
distinct_permuted n xs ys q p =
    let lt : ℕ → Type 0 = λ x. x < n in
    let all = All-permutation lt xs ys p (All-from_any nat_eq_equiv lt xs (below n xs q)) in
    both n ys (recursion_from_All lt ys all) (IsDistinct-IsPermutation eqb flips xs ys p (distinct n xs q))

-- what is left once some were taken out
pub distinct_left : (n : ℕ) (xs out ys : List ℕ) → IsPermutation (xs ++ []) (out ++ ys) → AreDistinctBelow n xs → AreDistinctBelow n ys
distinct_left n xs out ys p q =
    distinct_rest n out ys (distinct_permuted n xs (out ++ ys) q (subst (λ l. IsPermutation l (out ++ ys)) (append-nil xs) p))

-- a new one goes to any place
pub distinct_put : (n : ℕ) (xs ys : List ℕ) (t : ℕ) → IsPermutation (xs ++ t ∷ []) ys → t < n → has t xs ≡ false → AreDistinctBelow n xs → AreDistinctBelow n ys
distinct_put n xs ys t p lt h q = distinct_permuted n (xs ++ t ∷ []) ys (distinct_push n xs t q lt h) p
