-- The CPUs of a line up to one of them and the one behind it, and how many steps these have left.
use Rattle.std.proofs.{Common.{◌≡◌, ◌≢◌, ⊎_elim, ℕ, zero, suc, ◌+◌, ◌*◌, ◌<◌, ◌≤◌, ◌==◌, ◌||◌, Bool, true, false, cond, eq-eqb, eqb-true, ne_eqb, List, [], ◌∷◌, ◌++◌, length, refl, sym, ap, ◌∙◌, subst, arith}, lemmas.Bool.{or_parts, or_right, or_cases}}
use mathlib.Core.Option.{some, some-injective, some-ne-none}
use lib.ListN.{get_elem?}
use Rattle.event_log.specs.Distinct.{has}
use Rattle.word_rule.specs.Line.{is_first}
use Rattle.word_rule.proofs.{LineChanges.{first_longer, has_more, never}, Lists.has_at}

-- the steps of the one behind, or the most there can be while nobody is there
abbrev next : ℕ → (ℕ → ℕ) → List ℕ → ℕ
next most f [] = most
next most f (y ∷ ys) = f y

-- the steps that are left up to i, and of the one behind it
abbrev pub ahead : ℕ → (ℕ → ℕ) → ℕ → List ℕ → ℕ
ahead most f i [] = 0
ahead most f i (x ∷ xs) = f x + cond (x == i) (next most f xs) (ahead most f i xs)

-- whether j is one of these
abbrev pub among : ℕ → List ℕ → ℕ → Bool
among i [] j = false
among i (x ∷ xs) j = (x == j) || cond (x == i) (is_first j xs) (among i xs j)

has_self : (x : ℕ) (xs : List ℕ) → has x (x ∷ xs) ≡ true
has_self x xs = has_at (x ∷ xs) zero x refl

module _ (most i : ℕ) where
  module _ (f g : ℕ → ℕ) where
    next_falls : (xs : List ℕ) → ((j : ℕ) → has j xs ≡ true → f j ≤ g j) → next most f xs ≤ next most g xs
    next_falls [] le = omega arith
    next_falls (y ∷ ys) le = le y (has_self y ys)

    pub ahead_falls : (xs : List ℕ) → ((j : ℕ) → has j xs ≡ true → f j ≤ g j) → ahead most f i xs ≤ ahead most g i xs
    ahead_falls [] le = omega arith
    ahead_falls (x ∷ xs) le = by (x == i) (le x (has_self x xs)) (next_falls xs (λ j e. le j (has_more j x xs e))) (ahead_falls xs (λ j e. le j (has_more j x xs e)))
      where
        by : (b : Bool) → f x ≤ g x → next most f xs ≤ next most g xs → ahead most f i xs ≤ ahead most g i xs → f x + cond b (next most f xs) (ahead most f i xs) ≤ g x + cond b (next most g xs) (ahead most g i xs)
        by true a p q = omega (arith, a, p)
        by false a p q = omega (arith, a, q)

    next_sinks : (k : ℕ) (xs : List ℕ) → is_first k xs ≡ true → f k < g k → next most f xs < next most g xs
    next_sinks k [] e lt = never e
    next_sinks k (y ∷ ys) e lt = subst (λ z. f z < g z) (sym (eqb-true y k e)) lt

    pub ahead_sinks : (k : ℕ) (xs : List ℕ) → ((j : ℕ) → has j xs ≡ true → f j ≤ g j) → among i xs k ≡ true → f k < g k → ahead most f i xs < ahead most g i xs
    ahead_sinks k [] le e lt = never e
    ahead_sinks k (x ∷ xs) le e lt = ⊎_elim
        (λ same. head (x == i) (subst (λ z. f z < g z) (sym (eqb-true x k same)) lt) (next_falls xs rest) (ahead_falls xs rest))
        (λ other. tail (ahead_sinks k xs rest) (x == i) other (le x (has_self x xs)))
        (or_cases (x == k) (cond (x == i) (is_first k xs) (among i xs k)) e)
      where
        rest : (j : ℕ) → has j xs ≡ true → f j ≤ g j
        rest j e = le j (has_more j x xs e)

        head : (b : Bool) → f x < g x → next most f xs ≤ next most g xs → ahead most f i xs ≤ ahead most g i xs → f x + cond b (next most f xs) (ahead most f i xs) < g x + cond b (next most g xs) (ahead most g i xs)
        head true a p q = omega (arith, a, p)
        head false a p q = omega (arith, a, q)

        tail : (among i xs k ≡ true → f k < g k → ahead most f i xs < ahead most g i xs) → (b : Bool) → cond b (is_first k xs) (among i xs k) ≡ true → f x ≤ g x → f x + cond b (next most f xs) (ahead most f i xs) < g x + cond b (next most g xs) (ahead most g i xs)
        tail behind true t a = let p = next_sinks k xs t lt in omega (arith, a, p)
        tail behind false t a = let q = behind t lt in omega (arith, a, q)

  module _ (f : ℕ → ℕ) where
    next_few : ((j : ℕ) → f j ≤ most) → (xs : List ℕ) → next most f xs ≤ most
    next_few few [] = omega arith
    next_few few (y ∷ ys) = few y

    next_longer : (k : ℕ) → f k ≤ most → (xs : List ℕ) → next most f (xs ++ k ∷ []) ≤ next most f xs
    next_longer k few [] = few
    next_longer k few (y ∷ ys) = omega arith

    -- one that joins the end has no more steps left than there can be
    pub ahead_longer : (k : ℕ) → f k ≤ most → (xs : List ℕ) → has i xs ≡ true → ahead most f i (xs ++ k ∷ []) ≤ ahead most f i xs
    ahead_longer k few [] e = never e
    ahead_longer k few (x ∷ xs) e = by (ahead_longer k few xs) (x == i) e
      where
        by : (has i xs ≡ true → ahead most f i (xs ++ k ∷ []) ≤ ahead most f i xs) → (b : Bool) → (b || has i xs) ≡ true → f x + cond b (next most f (xs ++ k ∷ [])) (ahead most f i (xs ++ k ∷ [])) ≤ f x + cond b (next most f xs) (ahead most f i xs)
        by rest true t = let a = next_longer k few xs in omega (arith, a)
        by rest false t = let a = rest t in omega (arith, a)

    -- i itself joins the end
    pub ahead_last : ((j : ℕ) → f j ≤ most) → (xs : List ℕ) → has i xs ≡ false → ahead most f i (xs ++ i ∷ []) ≤ most * length xs + f i + most
    ahead_last few [] e = by (i == i)
      where
        by : (b : Bool) → f i + cond b most 0 ≤ most * 0 + f i + most
        by true = omega arith
        by false = omega arith
    ahead_last few (x ∷ xs) e =
        let p = or_parts (x == i) (has i xs) e in
        let a = few x in
        let b = ahead_last few xs p.1 in
        subst (λ t. f x + cond t (next most f (xs ++ i ∷ [])) (ahead most f i (xs ++ i ∷ [])) ≤ most * length (x ∷ xs) + f i + most) (sym p.0) (omega (arith, a, b))

    pub ahead_few : ((j : ℕ) → f j ≤ most) → (xs : List ℕ) → ahead most f i xs ≤ most * length xs + most
    ahead_few few [] = omega arith
    ahead_few few (x ∷ xs) = by (x == i) (few x) (next_few few xs) (ahead_few few xs)
      where
        by : (b : Bool) → f x ≤ most → next most f xs ≤ most → ahead most f i xs ≤ most * length xs + most → f x + cond b (next most f xs) (ahead most f i xs) ≤ most * length (x ∷ xs) + most
        by true a p q = omega (arith, a, p)
        by false a p q = omega (arith, a, q)

    -- whoever stands there has no more of these ahead
    pub ahead_place : ((j : ℕ) → f j ≤ most) → (xs : List ℕ) (p : ℕ) → get_elem? xs p ≡ some i → ahead most f i xs ≤ most * (p + 2)
    ahead_place few [] p e = absurd (some-ne-none i (sym e))
    ahead_place few (x ∷ xs) zero e = subst (λ b. f x + cond b (next most f xs) (ahead most f i xs) ≤ most * (0 + 2)) (sym (eq-eqb x i (some-injective x i e))) (let a = few x in let b = next_few few xs in omega (arith, a, b))
    ahead_place few (x ∷ xs) (suc p) e = by (x == i) (ahead_place few xs p e)
      where
        by : (b : Bool) → ahead most f i xs ≤ most * (p + 2) → f x + cond b (next most f xs) (ahead most f i xs) ≤ most * (suc p + 2)
        by true q = let a = few x in let c = next_few few xs in omega (arith, a, c)
        by false q = let a = few x in omega (arith, a, q)

    pub ahead_some : ((j : ℕ) → 0 < f j) → (xs : List ℕ) → has i xs ≡ true → 0 < ahead most f i xs
    ahead_some each [] e = never e
    ahead_some each (x ∷ xs) e = let a = each x in omega (arith, a)

    -- the first leaves
    pub ahead_behind : (k : ℕ) → k ≢ i → (xs : List ℕ) → ahead most f i (k ∷ xs) ≡ f k + ahead most f i xs
    ahead_behind k ne xs = ap (λ b. f k + cond b (next most f xs) (ahead most f i xs)) (ne_eqb k i ne)

module _ (i : ℕ) where
  pub among_longer : (k j : ℕ) (xs : List ℕ) → among i xs j ≡ true → among i (xs ++ k ∷ []) j ≡ true
  among_longer k j [] e = never e
  among_longer k j (x ∷ xs) e = by (among_longer k j xs) (x == j) (x == i) e
    where
      by : (among i xs j ≡ true → among i (xs ++ k ∷ []) j ≡ true) → (b c : Bool) → (b || cond c (is_first j xs) (among i xs j)) ≡ true → (b || cond c (is_first j (xs ++ k ∷ [])) (among i (xs ++ k ∷ []) j)) ≡ true
      by rest true c t = refl
      by rest false true t = first_longer j k xs t
      by rest false false t = rest t

  pub among_behind : (k j : ℕ) (xs : List ℕ) → k ≢ i → k ≢ j → among i (k ∷ xs) j ≡ true → among i xs j ≡ true
  among_behind k j xs ne ne' e =
      let q : among i (k ∷ xs) j ≡ among i xs j = λ t. ne_eqb k j ne' t || cond (ne_eqb k i ne t) (is_first j xs) (among i xs j) in
      sym q ∙ e

  pub among_first : (j : ℕ) (xs : List ℕ) → get_elem? xs 0 ≡ some j → among i xs j ≡ true
  among_first j [] e = absurd (some-ne-none j (sym e))
  among_first j (x ∷ xs) e = ap (λ b. b || cond (x == i) (is_first j xs) (among i xs j)) (eq-eqb x j (some-injective x j e))

  pub among_second : (j : ℕ) (xs : List ℕ) → get_elem? xs 1 ≡ some j → among i xs j ≡ true
  among_second j [] e = absurd (some-ne-none j (sym e))
  among_second j (x ∷ []) e = absurd (some-ne-none j (sym e))
  among_second j (x ∷ y ∷ ys) e = or_right (x == j) (cond (x == i) (is_first j (y ∷ ys)) (among i (y ∷ ys) j)) (by (x == i))
    where
      same : (y == j) ≡ true
      same = eq-eqb y j (some-injective y j e)

      by : (b : Bool) → cond b (is_first j (y ∷ ys)) (among i (y ∷ ys) j) ≡ true
      by true = same
      by false = among_first j (y ∷ ys) e
