-- Lists of numbers, and logs.
use Rattle.std.proofs.{Common.{◌≡◌, ◌||◌, ◌≢◌, ◌⊎◌, inl, inr, ⊎_elim, ℕ, zero, suc, ◌+◌, ◌<◌, ◌≤◌, Bool, true, false, true≢false, List, [], ◌∷◌, ◌++◌, ◌==◌, eqb, ne_eqb, length, drop, refl, sym, ap, ◌∙◌, subst, arith, append-nil}, lemmas.Bool.{eq-eqb, eqb-true}, lemmas.Bool.Decides.nat_tests, lemmas.List.Elements.filter-append}
use Rattle.std.specs.List.{AllByRecursion}
use mathlib.{Core.Option.{some, some-injective, some-ne-none}, Core.Logic.dite}
use lib.ListN.{get_elem?}
use native.Mathlib.Decide.{ℕ_discrete}
use Rattle.event_log.specs.{declared.event.Event.Event, Distinct.{has, AreDistinctBelow}, Log.{Begins, of}}
use Rattle.event_log.proofs.Beginnings.{begins_self, begins_then, begins_rest}
use Rattle.word_rule.specs.{Cell.Grows, Line.{behind, is_first}, Rule.CellInvariant.EachFrom}

pub or_none : (b : Bool) → (b || false) ≡ b
or_none true = refl
or_none false = refl

-- an element further on isn't there either
pub has_tail : (x y : ℕ) (xs : List ℕ) → has x (y ∷ xs) ≡ false → has x xs ≡ false
has_tail x y xs e = grind (arith, nat_tests)

pub has_pushed : (x y : ℕ) (xs : List ℕ) → has x (xs ++ y ∷ []) ≡ true → (has x xs ≡ true) ⊎ (x ≡ y)
has_pushed x y [] e = inr (grind (arith, nat_tests))
has_pushed x y (z ∷ xs) e = dite (ℕ_discrete x z) (λ is. inl (grind (arith, nat_tests))) (λ not. ⊎_elim (λ t. inl (grind (arith, nat_tests))) inr (has_pushed x y xs (grind (arith, nat_tests))))

pub has_append : (x : ℕ) (xs ys : List ℕ) → has x (xs ++ ys) ≡ true → (has x xs ≡ true) ⊎ (has x ys ≡ true)
has_append x [] ys e = inr e
has_append x (z ∷ xs) ys e = dite (ℕ_discrete x z) (λ is. inl (grind (arith, nat_tests))) (λ not. ⊎_elim (λ t. inl (grind (arith, nat_tests))) inr (has_append x xs ys (grind (arith, nat_tests))))

pub has_one : (x k : ℕ) → has x (k ∷ []) ≡ true → x ≡ k
has_one x k e = grind (arith, nat_tests)

pub has_at : (xs : List ℕ) (k x : ℕ) → get_elem? xs k ≡ some x → has x xs ≡ true
has_at [] k x e = absurd (some-ne-none x (sym e))
has_at (y ∷ xs) zero x e = let q : y ≡ x = some-injective y x e in grind (arith, nat_tests)
has_at (y ∷ xs) (suc k) x e = let t = has_at xs k x e in grind (arith, nat_tests)

-- distinct numbers below n are below n
pub below_of : (n : ℕ) (xs : List ℕ) → AreDistinctBelow n xs → (x : ℕ) → has x xs ≡ true → x < n
below_of n [] d x e = absurd (true≢false (sym e))
below_of n (y ∷ xs) d x e = dite (ℕ_discrete x y) (λ is. let lt = d.0 in omega arith) (λ not. below_of n xs d.2 x (grind (arith, nat_tests)))

-- a number stands at one place of distinct ones
pub one_place : (n : ℕ) (xs : List ℕ) → AreDistinctBelow n xs → (i j x : ℕ) → get_elem? xs i ≡ some x → get_elem? xs j ≡ some x → i ≡ j
one_place n [] d i j x e f = absurd (some-ne-none x (sym e))
one_place n (y ∷ xs) d zero zero x e f = refl
one_place n (y ∷ xs) d zero (suc j) x e f = let q : y ≡ x = some-injective y x e in absurd (true≢false (sym (has_at xs j x f) ∙ (ap (λ z. has z xs) (sym q) ∙ d.1)))
one_place n (y ∷ xs) d (suc i) zero x e f = let q : y ≡ x = some-injective y x f in absurd (true≢false (sym (has_at xs i x e) ∙ (ap (λ z. has z xs) (sym q) ∙ d.1)))
one_place n (y ∷ xs) d (suc i) (suc j) x e f = ap suc (one_place n xs d.2 i j x e f)

pub first_is : (line : List ℕ) (p : ℕ) → get_elem? line 0 ≡ some p → (rest : List ℕ) × (line ≡ p ∷ rest)
first_is [] p e = absurd (some-ne-none p (sym e))
first_is (q ∷ rest) p e = (rest, λ i. some-injective q p e i ∷ rest)

-- the first and those behind it
pub split_line : (i : ℕ) (rest cpus : List ℕ) → cpus ≡ i ∷ rest → cpus ≡ i ∷ behind cpus
split_line i rest cpus e = e ∙ ap (λ r. i ∷ r) (sym (ap behind e))

-- the first stands at the place 0
pub first_at : (i : ℕ) (line : List ℕ) → is_first i line ≡ true → get_elem? line 0 ≡ some i
first_at i [] e = absurd (true≢false (sym e))
first_at i (k ∷ ks) e = ap some (eqb-true k i e)

pub at_first : (i : ℕ) (line : List ℕ) → get_elem? line 0 ≡ some i → is_first i line ≡ true
at_first i [] e = absurd (cc)
at_first i (k ∷ ks) e = eq-eqb k i (some-injective k i e)

-- where there is an element there is a first one
pub first_in : (l : List ℕ) (i p : ℕ) → get_elem? l i ≡ some p → (q : ℕ) × (get_elem? l 0 ≡ some q)
first_in [] i p e = absurd (some-ne-none p (sym e))
first_in (x ∷ xs) i p e = (x, refl)

pub at_below : {A : Type 0} (l : List A) (i : ℕ) (a : A) → get_elem? l i ≡ some a → i < length l
at_below [] i a e = absurd (some-ne-none a (sym e))
at_below (x ∷ xs) zero a e = omega arith
at_below (x ∷ xs) (suc i) a e = let t = at_below xs i a e in omega arith

pub there_is : {A : Type 0} (l : List A) (i : ℕ) → i < length l → (a : A) × (get_elem? l i ≡ some a)
there_is [] i h = absurd (omega arith)
there_is (x ∷ xs) zero h = (x, refl)
there_is (x ∷ xs) (suc i) h = there_is xs i (omega arith)

-- at one place there is one element
pub one_at : {A : Type 0} {i j : ℕ} (l : List A) (x y : A) → i ≡ j → get_elem? l i ≡ some x → get_elem? l j ≡ some y → x ≡ y
one_at l x y e a b = some-injective x y (sym a ∙ (ap (λ k. get_elem? l k) e ∙ b))

-- one that isn't in the list isn't at a place of it
pub not_at : (l : List ℕ) (i x y : ℕ) → has x l ≡ false → get_elem? l i ≡ some y → x ≢ y
not_at l i x y absent there e = true≢false (sym (has_at l i y there) ∙ (ap (λ z. has z l) (sym e) ∙ absent))

-- a list with these first two
pub two_are : (l : List ℕ) (p j : ℕ) → get_elem? l 0 ≡ some p → get_elem? l 1 ≡ some j → (rest : List ℕ) × (l ≡ p ∷ j ∷ rest)
two_are [] p j a b = absurd (some-ne-none p (sym a))
two_are (x ∷ []) p j a b = absurd (some-ne-none j (sym b))
two_are (x ∷ y ∷ ys) p j a b = (ys, λ i. some-injective x p a i ∷ some-injective y j b i ∷ ys)

-- a list with one element
pub one_is : (l : List ℕ) (p : ℕ) → get_elem? l 0 ≡ some p → length l ≡ 1 → l ≡ p ∷ []
one_is [] p e long = absurd (some-ne-none p (sym e))
one_is (x ∷ []) p e long = λ i. some-injective x p e i ∷ []
one_is (x ∷ y ∷ ys) p e long = absurd (omega arith)

pub at_snoc_at : {A : Type 0} (l : List A) (a b : A) (j : ℕ) → get_elem? (l ++ a ∷ []) j ≡ some b → (get_elem? l j ≡ some b) ⊎ ((j ≡ length l) × (a ≡ b))
at_snoc_at [] a b zero e = inr (refl, some-injective a b e)
at_snoc_at [] a b (suc j) e = absurd (some-ne-none b (sym e))
at_snoc_at (x ∷ xs) a b zero e = inl e
at_snoc_at (x ∷ xs) a b (suc j) e = ⊎_elim inl (λ t. inr (ap suc t.0, t.1)) (at_snoc_at xs a b j e)

module _ {A : Type 0} where
  -- what holds of each element of a list, with its place from `from` on, goes over
  pub each_map : {P Q : ℕ → A → Type 0} (from : ℕ) → ((k : ℕ) (x : A) → from ≤ k → P k x → Q k x) → (k : ℕ) → from ≤ k → (xs : List A) → EachFrom P k xs → EachFrom Q k xs
  each_map from f k le [] e = tt
  each_map from f k le (x ∷ xs) e = (f k x le e.0, each_map from f (k + 1) (omega arith) xs e.1)

  -- what holds of each element holds of one of them, with its place
  pub each_at : (P : ℕ → A → Type 0) (k : ℕ) (xs : List A) (i : ℕ) (x : A) → EachFrom P k xs → get_elem? xs i ≡ some x → P (k + i) x
  each_at P k [] i x e there = absurd (some-ne-none x (sym there))
  each_at P k (y ∷ ys) zero x e there = let same : k ≡ k + 0 = omega arith in subst (P (k + 0)) (some-injective y x there) (subst (λ z. P z y) same e.0)
  each_at P k (y ∷ ys) (suc i) x e there = let same : k + 1 + i ≡ k + suc i = omega arith in subst (λ z. P z x) same (each_at P (k + 1) ys i x e.1 there)

module _ {O P C R : Type 0} where
  pub grows_self : (owned : ℕ → Bool) (a : List (Event O P C R)) → Grows owned a a
  grows_self owned a = record { begins = begins_self a; own = λ _ _. refl }

  pub grows_then : (owned : ℕ → Bool) (a b c : List (Event O P C R)) → Grows owned a b → Grows owned b c → Grows owned a c
  grows_then owned a b c p q = record { begins = begins_then a b c p.begins q.begins; own = λ k o. q.own k o ∙ p.own k o }

  not_by : (x : ℕ) (e : Event O P C R) → x ≢ e.cpu → of x (e ∷ []) ≡ []
  not_by x e n = rw (ne_eqb e.cpu x (λ q. n (sym q)))

  -- an event of another CPU
  pub of_push : (x : ℕ) (log : List (Event O P C R)) (e : Event O P C R) → x ≢ e.cpu → of x (log ++ e ∷ []) ≡ of x log
  of_push x log e n = filter-append (λ d. eqb d.cpu x) log (e ∷ []) ∙ (ap (λ l. of x log ++ l) (not_by x e n) ∙ append-nil (of x log))

  own_head : (e : Event O P C R) (es : List (Event O P C R)) → of e.cpu (e ∷ es) ≡ e ∷ of e.cpu es
  own_head e es = rw (eq-eqb e.cpu e.cpu refl)

  -- a log that begins with another and has no more events of any CPU is that one
  more : (a c : List (Event O P C R)) → ((z : ℕ) → of z (a ++ c) ≡ of z a) → c ≡ []
  more a [] f = refl
  more a (e ∷ es) f = let q = f e.cpu in let h = own_head e es in let s = filter-append (λ (d : Event O P C R). eqb d.cpu e.cpu) a (e ∷ es) in absurd (longer (of e.cpu a) (of e.cpu es) e (sym q ∙ (s ∙ ap (λ l. of e.cpu a ++ l) h)))
    where
      longer : (xs ys : List (Event O P C R)) (d : Event O P C R) → xs ≡ xs ++ d ∷ ys → ⊥
      longer [] ys d e = absurd (cc)
      longer (x ∷ xs) ys d e = longer xs ys d (cc)

  pub same_log : (a b : List (Event O P C R)) → Begins a b → ((z : ℕ) → of z b ≡ of z a) → b ≡ a
  same_log a b p f =
      let is = begins_rest a b p in
      let none = more a (drop (length a) b) (λ z. ap (λ l. of z l) (sym is) ∙ f z) in
      is ∙ (ap (λ l. a ++ l) none ∙ append-nil a)

  -- no event of a number that is too large
  none_of : (x n : ℕ) (log : List (Event O P C R)) → n ≤ x → AllByRecursion (λ e. e.cpu < n) log → of x log ≡ []
  none_of x n [] le all = refl
  none_of x n (e ∷ es) le all =
      let below = all.0 in
      let not : (e.cpu == x) ≡ false = grind (arith, nat_tests) in
      rw not (none_of x n es le all.1)

  -- the events of a number that isn't the cell's are those of the opening log
  pub of_opening : (x n : ℕ) (log first : List (Event O P C R)) → n ≤ x → Begins first log → AllByRecursion (λ e. e.cpu < n) (drop (length first) log) → of x log ≡ of x first
  of_opening x n log first le is all =
      let since = drop (length first) log in
      ap (λ l. of x l) (begins_rest first log is) ∙ (filter-append (λ e. e.cpu == x) first since ∙ (ap (λ l. of x first ++ l) (none_of x n since le all) ∙ append-nil (of x first)))
