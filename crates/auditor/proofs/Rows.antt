-- A row of threads between two gates: one goes out, one comes in at the end.
use Rattle.std.proofs.{Common.{◌≡◌, ℕ, zero, suc, ◌+◌, ◌-◌, ◌<◌, ◌≤◌, ◌==◌, Bool, true, false, not, List, [], ◌∷◌, ◌++◌, length, get_or, set, refl, sym, ap, ◌∙◌, subst, arith, length-append, length-set}, lemmas.Bool.{ne_eqb, false_from_ne_true}, lemmas.List.Elements.filter-append}
use Rattle.event_log.specs.{Distinct.{has, without, AreDistinctBelow}, Links.{walk, last_of, Linked, IsChain}, declared.chain.Ends.Ends}
use Rattle.event_log.proofs.{Cells.alone, Chained.{here, in_front, there, member_below, distinct_front, without_split, split_at, joins_both, cuts_within, inner_cells}, Distinct.{distinct_push, has_push}}
use Rattle.auditor.specs.{Marks.AreMarked, Row.{row_of, IsRow}}
use Rattle.auditor.proofs.MarkedLists.{marked_put, marked_without}

-- the row is walked through from the front gate
row_is : (n p : List ℕ) (x : ℕ) (list : List ℕ) (back : ℕ) → Linked n p x (list ++ back ∷ []) → row_of n x (length list) ≡ list
row_is n p x [] back h = refl
row_is n p x (y ∷ ys) back h = ap (λ z. walk n z (suc (length ys))) h.0 ∙ ap (λ l. y ∷ l) (row_is n p y ys back h.2)

pub length_walk : (n : List ℕ) (x count : ℕ) → length (walk n x count) ≡ count
length_walk n x zero = refl
length_walk n x (suc count) = ap suc (length_walk n (get_or n x 0) count)

-- its last place is the one before the back gate
front_linked : (n p : List ℕ) (x : ℕ) (list : List ℕ) (back : ℕ) → Linked n p x (list ++ back ∷ []) → Linked n p x list
front_linked n p x [] back h = tt
front_linked n p x (y ∷ ys) back h = (h.0, h.1, front_linked n p y ys back h.2)

before_back : (n p : List ℕ) (x : ℕ) (list : List ℕ) (back : ℕ) → Linked n p x (list ++ back ∷ []) → get_or p back 0 ≡ last_of x list
before_back n p x [] back h = h.1
before_back n p x (y ∷ ys) back h = before_back n p y ys back h.2

last_below : (k x : ℕ) (xs : List ℕ) → AreDistinctBelow k (x ∷ xs) → last_of x xs < k
last_below k x [] q = q.0
last_below k x (y ∷ ys) q = last_below k y ys q.2

last_is : (x : ℕ) (xs : List ℕ) (y : ℕ) → last_of x (xs ++ y ∷ []) ≡ y
last_is x [] y = refl
last_is x (z ∷ zs) y = last_is z zs y

-- no thread has the place of a gate
none_at_gate : (s t : ℕ) (list : List ℕ) → AreDistinctBelow s list → s ≤ t → has t list ≡ false
none_at_gate s t list q le = false_from_ne_true (has t list) (λ e. omega (arith, le, member_below s t list q e))

wider : (s k : ℕ) (list : List ℕ) → s ≤ k → AreDistinctBelow s list → AreDistinctBelow k list
wider s k [] le q = tt
wider s k (x ∷ xs) le q = (omega (arith, le, q.0), q.1, wider s k xs le q.2)

abbrev gated : ℕ → List ℕ → List ℕ
gated s list = s ∷ (list ++ (s + 1) ∷ [])

gated_distinct : (s : ℕ) (list : List ℕ) → AreDistinctBelow s list → AreDistinctBelow (s + 2) (gated s list)
gated_distinct s list q =
    let behind = distinct_push (s + 2) list (s + 1) (wider s (s + 2) list (omega arith) q) (omega arith) (none_at_gate s (s + 1) list q (omega arith)) in
    (omega arith, has_push s (s + 1) list (none_at_gate s s list q (omega arith)) (λ e. omega (arith, e)), behind)

-- the row as a chain between its gates
abbrev gates : ℕ → List ℕ → Ends
gates s list = record { first = s; last = s + 1; count = suc (length (list ++ (s + 1) ∷ [])) }

chained : (n p : List ℕ) (s : ℕ) (list : List ℕ) → Linked n p s (list ++ (s + 1) ∷ []) → IsChain n p (gates s list) (gated s list)
chained n p s list h = (refl, sym (last_is s list (s + 1)), refl, h)

without_gated : (s t : ℕ) (list : List ℕ) → t < s → without t (gated s list) ≡ gated s (without t list)
without_gated s t list lt =
    let front : (s == t) ≡ false = ne_eqb s t (λ e. omega (arith, lt, e)) in
    let back : (s + 1 == t) ≡ false = ne_eqb (s + 1) t (λ e. omega (arith, lt, e)) in
    rw front (ap (λ l. s ∷ l) (filter-append (λ y. not (y == t)) list ((s + 1) ∷ []) ∙ rw back refl))

-- a row in a table of that length
made : (table : List Bool) (n p list : List ℕ) (s : ℕ) → length table ≡ s → length n ≡ s + 2 → length p ≡ s + 2 → Linked n p s (list ++ (s + 1) ∷ []) → AreMarked table list → IsRow table n p list
made table n p list s long ln lp h m = record {
  next_long = subst (λ k. length n ≡ k + 2) (sym long) ln;
  previous_long = subst (λ k. length p ≡ k + 2) (sym long) lp;
  linked = subst (λ k. Linked n p k (list ++ (k + 1) ∷ [])) (sym long) h;
  marked = m;
}

-- the row as it is walked through
pub walked : (table : List Bool) (n p list : List ℕ) (count : ℕ) → count ≡ length list → IsRow table n p list → (row_of n (length table) count ≡ list) × IsRow table n p (row_of n (length table) count)
walked table n p list count e h =
    let is : row_of n (length table) count ≡ list = ap (λ c. row_of n (length table) c) e ∙ row_is n p (length table) list (length table + 1) h.linked in
    (is, subst (λ l. IsRow table n p l) (sym is) h)

-- one thread fewer
shorter : (k t : ℕ) (list : List ℕ) → AreDistinctBelow k list → has t list ≡ true → length (without t list) + 1 ≡ length list
shorter k t list q present =
    let f = split_at t list present in
    let parts : AreDistinctBelow k (f.0 ++ t ∷ f.1) = subst (λ l. AreDistinctBelow k l) f.2 q in
    let rest : without t list ≡ f.0 ++ f.1 = ap (without t) f.2 ∙ without_split k f.0 t f.1 parts in
    omega (arith, ap length rest, ap length f.2, length-append f.0 f.1, length-append f.0 (t ∷ f.1))

-- the first one is the place behind the front gate
pub first_is : (table : List Bool) (n p list : List ℕ) (first : ℕ) → IsRow table n p list → 0 < length list → first ≡ get_or n (length table) 0 → (has first list ≡ true) × (list ≡ first ∷ without first list)
first_is table n p [] first h some e = absurd (omega (arith, some))
first_is table n p (x ∷ xs) first h some e =
    let is : x ≡ first = sym (e ∙ h.linked.0) in
    let rest : without x (x ∷ xs) ≡ xs = without_split (length table) [] x xs h.marked.distinct in
    subst (λ f. (has f (x ∷ xs) ≡ true) × (x ∷ xs ≡ f ∷ without f (x ∷ xs))) is (here x xs, ap (λ l. x ∷ l) (sym rest))

module _ (table : List Bool) (n p list : List ℕ) (h : IsRow table n p list) where
  distinct : AreDistinctBelow (length table + 2) (gated (length table) list)
  distinct = gated_distinct (length table) list h.marked.distinct

  -- what the cells of a thread in the row name
  pub cells_below : (t : ℕ) → has t list ≡ true → (t < length table) × (get_or p t 0 < length table + 2) × (get_or n t 0 < length table + 2)
  cells_below t present =
      let s = length table in
      let lt : t < s = member_below s t list h.marked.distinct present in
      let f = split_at t (gated s list) (there t s (list ++ (s + 1) ∷ []) (in_front t list ((s + 1) ∷ []) present)) in
      let parts : AreDistinctBelow (s + 2) (f.0 ++ t ∷ f.1) = subst (λ l. AreDistinctBelow (s + 2) l) f.2 distinct in
      let chain : IsChain n p (gates s list) (f.0 ++ t ∷ f.1) = subst (λ l. IsChain n p (gates s list) l) f.2 (chained n p s list h.linked) in
      let inner = inner_cells (s + 2) n p (gates s list) f.0 t f.1 parts chain (λ e. omega (arith, lt, e)) (λ e. omega (arith, lt, e)) in
      (lt, inner.0, inner.1)

  -- a thread goes out
  pub row_without : (t b a : ℕ) → has t list ≡ true → b ≡ get_or p t 0 → a ≡ get_or n t 0 → (length (without t list) + 1 ≡ length list) × IsRow (set table t false) (set n b a) (set p a b) (without t list)
  row_without t b a present eb ea =
      let s = length table in
      let lt : t < s = member_below s t list h.marked.distinct present in
      let in_gates = there t s (list ++ (s + 1) ∷ []) (in_front t list ((s + 1) ∷ []) present) in
      let cut = cuts_within n p (gates s list) t b a eb ea (λ e. omega (arith, lt, e)) (λ e. omega (arith, lt, e)) (s + 2) (gated s list) h.next_long h.previous_long distinct in_gates (chained n p s list h.linked) in
      let chain = subst (λ l. IsChain (set n b a) (set p a b) (record { first = s; last = s + 1; count = (gates s list).count - 1 }) l) (without_gated s t list lt) cut.chain in
      (shorter s t list h.marked.distinct present, made (set table t false) (set n b a) (set p a b) (without t list) s (length-set table t false) (length-set n b a ∙ h.next_long) (length-set p a b ∙ h.previous_long) chain.3 (marked_without table list t lt h.marked))

  -- the last place, which the back gate names
  pub last_within : (b back : ℕ) → back ≡ length table + 1 → b ≡ get_or p back 0 → b < length table + 2
  last_within b back is eb =
      let s = length table in
      let last = before_back n p s list (s + 1) h.linked in
      let named = ap (λ k. get_or p k 0) is in
      omega (arith, eb, named, last, last_below (s + 2) s list (distinct_front (s + 2) (s ∷ list) ((s + 1) ∷ []) distinct))

  -- a thread that isn't there comes in at the end
  put_before : (t b : ℕ) → t < length table → has t list ≡ false → b ≡ get_or p (length table + 1) 0
      → IsRow (set table t true) (set (set n b t) t (length table + 1)) (set (set p t b) (length table + 1) t) (list ++ t ∷ [])
  put_before t b lt absent eb =
      let s = length table in
      let e = s + 1 in
      let last : last_of s list ≡ b = sym (eb ∙ before_back n p s list e h.linked) in
      let all = gated_distinct s (list ++ t ∷ []) (distinct_push s list t h.marked.distinct lt absent) in
      let front : Ends = record { first = s; last = b; count = suc (length list) } in
      let with_t : Ends = record { first = s; last = t; count = suc (length list) + 1 } in
      let one = joins_both n p front (alone t) (λ z. omega (arith, z)) (λ z. omega (arith, z)) (s + 2) (s ∷ list) (t ∷ []) h.next_long h.previous_long (distinct_front (s + 2) ((s ∷ list) ++ t ∷ []) (e ∷ []) all) (refl, sym last, refl, front_linked n p s list e h.linked) (refl, refl, refl, tt) in
      let two = joins_both (set n b t) (set p t b) with_t (alone e) (λ z. omega (arith, z)) (λ z. omega (arith, z)) (s + 2) ((s ∷ list) ++ t ∷ []) (e ∷ []) (one.next_long ∙ h.next_long) (one.previous_long ∙ h.previous_long) all one.chain (refl, refl, refl, tt) in
      made (set table t true) (set (set n b t) t e) (set (set p t b) e t) (list ++ t ∷ []) s (length-set table t true) (two.next_long ∙ (one.next_long ∙ h.next_long)) (two.previous_long ∙ (one.previous_long ∙ h.previous_long)) two.chain.3 (marked_put table list t lt (h.marked.marks t ∙ absent) h.marked)

  pub row_put : (t b back : ℕ) → back ≡ length table + 1 → t < length table → has t list ≡ false → b ≡ get_or p back 0 → IsRow (set table t true) (set (set n b t) t back) (set (set p t b) back t) (list ++ t ∷ [])
  row_put t b back is lt absent eb =
      subst (λ k. b ≡ get_or p k 0 → IsRow (set table t true) (set (set n b t) t k) (set (set p t b) k t) (list ++ t ∷ [])) (sym is) (put_before t b lt absent) eb
