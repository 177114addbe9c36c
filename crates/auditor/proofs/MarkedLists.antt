-- How a table of marks follows its list.
use Rattle.std.proofs.{Common.{◌≡◌, ◌≢◌, ℕ, ◌<◌, ◌==◌, ◌||◌, Bool, true, false, not, List, [], ◌∷◌, ◌++◌, length, get_or, set, replicate, refl, sym, ap, ◌∙◌, subst, arith}, lemmas.Bool.Decides.nat_tests, lemmas.List.{get_or-set_same, get_or-set_other, length-set}, lemmas.List.Folds.list_any-append, lemmas.List.Sorted.list_any-IsPermutation}
use Rattle.std.specs.List.Sorted.{IsPermutation}
use Rattle.event_log.specs.Distinct.{has, without, AreDistinctBelow}
use Rattle.event_log.proofs.{Cells.{has_without, gone, none_flagged}, Distinct.{distinct_push, distinct_filter, distinct_permuted, distinct_length_missing}}
use Rattle.auditor.specs.Marks.{AreMarked}

-- a number is itself or it isn't
pub same_or : (t u : ℕ) (P : Type 0) → (u ≡ t → P) → (u ≢ t → P) → P
same_or t u P same other = elim (t == u) as (λ b. (t == u) ≡ b → P) [ true ↦ λ e. same (grind (arith, nat_tests, e)) | false ↦ λ e. other (grind (arith, nat_tests, e)) ] refl

-- the mark of t was written: it says of t what the new list has, and of all others what both lists have
marks_written : (table : List Bool) (list new : List ℕ) (t : ℕ) (b : Bool) → t < length table → AreMarked table list → has t new ≡ b → ((u : ℕ) → u ≢ t → has u new ≡ has u list) → (u : ℕ) → get_or (set table t b) u false ≡ has u new
marks_written table list new t b lt h here there u = same_or t u (get_or (set table t b) u false ≡ has u new)
    (λ e. subst (λ k. get_or (set table t b) k false ≡ has k new) (sym e) (get_or-set_same table t b false lt ∙ sym here))
    (λ n. get_or-set_other table t u b false n ∙ (h.marks u ∙ sym (there u n)))

-- the table keeps its length
still : (table : List Bool) (t : ℕ) (b : Bool) (list : List ℕ) → AreDistinctBelow (length table) list → AreDistinctBelow (length (set table t b)) list
still table t b list q = subst (λ n. AreDistinctBelow n list) (sym (length-set table t b)) q

-- no thread stands in the empty list
pub marked_none : (n : ℕ) → AreMarked (replicate n false) []
marked_none n = record { distinct = tt; marks = none_flagged n }

-- a number that differs isn't the one
apart : (t u : ℕ) → u ≢ t → (t == u) ≡ false
apart t u n = grind (arith, nat_tests, n)

itself : (t : ℕ) → (t == t) ≡ true
itself t = grind (arith, nat_tests)

has_end : (t u : ℕ) (list : List ℕ) → has u (list ++ t ∷ []) ≡ (has u list || ((t == u) || false))
has_end t u list = list_any-append (λ y. y == u) list (t ∷ [])

or_none : (b : Bool) → (b || (false || false)) ≡ b
or_none true = refl
or_none false = refl

or_some : (b : Bool) → (b || (true || false)) ≡ true
or_some true = refl
or_some false = refl

-- a thread that wasn't there goes to the end
pub marked_put : (table : List Bool) (list : List ℕ) (t : ℕ) → t < length table → get_or table t false ≡ false → AreMarked table list → AreMarked (set table t true) (list ++ t ∷ [])
marked_put table list t lt absent h =
    let new = list ++ t ∷ [] in
    let here : has t new ≡ true = has_end t t list ∙ (ap (λ b. has t list || (b || false)) (itself t) ∙ or_some (has t list)) in
    let there : (u : ℕ) → u ≢ t → has u new ≡ has u list = λ u n. has_end t u list ∙ (ap (λ b. has u list || (b || false)) (apart t u n) ∙ or_none (has u list)) in
    record {
      distinct = still table t true new (distinct_push (length table) list t h.distinct lt (sym (h.marks t) ∙ absent));
      marks = marks_written table list new t true lt h here there;
    }

-- one of them leaves
pub marked_without : (table : List Bool) (list : List ℕ) (t : ℕ) → t < length table → AreMarked table list → AreMarked (set table t false) (without t list)
marked_without table list t lt h = record {
  distinct = still table t false (without t list) (distinct_filter (λ y. not (y == t)) (length table) list h.distinct);
  marks = marks_written table list (without t list) t false lt h (gone t list) (λ u n. has_without t u list n);
}

-- they stand in another order
pub marked_permuted : (table : List Bool) (xs ys : List ℕ) → IsPermutation xs ys → AreMarked table xs → AreMarked table ys
marked_permuted table xs ys p h = record {
  distinct = distinct_permuted (length table) xs ys h.distinct p;
  marks = λ t. h.marks t ∙ list_any-IsPermutation (λ y. y == t) xs ys p;
}

-- they are fewer than the table is long where one isn't there
pub marked_fewer : (table : List Bool) (list : List ℕ) (t : ℕ) → t < length table → get_or table t false ≡ false → AreMarked table list → length list < length table
marked_fewer table list t lt absent h = distinct_length_missing (length table) list t h.distinct lt (sym (h.marks t) ∙ absent)
