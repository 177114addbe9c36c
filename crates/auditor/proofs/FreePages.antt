-- The least free page of a table, found by a walk that begins where none before is free.
use Rattle.std.proofs.{Common.{◌≡◌, ℕ, ◌+◌, ◌<◌, ◌≤◌, true, false, cond, List, Option, None, Some, is_none, length, get_or, set, refl, sym, ap, ◌∙◌, subst, arith}, lemmas.Bool.{lt-ltb, le-ltb}, lemmas.List.{get_or-set_same, get_or-set_other, length-set}, lemmas.List.Quantifiers.position-Some, lemmas.List.Sums.{position_or_len_is, fails_before_first, sum_by-set, count_by-le-length}}
use Rattle.std.specs.List.{position_or_len}
use Rattle.page_pool.specs.Table.{least_free, left_of}
use Rattle.auditor.specs.Pages.{AreTakenBelow}
use Rattle.auditor.proofs.MarkedLists.{same_or}
use Rattle.page_pool.proofs.Least.{none_past}

-- the walk stops at a free page
pub found_least : (owners : List (Option ℕ)) (p : ℕ) → p < length owners → AreTakenBelow p owners → is_none (get_or owners p None) ≡ true → Some p ≡ least_free owners
found_least owners p lt below free =
    let at = position_or_len_is is_none owners p None (omega arith) below (λ _. free) in
    rw (at, lt-ltb p (length owners) lt) refl

-- it comes to the end
pub found_none : (owners : List (Option ℕ)) (n : ℕ) → length owners ≤ n → AreTakenBelow n owners → None ≡ least_free owners
found_none owners n le below =
    let len = length owners in
    let at = position_or_len_is is_none owners len None (omega arith) (λ k l. below k (omega (arith, l, le))) (λ l. absurd (omega (arith, l))) in
    rw (at, le-ltb len len (omega arith)) refl

-- the least free page is in the table, it is free, and every page below it has an owner
pub least_at : (owners : List (Option ℕ)) (p : ℕ) → least_free owners ≡ Some p → (p < length owners) × (is_none (get_or owners p None) ≡ true) × AreTakenBelow p owners
least_at owners p e = position-Some is_none owners p None e

-- where none is free, every page has an owner
pub all_taken : (owners : List (Option ℕ)) → least_free owners ≡ None → AreTakenBelow (length owners) owners
all_taken owners e q l =
    let past = none_past (position_or_len is_none owners) (length owners) e in
    fails_before_first is_none owners q None (omega (arith, past, l))

-- once it has one too, so has every page up to it
pub taken_up_to : (owners : List (Option ℕ)) (p o : ℕ) → p < length owners → AreTakenBelow p owners → AreTakenBelow (p + 1) (set owners p (Some o))
taken_up_to owners p o lt below q l = same_or p q (is_none (get_or (set owners p (Some o)) q None) ≡ false)
    (λ e. subst (λ k. is_none (get_or (set owners p (Some o)) k None) ≡ false) (sym e) (ap is_none (get_or-set_same owners p (Some o) None lt)))
    (λ n. ap is_none (get_or-set_other owners p q (Some o) None n) ∙ below q (omega (arith, l, n)))

-- what a page counts among the free ones
abbrev counts : Option ℕ → ℕ
counts entry = cond (is_none entry) 1 0

-- one page fewer is free
pub given_left : (owners : List (Option ℕ)) (p o : ℕ) → p < length owners → is_none (get_or owners p None) ≡ true → left_of (set owners p (Some o)) + 1 ≡ left_of owners
given_left owners p o lt free =
    let sums = sum_by-set counts owners p (Some o) None lt in
    let one : counts (get_or owners p None) ≡ 1 = rw free refl in
    omega (arith, sums, one)

-- one page more is free
pub released_left : (owners : List (Option ℕ)) (p o : ℕ) → p < length owners → get_or owners p None ≡ Some o → left_of (set owners p None) ≡ left_of owners + 1
released_left owners p o lt taken =
    let sums = sum_by-set counts owners p None None lt in
    let none : counts (get_or owners p None) ≡ 0 = rw taken refl in
    omega (arith, sums, none)

-- where a page isn't free, fewer are than there are
pub some_taken : (owners : List (Option ℕ)) (p o : ℕ) → p < length owners → get_or owners p None ≡ Some o → left_of owners < length owners
some_taken owners p o lt taken =
    omega (arith, released_left owners p o lt taken, count_by-le-length is_none (set owners p None), length-set owners p None)
