-- How many pages each owner has, as a page is given or taken back.
use Rattle.std.proofs.{Common.{◌≡◌, ◌≢◌, ℕ, ◌+◌, ◌<◌, ◌≤◌, Option, None, Some, List, length, get_or, set, sym, ap, subst, ◌∙◌, arith}, lemmas.List.{get_or-set_same, get_or-set_other}}
use Rattle.page_pool.specs.Table.{owner_of, held_by}
use Rattle.page_pool.proofs.Held.{held_more, held_same}
use Rattle.auditor.specs.Pages.{AreCounted}
use Rattle.auditor.proofs.MarkedLists.{same_or}

-- one owner's count was written, where the others have as many pages as before
recounted : (counts : List ℕ) (old new : List (Option ℕ)) (o n : ℕ) → length counts ≡ 16 → o ≤ 15 → n ≡ held_by new o → ((q : ℕ) → q ≢ o → held_by new q ≡ held_by old q) → AreCounted counts old → AreCounted (set counts o n) new
recounted counts old new o n long low here there was q l = same_or o q (get_or (set counts o n) q 0 ≡ held_by new q)
    (λ e. subst (λ k. get_or (set counts o n) k 0 ≡ held_by new k) (sym e) (get_or-set_same counts o n 0 (omega (arith, long, low)) ∙ here))
    (λ d. get_or-set_other counts o q n 0 d ∙ (was q l ∙ sym (there q d)))

module _ (counts : List ℕ) (owners : List (Option ℕ)) (p o : ℕ) (long : length counts ≡ 16) (low : o ≤ 15) (at : p < length owners) (was : AreCounted counts owners) where
  -- a free page is given
  pub counted_more : owner_of owners p ≡ None → AreCounted (set counts o (get_or counts o 0 + 1)) (set owners p (Some o))
  counted_more free =
      recounted counts owners (set owners p (Some o)) o (get_or counts o 0 + 1) long low (ap (λ n. n + 1) (was o low) ∙ sym (held_more owners p o at free)) (λ q d. held_same owners p o q at free d) was
