-- Flags of which one was set or taken away, and the least of them.
use Rattle.std.proofs.{Common.{◌≡◌, ◌≢◌, ◌↔◌, ℕ, zero, suc, ◌+◌, ◌-◌, ◌*◌, ◌/◌, ◌%◌, ◌^◌, ◌<◌, List, [], ◌∷◌, length, get_or, bit_and, bit_or, w64, refl, sym, ap, ◌∙◌, arith}, Math.ListN.set, lemmas.List.{get_or-set_same, get_or-set_other}, lemmas.Grind.get_or_default_zero, lemmas.Nat.Bits.{bit_at-zero, bit_at_set_same, bit_at_set_other, bit_at_clear_same, bit_at_clear_other, bit_at-trailing_zeros}}
use Rattle.std.specs.Int.{bit_at, trailing_zeros}
use mathlib.Core.Logic.{dite}
use native.Mathlib.Decide.{ℕ_discrete}
use Rattle.log_merge.specs.Flags.{HasFlag}

module _ (words : List ℕ) (number : ℕ) (fits : number < 64 * length words) where
  within : number / 64 < length words
  within = omega arith

  bit_in : number % 64 < 64
  bit_in = omega arith

  -- the number's flag is the bit at its place of the word that is written
  same_flag : (w : ℕ) → bit_at (get_or (set words (number / 64) w) (number / 64) 0) (number % 64) ≡ bit_at w (number % 64)
  same_flag w = ap (λ v. bit_at v (number % 64)) (get_or-set_same words (number / 64) w 0 within)

  -- if that word has no other bit than the old one elsewhere, every other flag is as before
  other_flags : (w : ℕ) → ((i : ℕ) → i < 64 → i ≢ number % 64 → bit_at w i ≡ bit_at (get_or words (number / 64) 0) i)
      → (other : ℕ) → other ≢ number → bit_at (get_or (set words (number / 64) w) (other / 64) 0) (other % 64) ≡ bit_at (get_or words (other / 64) 0) (other % 64)
  other_flags w same other apart = dite (ℕ_discrete (other / 64) (number / 64))
      (λ here.
      let bit : other % 64 < 64 = omega arith in
      let off : other % 64 ≢ number % 64 = λ e. apart (omega (arith, here, e)) in
      ap (λ i. bit_at (get_or (set words (number / 64) w) i 0) (other % 64)) here
      ∙ (ap (λ v. bit_at v (other % 64)) (get_or-set_same words (number / 64) w 0 within)
      ∙ (same (other % 64) bit off ∙ ap (λ i. bit_at (get_or words i 0) (other % 64)) (sym here))))
      (λ away. ap (λ v. bit_at v (other % 64)) (get_or-set_other words (number / 64) (other / 64) w 0 away))

  other_has : (w : ℕ) → ((i : ℕ) → i < 64 → i ≢ number % 64 → bit_at w i ≡ bit_at (get_or words (number / 64) 0) i)
      → (other : ℕ) → other ≢ number → HasFlag (set words (number / 64) w) other ↔ HasFlag words other
  other_has w same other apart = (λ h. sym (other_flags w same other apart) ∙ h, λ h. other_flags w same other apart ∙ h)

  pub set_has : (old : ℕ) → HasFlag (set words (number / 64) (bit_or old (1 * 2 ^ (number % 64) % 2 ^ 64))) number
  set_has old = same_flag (bit_or old (1 * 2 ^ (number % 64) % 2 ^ 64)) ∙ bit_at_set_same w64 old (number % 64) bit_in

  pub clear_has : (old : ℕ) → HasFlag (set words (number / 64) (bit_and old (2 ^ 64 - 1 - 1 * 2 ^ (number % 64) % 2 ^ 64))) number → ⊥
  clear_has old h =
      let none = same_flag (bit_and old (2 ^ 64 - 1 - 1 * 2 ^ (number % 64) % 2 ^ 64)) ∙ bit_at_clear_same w64 old (number % 64) bit_in in
      let same : 0 ≡ 1 = sym none ∙ h in
      absurd (omega (arith, same))

  module _ (old : ℕ) (was : old ≡ get_or words (number / 64) old) where
    old_is : old ≡ get_or words (number / 64) 0
    old_is = was ∙ get_or_default_zero words (number / 64) old within

    pub set_others : (other : ℕ) → other ≢ number → HasFlag (set words (number / 64) (bit_or old (1 * 2 ^ (number % 64) % 2 ^ 64))) other ↔ HasFlag words other
    set_others = other_has (bit_or old (1 * 2 ^ (number % 64) % 2 ^ 64))
        (λ i below off. bit_at_set_other w64 old (number % 64) bit_in i off ∙ ap (λ v. bit_at v i) old_is)

    pub clear_others : (other : ℕ) → other ≢ number → HasFlag (set words (number / 64) (bit_and old (2 ^ 64 - 1 - 1 * 2 ^ (number % 64) % 2 ^ 64))) other ↔ HasFlag words other
    clear_others = other_has (bit_and old (2 ^ 64 - 1 - 1 * 2 ^ (number % 64) % 2 ^ 64))
        (λ i below off. bit_at_clear_other w64 old (number % 64) bit_in i below off ∙ ap (λ v. bit_at v i) old_is)

-- words without a flag have no number's
no_flag : (words : List ℕ) (number : ℕ) → get_or words (number / 64) 0 ≡ 0 → HasFlag words number → ⊥
no_flag words number none h =
    let same : 0 ≡ 1 = sym (ap (λ v. bit_at v (number % 64)) none ∙ bit_at-zero (number % 64)) ∙ h in
    absurd (omega (arith, same))

module _ (words : List ℕ) (i : ℕ) (before : (k : ℕ) → k < i → get_or words k 0 ≡ 0) (w : ℕ) (is : w ≡ get_or words i 0) (some : 0 < w) (fits : w < 2 ^ 64) where
  abbrev t : ℕ
  t = trailing_zeros w64 w

  lowest : (t < 64) × (bit_at w t ≡ 1) × ((k : ℕ) → k < t → bit_at w k ≡ 0)
  lowest = bit_at-trailing_zeros w64 w some fits

  word_is : (64 * i + t) / 64 ≡ i
  word_is = let below = lowest.0 in omega (arith, below)

  bit_is : (64 * i + t) % 64 ≡ t
  bit_is = let below = lowest.0 in omega (arith, below)

  none_below : (number : ℕ) → number < 64 * i + t → HasFlag words number → ⊥
  none_below number less h = dite (ℕ_discrete (number / 64) i)
      (λ here.
      let low : number % 64 < t = omega (arith, less, here) in
      let none = ap (λ k. bit_at (get_or words k 0) (number % 64)) here ∙ (ap (λ v. bit_at v (number % 64)) (sym is) ∙ lowest.2 (number % 64) low) in
      let same : 0 ≡ 1 = sym none ∙ h in
      absurd (omega (arith, same)))
      (λ away. no_flag words number (before (number / 64) (let below = lowest.0 in omega (arith, less, away, below))) h)

  -- the lowest bit of the first word that has one is the least flag
  pub least_flag : HasFlag words (64 * i + t) × ((number : ℕ) → number < 64 * i + t → HasFlag words number → ⊥)
  least_flag = ((λ j. bit_at (get_or words (word_is j) 0) (bit_is j)) ∙ (ap (λ v. bit_at v t) (sym is) ∙ lowest.1), none_below)

-- a list reads 0 everywhere if it does within
zero_reads : (xs : List ℕ) (k : ℕ) → (k < length xs → get_or xs k 0 ≡ 0) → get_or xs k 0 ≡ 0
zero_reads [] k zeros = refl
zero_reads (x ∷ xs) zero zeros = zeros (omega arith)
zero_reads (x ∷ xs) (suc k) zeros = zero_reads xs k (λ lt. zeros (omega (arith, lt)))

-- where each word is 0, no flag is set
pub none_set : (words : List ℕ) → ((k : ℕ) → k < length words → get_or words k 0 ≡ 0) → (number : ℕ) → HasFlag words number → ⊥
none_set words zeros number h = no_flag words number (zero_reads words (number / 64) (zeros (number / 64))) h
