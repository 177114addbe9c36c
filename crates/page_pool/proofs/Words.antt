-- A word as a set of numbers below 64: what each of its functions computes.
use Rattle.std.proofs.{Common.{◌≡◌, ◌≢◌, ℕ, ◌-◌, ◌*◌, ◌%◌, ◌^◌, ◌<◌, ◌≤◌, ◌==◌, Bool, true, false, ltb, w64, bit_and, bit_or, sym, ap, ◌∙◌, ⊎_elim, true≢false, arith}, lemmas.Bool.{cases_lt, cases_eq, lt-ltb, le-ltb}, lemmas.Nat.{and_le_l, one_shl}, lemmas.Nat.Bits.{bit_at-zero, bit_at_set_same, bit_at_set_other, bit_at_clear_same, bit_at_clear_other, bit_at_above, bit_at_ones, bit_at_ones_above, bit_at-trailing_zeros}}
use Rattle.std.specs.Int.{bit_not, trailing_zeros}
use Rattle.page_pool.specs.Bits.{has_bit, Puts, IsLeastIn}

abbrev is_one : ℕ → Bool
is_one b = b == 1

pub none_in_zero : (i : ℕ) → has_bit 0 i ≡ false
none_in_zero i = ap is_one (bit_at-zero i)

pub none_past : (word i : ℕ) → word < 2 ^ 64 → 64 ≤ i → has_bit word i ≡ false
none_past word i fits past = ap is_one (bit_at_above word 64 i fits past)

pub with_puts : (word k : ℕ) → k < 64 → Puts word (bit_or word (1 * 2 ^ k % 2 ^ 64)) k true
with_puts word k l = record {
  same = ap is_one (bit_at_set_same w64 word k l);
  others = λ i d. ap is_one (bit_at_set_other w64 word k l i d);
}

without_others : (word k : ℕ) → word < 2 ^ 64 → k < 64 → (i : ℕ) → i ≢ k → has_bit (bit_and word (bit_not w64 (1 * 2 ^ k % 2 ^ 64))) i ≡ has_bit word i
without_others word k fits l i d =
    let mask = bit_not w64 (1 * 2 ^ k % 2 ^ 64) in
    let less = and_le_l word mask in
    ⊎_elim (λ (below : i < 64). ap is_one (bit_at_clear_other w64 word k l i below d)) (λ (past : 64 ≤ i). none_past (bit_and word mask) i (omega (arith, fits, less)) past ∙ sym (none_past word i fits past)) (cases_lt i 64)

pub without_puts : (word k : ℕ) → word < 2 ^ 64 → k < 64 → Puts word (bit_and word (bit_not w64 (1 * 2 ^ k % 2 ^ 64))) k false
without_puts word k fits l = record {
  same = ap is_one (bit_at_clear_same w64 word k l);
  others = without_others word k fits l;
}

pub least_in : (word : ℕ) → 0 < word → word < 2 ^ 64 → IsLeastIn word (trailing_zeros w64 word)
least_in word some fits =
    let at = bit_at-trailing_zeros w64 word some fits in
    record { below = at.0; member = ap is_one at.1; lower_out = λ i l. ap is_one (at.2 i l) }

-- a word that isn't 0 has a number, and one that has a number isn't 0
pub some_in : (word i : ℕ) → has_bit word i ≡ true → word ≢ 0
some_in word i h e = true≢false (sym h ∙ ap (λ x. has_bit x i) e ∙ none_in_zero i)

pub nothing_in : (word : ℕ) → word < 2 ^ 64 → ((i : ℕ) → has_bit word i ≡ false) → word ≡ 0
nothing_in word fits h =
    ⊎_elim (λ (e : word ≡ 0). e) (λ (n : word ≢ 0). absurd (true≢false (sym (least_in word (omega (arith, n)) fits).member ∙ h (trailing_zeros w64 word)))) (cases_eq word 0)

-- what isn't 0 once a number is taken out wasn't 0 before
pub was_some : (old new k : ℕ) → new < 2 ^ 64 → Puts old new k false → new ≢ 0 → old ≢ 0
was_some old new k fits h some e =
    some (nothing_in new fits (λ i. ⊎_elim (λ (s : i ≡ k). ap (has_bit new) s ∙ h.same) (λ (d : i ≢ k). h.others i d ∙ ap (λ x. has_bit x i) e ∙ none_in_zero i) (cases_eq i k)))

pub ones_have : (k i : ℕ) → has_bit (2 ^ k - 1) i ≡ ltb i k
ones_have k i =
    ⊎_elim (λ (l : i < k). ap is_one (bit_at_ones k i l) ∙ sym (lt-ltb i k l)) (λ (l : k ≤ i). ap is_one (bit_at_ones_above k i l) ∙ sym (le-ltb i k l)) (cases_lt i k)

pub below_has : (k i : ℕ) → k < 64 → has_bit (1 * 2 ^ k % 2 ^ 64 - 1) i ≡ ltb i k
below_has k i l = ap (λ m. has_bit (m - 1) i) (one_shl k 64 l) ∙ ones_have k i
