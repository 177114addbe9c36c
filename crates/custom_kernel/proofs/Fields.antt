-- Numbers beside the fields whose values they are.
use Rattle.std.proofs.{Common.{◌≡◌, ℕ, Bool, true, false, cond, Some, None, List, [], ◌∷◌, length, refl, arith}, lemmas.Bool.and_right}
use Rattle.kernel_words.specs.{declared.tables.field.Field.Field, Row.in_range}
use Rattle.custom_kernel.specs.KernelModel.{are_in_ranges}

-- more or fewer numbers don't fit
pub in_ranges_count : (fs : List Field) (ns : List ℕ) → (length ns ≡ length fs → ⊥) → are_in_ranges fs ns ≡ false
in_ranges_count [] [] other = absurd (other refl)
in_ranges_count [] (n ∷ ns) other = refl
in_ranges_count (f ∷ fs) [] other = refl
in_ranges_count (f ∷ fs) (n ∷ ns) other = and_right (in_range (record f { value = n })) (are_in_ranges fs ns) (in_ranges_count fs ns (λ e. other (omega (arith, e))))

-- numbers that were found are those that fit
pub found_fit : (fit : Bool) (ns found : List ℕ) → Some found ≡ cond fit (Some ns) None → (fit ≡ true) × (found ≡ ns)
found_fit true ns found e = (refl, cc)
found_fit false ns found e = absurd cc
