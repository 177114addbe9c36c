-- The value of digits, and the numbers that they are the decimal text of.
use Rattle.std.proofs.{Common.{◌≡◌, ◌⊎◌, inl, inr, ℕ, zero, suc, ◌+◌, ◌-◌, ◌*◌, ◌<◌, ◌≤◌, ◌^◌, List, [], ◌∷◌, length, take, get_or, Option, Some, None, decimal, refl, sym, ap, subst, ◌∙◌, arith, slice_get, IfSome, IfNone}, lemmas.Bool.{lt-ltb, le-ltb}, lemmas.Fmt.{decimal-digits_value, digits_decimal, digits_value-decimal, decimal_nonempty, first_decimal, decimal_digit}, lemmas.Int.Digits.digits_value_more, lemmas.Str.Parse.{IsNumeralModel, numerals_by_value, tells_by_index, digits_value-take-le}}
use Rattle.std.specs.{Char.digit_value, Int.IsInRange, Str.Parse.digits_value}
use Rattle.record_lines.specs.Reading.{AreDigits, number_in}
use Rattle.record_lines.proofs.Cuts.{no_number, number_again}

own : IsNumeralModel AreDigits (digits_value 10)
own = numerals_by_value AreDigits tells_by_index

digit_is : (c d : ℕ) → c ≡ 48 + d → d < 10 → digit_value c ≡ d
digit_is c d e less = rw (e, le-ltb (48 + d) 48 (omega arith), lt-ltb (48 + d) 58 (omega (arith, less))) (let same : 48 + d - 48 ≡ d = omega arith in same)

-- one digit more
pub digits_more : (word : List ℕ) (i number d : ℕ) → i < length word → get_or word i 0 ≡ 48 + d → d < 10 → number ≡ digits_value 10 (take i word) → number * 10 + d ≡ digits_value 10 (take (i + 1) word)
digits_more word i number d less byte small value = sym (digits_value_more 10 word i less ∙ (ap (λ n. n * 10 + digit_value (get_or word i 0)) (sym value) ∙ ap (λ n. number * 10 + n) (digit_is (get_or word i 0) d byte small)))

-- the first digits are too great already
pub digits_past : (word : List ℕ) (i number d high : ℕ) → i < length word → get_or word i 0 ≡ 48 + d → d < 10 → number ≡ digits_value 10 (take i word) → high < number * 10 + d → high < digits_value 10 word
digits_past word i number d high less byte small value past =
    let more = digits_more word i number d less byte small value in
    let within = digits_value-take-le 10 word (i + 1) (omega arith) in
    omega (arith, more, within, past)

-- the bytes before the next are digits, and it is one
pub digits_push : (word : List ℕ) (i d : ℕ) → ((k : ℕ) → k < i → IsInRange 48 57 (get_or word k 0)) → get_or word i 0 ≡ 48 + d → d < 10 → (k : ℕ) → k < i + 1 → IsInRange 48 57 (get_or word k 0)
digits_push word i d before byte small k less =
    let go : (k < i) ⊎ (k ≡ i) → IsInRange 48 57 (get_or word k 0) = λ which. elim which [
      | inl lower ↦ before k lower
      | inr here ↦ subst (λ (c : ℕ). IsInRange 48 57 c) (sym (ap (λ n. get_or word n 0) here ∙ byte)) (omega arith, omega (arith, small))
    ] in
    go (grind (arith, less))

-- digits with no needless zero in front are the text of their value
pub digits_are : (word : List ℕ) (n high : ℕ) → AreDigits word → 0 < length word → (get_or word 0 0 ≡ 48 → length word ≡ 1) → n ≡ digits_value 10 word → n < 2 ^ 64 → word ≡ decimal n
digits_are word n high digits some plain value fits = sym (ap decimal value ∙ decimal-digits_value own word digits some plain (subst (λ (m : ℕ). m < 2 ^ 64) value fits))

-- the text of a number has digits alone, and is its value
pub decimal_digits : (word : List ℕ) (n : ℕ) → n < 2 ^ 64 → word ≡ decimal n → AreDigits word
decimal_digits word n fits e = subst AreDigits (sym e) (digits_decimal own n fits)

pub decimal_value : (word : List ℕ) (n : ℕ) → n < 2 ^ 64 → word ≡ decimal n → digits_value 10 word ≡ n
decimal_value word n fits e = ap (digits_value 10) e ∙ digits_value-decimal own n fits

-- no number's text is empty
pub decimal_some : (word : List ℕ) (n : ℕ) → n < 2 ^ 64 → word ≡ decimal n → 0 < length word
decimal_some word n fits e = subst (λ (l : List ℕ). 0 < length l) (sym e) (decimal_nonempty n fits)

-- no number's text has a needless zero in front
pub decimal_plain : (word : List ℕ) (n : ℕ) → n < 2 ^ 64 → word ≡ decimal n → get_or word 0 0 ≡ 48 → length word ≡ 1
decimal_plain word zero fits e zero_first = ap length (e ∙ decimal_digit 0 (omega arith))
decimal_plain word (suc n) fits e zero_first = absurd (let first = first_decimal (suc n) (omega arith) fits in omega (arith, first, zero_first, ap (λ l. get_or l 0 0) e))

-- ---- what reading answers

-- no number has this text
abbrev pub NoText : ℕ → List ℕ → Type 0
NoText high word = (n : ℕ) → n ≤ high → word ≡ decimal n → ⊥

-- the right answer
pub record IsAnswer (high : ℕ) (word : List ℕ) (r : Option ℕ) : Type 0 where
  pub value : r ≡ number_in high word
  pub found : IfSome r (λ n. word ≡ decimal n)
  pub only : (n : ℕ) → n ≤ high → word ≡ decimal n → r ≡ Some n

pub answers_none : (high : ℕ) (word : List ℕ) → NoText high word → IsAnswer high word None
answers_none high word none = record { value = no_number high word none; found = tt; only = λ n few e. absurd (none n few e) }

pub nothing_first : (word : List ℕ) → None ≡ slice_get word 0 → word ≡ []
nothing_first [] e = refl
nothing_first (b ∷ word) e = absurd cc

module _ (high : ℕ) (word : List ℕ) (small : high < 2 ^ 64) where
  pub empty_none : word ≡ [] → NoText high word
  empty_none e n few text = let some = decimal_some word n (omega (arith, few, small)) text in omega (arith, some, ap length e)

  pub zero_none : get_or word 0 0 ≡ 48 → 1 < length word → NoText high word
  zero_none first long n few text = let one = decimal_plain word n (omega (arith, few, small)) text first in omega (arith, one, long)

  pub answers_digits : (r : Option ℕ) → 0 < length word → (get_or word 0 0 ≡ 48 → length word ≡ 1) → IfSome r (λ n. AreDigits word) → IfSome r (λ n. n ≡ digits_value 10 word) → IfSome r (λ n. n ≤ high) → IfNone r (AreDigits word → high < digits_value 10 word) → IsAnswer high word r
  answers_digits None some plain digits value bound none = answers_none high word (λ n few text.
      let fits : n < 2 ^ 64 = omega (arith, few, small) in
      let past = none (decimal_digits word n fits text) in
      omega (arith, past, decimal_value word n fits text, few))
  answers_digits (Some n) some plain digits value bound none =
      let fits : n < 2 ^ 64 = omega (arith, bound, small) in
      let text = digits_are word n high digits some plain value fits in
      record {
        value = sym (ap (number_in high) text ∙ number_again high n bound fits);
        found = text;
        only = λ m few e. ap Some (value ∙ decimal_value word m (omega (arith, few, small)) e);
      }
