-- A number that is read a digit at a time.
use Rattle.std.proofs.{Common.{◌≡◌, ℕ, zero, suc, ◌+◌, ◌-◌, ◌*◌, ◌<◌, ◌≤◌, ◌^◌, ◌==◌, Bool, true, false, cond, Some, None, List, [], ◌∷◌, length, take, drop, get_or, decimal, refl, sym, ap, subst, ne_eqb, ◌∙◌, arith}, lemmas.List.take_all, lemmas.Int.Digits.digits_value_more, lemmas.Option.cond_some, lemmas.Str.Parse.digits_value-take-le}
use Rattle.std.specs.{Int.IsInRange, List.onto_first, Str.Parse.digits_value}
use Rattle.record_lines.specs.Reading.{AreDigits, words, word_at, number_at, behind_at}
use Rattle.record_lines.proofs.{Cuts.{no_number, number_again}, Bytes.first_is, Digits.{NoText, digits_more, digits_push, digits_are, decimal_digits, decimal_value, empty_none, zero_none}}

-- the bytes before the first space
abbrev pub first_of : List ℕ → List ℕ
first_of [] = []
first_of (b ∷ bytes) = cond (b == 32) [] (b ∷ first_of bytes)

-- the words behind it
abbrev pub rest_of : List ℕ → List (List ℕ)
rest_of [] = []
rest_of (b ∷ bytes) = cond (b == 32) (words bytes) (rest_of bytes)

words_on : (s : Bool) (b : ℕ) (bytes : List ℕ) → words bytes ≡ first_of bytes ∷ rest_of bytes → cond s ([] ∷ words bytes) (onto_first b (words bytes)) ≡ cond s [] (b ∷ first_of bytes) ∷ cond s (words bytes) (rest_of bytes)
words_on true b bytes e = refl
words_on false b bytes e = ap (onto_first b) e

pub words_are : (bytes : List ℕ) → words bytes ≡ first_of bytes ∷ rest_of bytes
unfolding words
words_are [] = refl
words_are (b ∷ bytes) = words_on (b == 32) b bytes (words_are bytes)

-- nothing of the first word is left
ended : (left : List ℕ) (ws : List (List ℕ)) → behind_at left ≡ Some ws → (first_of left ≡ []) × (rest_of left ≡ ws)
ended [] ws ends = (refl, cc)
ended (b ∷ left) ws ends = let found = cond_some (b == 32) (words left) ws ends in (rw found.0 refl, rw found.0 found.1)

-- the byte at that place, and those behind it
drop_first : (w l : List ℕ) (i b : ℕ) → drop i w ≡ b ∷ l → (i < length w) × (get_or w i 0 ≡ b) × (drop (i + 1) w ≡ l)
drop_first [] l zero b e = absurd cc
drop_first [] l (suc i) b e = absurd cc
drop_first (x ∷ w) l zero b e = (omega arith, cc, cc)
drop_first (x ∷ w) l (suc i) b e =
    let h = drop_first w l i b e in
    let place : suc i + 1 ≡ suc (i + 1) = omega arith in
    (omega (arith, h.0), h.1, ap (λ n. drop n (x ∷ w)) place ∙ h.2)

drop_none : (w : List ℕ) (i : ℕ) → drop i w ≡ [] → length w ≤ i
drop_none [] i e = omega arith
drop_none (x ∷ w) zero e = absurd cc
drop_none (x ∷ w) (suc i) e = let h = drop_none w i e in omega (arith, h)

-- so many digits of the first word have been read, and there is no needless zero in front
pub record HasRead (bytes left : List ℕ) (number : ℕ) : Type 0 where
  pub count : ℕ
  pub some : 0 < count
  pub within : count ≤ length (first_of bytes)
  pub first : drop count (first_of bytes) ≡ first_of left
  pub rest : rest_of bytes ≡ rest_of left
  pub digits : (k : ℕ) → k < count → IsInRange 48 57 (get_or (first_of bytes) k 0)
  pub value : number ≡ digits_value 10 (take count (first_of bytes))
  pub zero_first : number ≡ 0 → get_or (first_of bytes) 0 0 ≡ 48
  pub alone : get_or (first_of bytes) 0 0 ≡ 48 → (count ≡ 1) × (number ≡ 0)

pub has_first : (bytes left : List ℕ) (b d : ℕ) → bytes ≡ b ∷ left → b ≡ 48 + d → d < 10 → HasRead bytes left d
has_first bytes left b d begins digit few =
    let w = first_of bytes in
    let other : (b == 32) ≡ false = grind (arith, digit) in
    let split : w ≡ b ∷ first_of left = ap first_of begins ∙ rw other refl in
    let front : get_or w 0 0 ≡ b = ap (λ l. get_or l 0 0) split in
    let long : 0 < length w = omega (arith, ap length split) in
    let same : d ≡ 0 * 10 + d = omega arith in
    record {
      count = 1;
      some = omega arith;
      within = omega (arith, long);
      first = ap (drop 1) split;
      rest = ap rest_of begins ∙ rw other refl;
      digits = digits_push w 0 d (λ k less. absurd (omega (arith, less))) (front ∙ digit) few;
      value = same ∙ digits_more w 0 0 d long (front ∙ digit) few refl;
      zero_first = λ none. omega (arith, front, digit, none);
      alone = λ lone. (refl, omega (arith, front, digit, lone));
    }

-- the byte that is next, and those behind it
abbrev byte : List ℕ → ℕ
byte left = get_or left 0 0

abbrev more : List ℕ → List ℕ
more left = take (length left - 1) (drop 1 left)

module _ (bytes left : List ℕ) (number : ℕ) (h : HasRead bytes left number) (one : 1 ≤ length left) (differs : byte left ≡ 32 → ⊥) where
  is : left ≡ byte left ∷ more left
  is = first_is left (byte left) one refl

  other : (byte left == 32) ≡ false
  other = ne_eqb _ _ differs

  -- the first word goes on with the byte
  next : (h.count < length (first_of bytes)) × (get_or (first_of bytes) h.count 0 ≡ byte left) × (drop (h.count + 1) (first_of bytes) ≡ first_of (more left))
  next = drop_first (first_of bytes) (first_of (more left)) h.count (byte left) (h.first ∙ (ap first_of is ∙ rw other refl))

  pub has_more : (d n : ℕ) → (number ≡ 0 → ⊥) → byte left ≡ 48 + d → d < 10 → n ≡ number * 10 + d → HasRead bytes (more left) n
  has_more d n some digit few sum = record {
    count = h.count + 1;
    some = omega arith;
    within = omega (arith, next.0);
    first = next.2;
    rest = h.rest ∙ (ap rest_of is ∙ rw other refl);
    digits = digits_push (first_of bytes) h.count d h.digits (next.1 ∙ digit) few;
    value = sum ∙ digits_more (first_of bytes) h.count number d next.0 (next.1 ∙ digit) few h.value;
    zero_first = λ none. absurd (some (omega (arith, sum, none)));
    alone = λ lone. absurd (some (h.alone lone).1);
  }

module _ (high : ℕ) (small : high < 2 ^ 64) where
  none_at : (bytes : List ℕ) → NoText high (first_of bytes) → None ≡ number_at high (words bytes)
  unfolding number_at word_at
  none_at bytes none = rw (words_are bytes, sym (no_number high (first_of bytes) none)) refl

  -- nothing is there
  pub none_empty : (bytes : List ℕ) → length bytes ≡ 0 → None ≡ number_at high (words bytes)
  none_empty [] e = none_at [] (empty_none high [] small refl)
  none_empty (b ∷ bytes) e = absurd (omega (arith, e))

  -- the first byte is no digit
  other_front : (s : Bool) (b : ℕ) (l : List ℕ) → (IsInRange 48 57 b → ⊥) → NoText high (cond s [] (b ∷ l))
  other_front true b l other = empty_none high [] small refl
  other_front false b l other = λ n few text. other (decimal_digits (b ∷ l) n (omega (arith, few, small)) text 0 (omega arith))

  pub none_first : (bytes rest : List ℕ) (b : ℕ) → bytes ≡ b ∷ rest → (IsInRange 48 57 b → ⊥) → None ≡ number_at high (words bytes)
  none_first bytes rest b begins differs = none_at (b ∷ rest) (other_front (b == 32) b (first_of rest) differs) ∙ ap (λ l. number_at high (words l)) (sym begins)

  -- the digits are too great already
  pub none_past : (bytes left : List ℕ) (number : ℕ) → HasRead bytes left number → high < number → None ≡ number_at high (words bytes)
  none_past bytes left number h past = none_at bytes (λ n few text.
      let same = decimal_value (first_of bytes) n (omega (arith, few, small)) text in
      let part = digits_value-take-le 10 (first_of bytes) h.count (omega arith) in
      omega (arith, same, part, h.value, past, few))

  -- the number that has been read is all of the first word
  pub some_read : (bytes left : List ℕ) (number : ℕ) (ws : List (List ℕ)) → HasRead bytes left number → behind_at left ≡ Some ws → number ≤ high → Some (number, ws) ≡ number_at high (words bytes)
  unfolding number_at word_at
  some_read bytes left number ws h ends low =
      let w = first_of bytes in
      let end = ended left ws ends in
      let long : length w ≤ h.count = drop_none w h.count (h.first ∙ end.0) in
      let all : take h.count w ≡ w = take_all h.count w long in
      let digits : AreDigits w = λ k less. h.digits k (omega (arith, less, long)) in
      let fits : number < 2 ^ 64 = omega (arith, low, small) in
      let one : get_or w 0 0 ≡ 48 → length w ≡ 1 = λ lone. omega (arith, (h.alone lone).0, long, h.within) in
      let text : w ≡ decimal number = digits_are w number high digits (omega (arith, h.some, h.within)) one (h.value ∙ ap (digits_value 10) all) fits in
      let here : words bytes ≡ decimal number ∷ ws = words_are bytes ∙ ((λ j. text j ∷ rest_of bytes) ∙ ap (λ l. decimal number ∷ l) (h.rest ∙ end.1)) in
      rw (here, number_again high number low fits) refl

  module _ (bytes left : List ℕ) (number : ℕ) (h : HasRead bytes left number) (one : 1 ≤ length left) (differs : byte left ≡ 32 → ⊥) where
    -- a zero in front is not alone
    pub none_zero : number ≡ 0 → None ≡ number_at high (words bytes)
    none_zero none =
        let first = h.zero_first none in
        let on = next bytes left number h one differs in
        none_at bytes (zero_none high (first_of bytes) small first (omega (arith, (h.alone first).0, on.0)))

    -- the next byte is no digit
    pub none_digit : (IsInRange 48 57 (byte left) → ⊥) → None ≡ number_at high (words bytes)
    none_digit letter =
        let on = next bytes left number h one differs in
        none_at bytes (λ n few text. letter (subst (IsInRange 48 57) on.1 (decimal_digits (first_of bytes) n (omega (arith, few, small)) text h.count on.0)))

    -- the number is too great with any digit more
    pub none_ten : high < number * 10 → None ≡ number_at high (words bytes)
    none_ten past =
        let on = next bytes left number h one differs in
        none_at bytes (λ n few text.
        let same = decimal_value (first_of bytes) n (omega (arith, few, small)) text in
        let part = digits_value-take-le 10 (first_of bytes) (h.count + 1) (omega arith) in
        let sum = digits_value_more 10 (first_of bytes) h.count on.0 in
        omega (arith, same, part, sum, h.value, past, few))

    -- the number is too great with this digit
    pub none_more : (d : ℕ) → (number ≡ 0 → ⊥) → byte left ≡ 48 + d → d < 10 → high < number * 10 + d → None ≡ number_at high (words bytes)
    none_more d some digit few past = none_past bytes (more left) (number * 10 + d) (has_more bytes left number h one differs d (number * 10 + d) some digit few refl) past
