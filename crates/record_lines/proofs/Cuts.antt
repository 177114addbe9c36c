-- Cutting a list at the first member that passes a test.
use Rattle.std.proofs.{Common.{◌≡◌, ℕ, zero, suc, ◌+◌, ◌^◌, ◌<◌, ◌≤◌, ◌==◌, decimal, subst, not, cond, nat_lt, Bool, true, false, Some, None, List, [], ◌∷◌, ◌++◌, length, take, drop, get_or, position, refl, sym, ◌∙◌, ap, arith, nat_le, ◌&&◌, bytes_eq}, lemmas.Bool.{eqb-true, ltb-false, and_parts, leb-true, le-leb, false_from_ne_true}, lemmas.List.{take-append-drop, drop_more, take_all}, lemmas.List.Elements.All-from_recursion, lemmas.List.Quantifiers.position-Some, lemmas.List.Splits.{slice_split_none, slice_split_at}, lemmas.Option.cond_some, lemmas.Fmt.decimal_is_IsNumeral, lemmas.Slice.Eq.bytes_eq-Decides}
use Rattle.std.specs.{List.{AllByRecursion, prefix_len, position_or_len, slice_split}, Str.Parse.digits_value}
use Rattle.memchr.specs.Find.{IsFirstByte, is_byte}
use Rattle.record_lines.specs.Reading.{words, number_in}

pub none_below : (test : ℕ → Bool) (xs : List ℕ) (i : ℕ) → ((k : ℕ) → k < i → test (get_or xs k 0) ≡ false) → AllByRecursion (λ b. test b ≡ false) (take i xs)
none_below test xs zero h = tt
none_below test [] (suc i) h = tt
none_below test (x ∷ xs) (suc i) h = (h 0 (omega arith), none_below test xs i (λ k less. h (suc k) (omega arith)))

-- where the byte stands first
cut_at : (bytes : List ℕ) (byte i : ℕ) → i < length bytes → (get_or bytes i 0 == byte) ≡ true → ((k : ℕ) → k < i → (get_or bytes k 0 == byte) ≡ false)
    → AllByRecursion (λ b. (b == byte) ≡ false) (take i bytes) × (bytes ≡ take i bytes ++ byte ∷ drop 1 (drop i bytes))
cut_at bytes byte i less is before =
    let here : get_or bytes i 0 ≡ byte = eqb-true (get_or bytes i 0) byte is in
    let rest : drop i bytes ≡ byte ∷ drop (i + 1) bytes = drop_more bytes i 0 less ∙ ap (λ b. b ∷ drop (i + 1) bytes) here in
    let tail : drop 1 (drop i bytes) ≡ drop (i + 1) bytes = ap (λ l. drop 1 l) rest in (
      none_below (λ b. b == byte) bytes i before,
      sym (take-append-drop i bytes) ∙ ap (λ l. take i bytes ++ l) (rest ∙ ap (λ l. byte ∷ l) (sym tail)),
    )

pub cut_found : (bytes : List ℕ) (byte i : ℕ) → position (λ b. b == byte) bytes ≡ Some i
    → AllByRecursion (λ b. (b == byte) ≡ false) (take i bytes) × (bytes ≡ take i bytes ++ byte ∷ drop 1 (drop i bytes))
cut_found bytes byte i e =
    let at = position-Some (λ b. b == byte) bytes i 0 e in
    cut_at bytes byte i at.0 at.1 at.2

-- the first byte that a search found
pub cut_first : (bytes : List ℕ) (byte i : ℕ) → IsFirstByte (is_byte byte) bytes (Some i)
    → AllByRecursion (λ b. (b == byte) ≡ false) (take i bytes) × (bytes ≡ take i bytes ++ byte ∷ drop 1 (drop i bytes))
cut_first bytes byte i h = cut_at bytes byte i h.0.high h.1 (λ k less. false_from_ne_true (get_or bytes k 0 == byte) (h.0.before k (omega arith) less))

-- a search that found none
pub cut_none : (bytes : List ℕ) (byte : ℕ) → IsFirstByte (is_byte byte) bytes None → AllByRecursion (λ b. (b == byte) ≡ false) bytes
cut_none bytes byte h = subst (λ (l : List ℕ). AllByRecursion (λ b. (b == byte) ≡ false) l) (take_all (length bytes) bytes (omega arith)) (none_below (λ b. b == byte) bytes (length bytes) (λ k less. false_from_ne_true (get_or bytes k 0 == byte) (h k (omega arith) less)))

all_before : (test : ℕ → Bool) (xs : List ℕ) → length xs ≤ prefix_len (λ b. not (test b)) xs → AllByRecursion (λ b. test b ≡ false) xs
all_before test [] h = tt
all_before test (x ∷ xs) h =
    let go : (b : Bool) → test x ≡ b → suc (length xs) ≤ cond (not b) (1 + prefix_len (λ c. not (test c)) xs) 0 → AllByRecursion (λ c. test c ≡ false) (x ∷ xs)
    = λ b. elim b as (λ v. test x ≡ v → suc (length xs) ≤ cond (not v) (1 + prefix_len (λ c. not (test c)) xs) 0 → AllByRecursion (λ c. test c ≡ false) (x ∷ xs)) [
      | true ↦ (λ e k. absurd (omega (arith, k)))
      | false ↦ (λ e k. (e, all_before test xs (omega (arith, k))))
    ] in
    go (test x) refl h

-- no member passes
pub none_passes : (test : ℕ → Bool) (xs : List ℕ) → position test xs ≡ None → AllByRecursion (λ b. test b ≡ false) xs
none_passes test xs e =
    let n : ℕ = position_or_len test xs in
    let go : (b : Bool) → nat_lt n (length xs) ≡ b → cond b (Some n) None ≡ None → length xs ≤ n
    = λ b. elim b as (λ v. nat_lt n (length xs) ≡ v → cond v (Some n) None ≡ None → length xs ≤ n) [ true ↦ (λ less k. absurd (cc)) | false ↦ (λ less k. ltb-false n (length xs) less) ] in
    all_before test xs (go (nat_lt n (length xs)) refl e)

-- a word, and what follows the space behind it
pub words_cut : (bytes word rest : List ℕ) → AllByRecursion (λ b. (b == 32) ≡ false) word → bytes ≡ word ++ 32 ∷ rest → words bytes ≡ word ∷ words rest
unfolding words
words_cut bytes word rest none is = ap (slice_split (λ b. b == 32)) is ∙ slice_split_at (λ b. b == 32) word 32 rest (All-from_recursion (λ b. (b == 32) ≡ false) word none) refl

-- a single word
pub words_whole : (bytes : List ℕ) → AllByRecursion (λ b. (b == 32) ≡ false) bytes → words bytes ≡ bytes ∷ []
unfolding words
words_whole bytes none = slice_split_none (λ b. b == 32) bytes (All-from_recursion (λ b. (b == 32) ≡ false) bytes none)

-- no number is spelled so
pub no_number : (high : ℕ) (word : List ℕ) → ((n : ℕ) → n ≤ high → word ≡ decimal n → ⊥) → None ≡ number_in high word
unfolding number_in
no_number high word none =
    let n : ℕ = digits_value 10 word in
    let go : (b : Bool) → (bytes_eq (decimal n) word && nat_le n high) ≡ b → None ≡ cond b (Some n) None
    = λ b. elim b as (λ v. (bytes_eq (decimal n) word && nat_le n high) ≡ v → None ≡ cond v (Some n) None) [
      | true ↦ (λ e. let parts = and_parts (bytes_eq (decimal n) word) (nat_le n high) e in absurd (none n (leb-true n high parts.1) (sym ((bytes_eq-Decides (decimal n) word).0 parts.0))))
      | false ↦ (λ e. refl)
    ] in
    go (bytes_eq (decimal n) word && nat_le n high) refl

pub number_takes : (high : ℕ) (word : List ℕ) (n : ℕ) → number_in high word ≡ Some n → (word ≡ decimal n) × (n ≤ high)
unfolding number_in
number_takes high word n e =
    let found = cond_some (bytes_eq (decimal (digits_value 10 word)) word && nat_le (digits_value 10 word) high) (digits_value 10 word) n e in
    let parts = and_parts (bytes_eq (decimal (digits_value 10 word)) word) (nat_le (digits_value 10 word) high) found.0 in
    (sym ((bytes_eq-Decides _ _).0 parts.0) ∙ ap decimal found.1, subst (λ (k : ℕ). k ≤ high) found.1 (leb-true (digits_value 10 word) high parts.1))

again_by : (v high n : ℕ) → n ≤ high → v ≡ n → cond (bytes_eq (decimal v) (decimal n) && nat_le v high) (Some v) None ≡ Some n
again_by v high n hi e = rw (e, (bytes_eq-Decides (decimal n) (decimal n)).1 refl, le-leb n high hi) refl

pub number_again : (high n : ℕ) → n ≤ high → n < 2 ^ 64 → number_in high (decimal n) ≡ Some n
unfolding number_in
number_again high n hi fits = again_by (digits_value 10 (decimal n)) high n hi (decimal_is_IsNumeral n fits).1
