-- Names, and the objects that they name.
use Rattle.std.proofs.{Common.{IsUtf8, Option, if◌then◌else◌, ◌≡◌, ℕ, zero, suc, ◌<◌, Bool, true, false, Some, None, List, [], ◌∷◌, length, refl, ◌∙◌, ap, cond, arith, position, get_or, nat_le, nat_lt, ◌&&◌, ◌||◌, ◌≤◌, subst}, lemmas.Str.IsUtf8-from_ascii, lemmas.List.Quantifiers.position-Some, lemmas.Bool.{and_parts, leb-true, lt-ltb}, lemmas.Option.{slice_get-get_or, cond_some}, lemmas.List.Sums.position_or_len_is}
use Rattle.std.specs.List.{AllByRecursion, list_all, slice_get, position_or_len}
use Rattle.event_log.proofs.Each.{all_map}
use Rattle.record_lines.specs.{Words.IsPlain, Names.{is_name, is_letter, is_digit}, Reading.word_at, LineParts.name_word_at}

-- a byte of a name is neither a line end nor a space, and below 128
abbrev IsWithin : ℕ → Type 0
IsWithin b = (32 < b) × (b < 128)

letter_within : (b : ℕ) → is_letter b ≡ true → IsWithin b
letter_within b e =
    let ends = and_parts (nat_le 97 b) (nat_le b 122) e in
    let low = leb-true 97 b ends.0 in
    let high = leb-true b 122 ends.1 in
    (omega (arith, low), omega (arith, high))

digit_within : (b : ℕ) → is_digit b ≡ true → IsWithin b
digit_within b e =
    let ends = and_parts (nat_le 48 b) (nat_le b 57) e in
    let low = leb-true 48 b ends.0 in
    let high = leb-true b 57 ends.1 in
    (omega (arith, low), omega (arith, high))

either_within : (c d : Bool) (b : ℕ) → (c || d) ≡ true → (c ≡ true → IsWithin b) → (d ≡ true → IsWithin b) → IsWithin b
either_within true d b e f g = f refl
either_within false d b e f g = g e

bytes_within : (bs : List ℕ) → list_all (λ c. is_letter c || is_digit c) bs ≡ true → AllByRecursion IsWithin bs
bytes_within [] e = tt
bytes_within (b ∷ bs) e =
    let parts = and_parts (is_letter b || is_digit b) (list_all (λ c. is_letter c || is_digit c) bs) e in
    (either_within (is_letter b) (is_digit b) b parts.0 (letter_within b) (digit_within b), bytes_within bs parts.1)

name_within : (name : List ℕ) → is_name name ≡ true → AllByRecursion IsWithin name
name_within [] e = absurd cc
name_within (b ∷ bs) e =
    let parts = and_parts (is_letter b && list_all (λ c. is_letter c || is_digit c) bs) (nat_le (length bs) 15) e in
    let first = and_parts (is_letter b) (list_all (λ c. is_letter c || is_digit c) bs) parts.0 in
    (letter_within b first.0, bytes_within bs first.1)

-- neither a line end nor a space is in a name
pub name_plain : (name : List ℕ) → is_name name ≡ true → IsPlain name
name_plain name e = all_map (λ b within. within.0) name (name_within name e)

pub named_by : {X : Type 0} (test : X → Bool) (xs : List X) (i : ℕ) → position test xs ≡ Some i → (x : X) × (slice_get xs i ≡ Some x) × (test x ≡ true) × (i < length xs)
named_by test [] i e = absurd cc
named_by test (x ∷ xs) i e =
    let found = position-Some test (x ∷ xs) i x e in
    (get_or (x ∷ xs) i x, slice_get-get_or (x ∷ xs) i x found.0, found.1, found.0)

pub first_at : {X : Type 0} (test : X → Bool) (xs : List X) (i : ℕ) → i < length xs → ((k : ℕ) (x : X) → k < i → slice_get xs k ≡ Some x → test x ≡ false) → ((x : X) → slice_get xs i ≡ Some x → test x ≡ true) → position test xs ≡ Some i
first_at test [] i less before here = absurd (omega (arith, less))
first_at test (x ∷ xs) i less before here =
    let at : position_or_len test (x ∷ xs) ≡ i = position_or_len_is test (x ∷ xs) i x (omega (arith, less))
    (λ k lower. before k (get_or (x ∷ xs) k x) lower (slice_get-get_or (x ∷ xs) k x (omega (arith, lower, less))))
    (λ inside. here (get_or (x ∷ xs) i x) (slice_get-get_or (x ∷ xs) i x less)) in
    ap (λ n. cond (nat_lt n (length (x ∷ xs))) (Some n) None) at ∙ ap (λ b. cond b (Some i) None) (lt-ltb i (length (x ∷ xs)) less)

ascii_at : (bs : List ℕ) → AllByRecursion IsWithin bs → (i : ℕ) → get_or bs i 0 < 128
ascii_at [] all i = omega arith
ascii_at (b ∷ bs) all zero = all.0.1
ascii_at (b ∷ bs) all (suc i) = ascii_at bs all.1 i

-- a name is UTF-8
pub name_utf8 : (name : List ℕ) → is_name name ≡ true → IsUtf8 name
name_utf8 name e = IsUtf8-from_ascii name (ascii_at name (name_within name e))

-- bytes that are no UTF-8 are no name
pub no_name : (b : Bool) (bytes : List ℕ) → (b ≡ true → ⊥) → ◌≡◌ {A = Option (List ℕ)} None (if b then Some bytes else None)
no_name true bytes h = absurd (h refl)
no_name false bytes h = refl

pub name_le : (name : List ℕ) → is_name name ≡ true → length name ≤ 16
name_le [] e = absurd cc
name_le (b ∷ bs) e = omega (arith, leb-true (length bs) 15 (and_parts (is_letter b && list_all (λ c. is_letter c || is_digit c) bs) (nat_le (length bs) 15) e).1)

-- a name is read as it stands
pub name_takes : (ws : List (List ℕ)) (read : List ℕ × List (List ℕ)) → name_word_at ws ≡ Some read → (ws ≡ read.0 ∷ read.1) × (is_name read.0 ≡ true)
unfolding name_word_at word_at
name_takes [] read e = absurd cc
name_takes (w ∷ ws) read e =
    let found = cond_some (is_name w) (w, ws) read e in
    subst (λ (p : List ℕ × List (List ℕ)). (w ∷ ws ≡ p.0 ∷ p.1) × (is_name p.0 ≡ true)) found.1 (refl, found.0)

-- a name is read again
pub name_again : (name : List ℕ) (rest : List (List ℕ)) → is_name name ≡ true → name_word_at (name ∷ rest) ≡ Some (name, rest)
unfolding name_word_at word_at
name_again name rest fit = ap (λ b. cond b (Some (name, rest)) None) fit
