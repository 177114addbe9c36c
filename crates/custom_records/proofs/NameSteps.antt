-- A name that is read a letter at a time.
use Rattle.std.proofs.{Common.{◌≡◌, ℕ, ◌+◌, ◌-◌, ◌<◌, ◌≤◌, ◌==◌, Bool, true, false, cond, Some, None, List, [], ◌∷◌, ◌++◌, length, length-append, append_assoc, take, drop, get_or, nat_le, ◌&&◌, ◌||◌, refl, sym, ap, ne_eqb, ◌∙◌, arith}, lemmas.Bool.{and_parts, leb-true, le-leb, false_from_ne_true, false≢true}, lemmas.List.append-nil, lemmas.List.Folds.list_all-append}
use Rattle.std.specs.List.{list_all}
use Rattle.record_lines.specs.{Names.{is_name, is_letter, is_digit}, Reading.{words, word_at}, LineParts.name_word_at}
use Rattle.record_lines.proofs.{Bytes.first_is, Names.name_le, Numbers.{first_of, rest_of, words_are}}
use Rattle.custom_records.specs.Said.{Said}

abbrev pub is_plain : ℕ → Bool
is_plain b = is_letter b || is_digit b

-- ---- which words are names

-- behind the first byte of a name stand all others of it
name_parts : (b : ℕ) (bs : List ℕ) → is_name (b ∷ bs) ≡ true → (is_letter b ≡ true) × (list_all is_plain bs ≡ true) × (length bs ≤ 15)
name_parts b bs e =
    let ends = and_parts (is_letter b && list_all is_plain bs) (nat_le (length bs) 15) e in
    let bytes = and_parts (is_letter b) (list_all is_plain bs) ends.0 in
    (bytes.0, bytes.1, leb-true (length bs) 15 ends.1)

name_with : (b : ℕ) (bs : List ℕ) → is_letter b ≡ true → list_all is_plain bs ≡ true → nat_le (length bs) 15 ≡ true → is_name (b ∷ bs) ≡ true
name_with b bs first others few = rw (first, others, few) refl

all_more : (bs : List ℕ) (b : ℕ) → list_all is_plain bs ≡ true → is_plain b ≡ true → list_all is_plain (bs ++ b ∷ []) ≡ true
all_more bs b all one = list_all-append is_plain bs (b ∷ []) ∙ rw (all, one) refl

-- a name with a letter or a digit more, if it had room
name_more : (w : List ℕ) (b : ℕ) → is_name w ≡ true → is_plain b ≡ true → length w < 16 → is_name (w ++ b ∷ []) ≡ true
name_more [] b e one few = absurd cc
name_more (x ∷ w) b e one few =
    let parts = name_parts x w e in
    let longer = length-append w (b ∷ []) in
    name_with x (w ++ b ∷ []) parts.0 (all_more w b parts.1 one) (le-leb (length (w ++ b ∷ [])) 15 (omega (arith, longer, few)))

-- no name has another byte
name_not : (w l : List ℕ) (b : ℕ) → is_name w ≡ true → is_plain b ≡ false → is_name (w ++ b ∷ l) ≡ false
name_not [] l b e bad = absurd cc
name_not (x ∷ w) l b e bad = false_from_ne_true (is_name (x ∷ w ++ b ∷ l)) (λ yes.
    let parts = name_parts x (w ++ b ∷ l) yes in
    let both = and_parts (list_all is_plain w) (list_all is_plain (b ∷ l)) (sym (list_all-append is_plain w (b ∷ l)) ∙ parts.1) in
    false≢true (sym bad ∙ (and_parts (is_plain b) (list_all is_plain l) both.1).0))

-- and none has more than 16
name_long : (w l : List ℕ) (b : ℕ) → length w ≡ 16 → is_name (w ++ b ∷ l) ≡ false
name_long [] l b full = absurd cc
name_long (x ∷ w) l b full = false_from_ne_true (is_name (x ∷ w ++ b ∷ l)) (λ yes.
    let few = (name_parts x (w ++ b ∷ l) yes).2 in
    let longer = length-append w (b ∷ l) in
    omega (arith, few, longer, full))

-- ---- what is read

-- the first word is a name, or nothing is read
name_is : (bytes : List ℕ) → name_word_at (words bytes) ≡ cond (is_name (first_of bytes)) (Some (first_of bytes, rest_of bytes)) None
unfolding name_word_at word_at
name_is bytes = rw (words_are bytes) refl

some_name : (bytes w : List ℕ) (ws : List (List ℕ)) → first_of bytes ≡ w → rest_of bytes ≡ ws → is_name w ≡ true → Some (w, ws) ≡ name_word_at (words bytes)
some_name bytes w ws first rest name = sym (name_is bytes ∙ rw (first, rest, name) refl)

no_name : (bytes : List ℕ) → is_name (first_of bytes) ≡ false → None ≡ name_word_at (words bytes)
no_name bytes other = sym (name_is bytes ∙ rw other refl)

-- so many letters of the first word have been read, and they are a name
pub record HasLetters (bytes left : List ℕ) (said : Said) : Type 0 where
  pub word : first_of bytes ≡ said.word ++ first_of left
  pub rest : rest_of bytes ≡ rest_of left
  pub name : is_name said.word ≡ true
  pub none : said.numbers ≡ []

-- nothing is there
pub none_empty : (bytes : List ℕ) → length bytes ≡ 0 → None ≡ name_word_at (words bytes)
none_empty [] e = no_name [] refl
none_empty (b ∷ bytes) e = absurd (omega (arith, e))

-- the first byte is no letter
other_front : (s : Bool) (b : ℕ) (l : List ℕ) → is_letter b ≡ false → is_name (cond s [] (b ∷ l)) ≡ false
other_front true b l other = refl
other_front false b l other = rw other refl

pub none_first : (bytes rest : List ℕ) (b : ℕ) → bytes ≡ b ∷ rest → is_letter b ≡ false → None ≡ name_word_at (words bytes)
none_first bytes rest b begins other = no_name (b ∷ rest) (other_front (b == 32) b (first_of rest) other) ∙ ap (λ l. name_word_at (words l)) (sym begins)

-- a letter is no space
no_space : (b : ℕ) → is_letter b ≡ true → (b == 32) ≡ false
no_space b letter =
    let low = leb-true 97 b (and_parts (nat_le 97 b) (nat_le b 122) letter).0 in
    ne_eqb b 32 (λ is. omega (arith, low, is))

pub has_letter : (bytes left : List ℕ) (b : ℕ) (said : Said) → bytes ≡ b ∷ left → is_letter b ≡ true → said ≡ record { word = b ∷ []; numbers = [] } → HasLetters bytes left said
has_letter bytes left b said begins letter is =
    let other = no_space b letter in
    record {
      word = ap first_of begins ∙ (rw other refl ∙ ap (λ (s : Said). s.word ++ first_of left) (sym is));
      rest = ap rest_of begins ∙ rw other refl;
      name = ap (λ (s : Said). is_name s.word) is ∙ rw letter refl;
      none = ap (λ (s : Said). s.numbers) is;
    }

-- nothing is left
no_more : (left : List ℕ) → length left ≡ 0 → (first_of left ≡ []) × (rest_of left ≡ [])
no_more [] e = (refl, refl)
no_more (b ∷ left) e = absurd (omega (arith, e))

-- the byte that is next, and those behind it
abbrev byte : List ℕ → ℕ
byte left = get_or left 0 0

abbrev more : List ℕ → List ℕ
more left = take (length left - 1) (drop 1 left)

module _ (bytes left : List ℕ) (said : Said) (h : HasLetters bytes left said) where
  -- the first word is all of the name
  pub ends : length left ≡ 0 → Some (said.word, []) ≡ name_word_at (words bytes)
  ends none =
      let nothing = no_more left none in
      some_name bytes said.word [] (h.word ∙ (ap (λ l. said.word ++ l) nothing.0 ∙ append-nil said.word)) (h.rest ∙ nothing.1) h.name

  module _ (one : 1 ≤ length left) where
    is : left ≡ byte left ∷ more left
    is = first_is left (byte left) one refl

    pub ends_before : byte left ≡ 32 → Some (said.word, words (more left)) ≡ name_word_at (words bytes)
    ends_before space =
        let here : left ≡ 32 ∷ more left = is ∙ ap (λ b. b ∷ more left) space in
        some_name bytes said.word (words (more left)) (h.word ∙ (ap (λ l. said.word ++ first_of l) here ∙ append-nil said.word)) (h.rest ∙ ap rest_of here) h.name

    module _ (differs : byte left ≡ 32 → ⊥) where
      other : (byte left == 32) ≡ false
      other = ne_eqb _ _ differs

      word : first_of bytes ≡ said.word ++ byte left ∷ first_of (more left)
      word = h.word ∙ (ap (λ l. said.word ++ first_of l) is ∙ rw other refl)

      pub none_full : length said.word ≡ 16 → None ≡ name_word_at (words bytes)
      none_full full = no_name bytes (ap is_name word ∙ name_long said.word (first_of (more left)) (byte left) full)

      pub none_other : is_plain (byte left) ≡ false → None ≡ name_word_at (words bytes)
      none_other bad = no_name bytes (ap is_name word ∙ name_not said.word (first_of (more left)) (byte left) h.name bad)

      pub has_more : (new : Said) → (length said.word ≡ 16 → ⊥) → is_plain (byte left) ≡ true → new ≡ record said { word = said.word ++ byte left ∷ [] } → HasLetters bytes (more left) new
      has_more new room plain grown =
          let most = name_le said.word h.name in
          let few : length said.word < 16 = grind (arith, most, room) in
          record {
            word = word ∙ (sym (append_assoc said.word (byte left ∷ []) (first_of (more left))) ∙ ap (λ (s : Said). s.word ++ first_of (more left)) (sym grown));
            rest = h.rest ∙ (ap rest_of is ∙ rw other refl);
            name = ap (λ (s : Said). is_name s.word) grown ∙ name_more said.word (byte left) h.name plain few;
            none = ap (λ (s : Said). s.numbers) grown ∙ h.none;
          }
