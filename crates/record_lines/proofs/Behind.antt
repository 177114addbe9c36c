-- What stands behind a word at the front of a line.
use Rattle.std.proofs.{Common.{◌≡◌, ℕ, ◌+◌, ◌<◌, ◌≤◌, ◌==◌, Bool, true, false, cond, Some, None, List, [], ◌∷◌, ◌++◌, length, decimal, refl, sym, ap, ◌∙◌, arith}, lemmas.Bool.eqb-true, lemmas.Fmt.decimal_digit, lemmas.List.append-nil, lemmas.Option.cond_some}
use Rattle.std.specs.List.{AllByRecursion, onto_first}
use Rattle.record_lines.specs.{Reading.{words, word_at, key_at, number_at, behind_at}, Words.IsPlain}
use Rattle.record_lines.proofs.{Cuts.{words_cut, words_whole, number_again}, Sentences.no_space}

eqb-refl : (m : ℕ) → (m == m) ≡ true
eqb-refl m = grind arith

-- a word without a space, and what stands behind it
pub words_behind : (w rest : List ℕ) (ws : List (List ℕ)) → AllByRecursion (λ b. (b == 32) ≡ false) w → behind_at rest ≡ Some ws → words (w ++ rest) ≡ w ∷ ws
words_behind w [] ws plain ends =
    let none : [] ≡ ws = cc in
    ap words (append-nil w) ∙ (words_whole w plain ∙ ap (λ l. w ∷ l) none)
words_behind w (b ∷ rest) ws plain ends =
    let found = cond_some (b == 32) (words rest) ws ends in
    let space : b ≡ 32 = eqb-true b 32 found.0 in
    words_cut (w ++ b ∷ rest) w rest plain (ap (λ c. w ++ c ∷ rest) space) ∙ ap (λ l. w ∷ l) found.1

-- a word of plain bytes is next
pub word_next : (line w rest : List ℕ) (ws : List (List ℕ)) → line ≡ w ++ rest → IsPlain w → behind_at rest ≡ Some ws → words line ≡ w ∷ ws
word_next line w rest ws is plain ends = ap words is ∙ words_behind w rest ws (no_space w plain) ends

-- a number of one digit is next
pub digit_next : (line rest : List ℕ) (ws : List (List ℕ)) (b n high : ℕ) → line ≡ b ∷ rest → b ≡ 48 + n → n < 10 → n ≤ high → behind_at rest ≡ Some ws → number_at high (words line) ≡ Some (n, ws)
unfolding number_at word_at
digit_next line rest ws b n high is digit few small ends =
    let text : decimal n ≡ b ∷ [] = decimal_digit n few ∙ ap (λ c. c ∷ []) (sym digit) in
    let space : (b == 32) ≡ false = grind (arith, digit) in
    let here : words line ≡ decimal n ∷ ws = ap words is ∙ (words_behind (b ∷ []) rest ws (space, tt) ends ∙ ap (λ w. w ∷ ws) (sym text)) in
    rw (here, number_again high n small (omega (arith, few))) refl

-- ---- a mark: a word of one byte

other_first : (s : Bool) (b m : ℕ) (ws : List (List ℕ)) → (b == m) ≡ false → key_at (m ∷ []) (cond s ([] ∷ ws) (onto_first b ws)) ≡ None
unfolding key_at word_at
other_first true b m ws other = refl
other_first false b m [] other = rw other refl
other_first false b m (w ∷ ws) other = rw other refl

-- another byte is first
pub no_mark : (line rest : List ℕ) (b m : ℕ) → line ≡ b ∷ rest → (b == m) ≡ false → key_at (m ∷ []) (words line) ≡ None
unfolding words
no_mark line rest b m is other = ap (λ l. key_at (m ∷ []) (words l)) is ∙ other_first (b == 32) b m (words rest) other

-- a space is no mark
space_first : (s : Bool) (b : ℕ) (ws : List (List ℕ)) → (b == 32) ≡ s → key_at (32 ∷ []) (cond s ([] ∷ ws) (onto_first b ws)) ≡ None
space_first true b ws is = other_first true 0 32 ws refl
space_first false b ws is = other_first false b 32 ws is

pub space_no_mark : (line : List ℕ) → key_at (32 ∷ []) (words line) ≡ None
unfolding key_at words word_at
space_no_mark [] = refl
space_no_mark (b ∷ line) = space_first (b == 32) b (words line) refl

-- the mark is first, and ends there or goes on
unfolded : (m c : ℕ) (more : List ℕ) → (m == 32) ≡ false → (c == 32) ≡ false → words (m ∷ c ∷ more) ≡ onto_first m (onto_first c (words more))
unfolding words
unfolded m c more plain other = rw (plain, other) refl

longer : (m c : ℕ) (ws : List (List ℕ)) → key_at (m ∷ []) (onto_first m (onto_first c ws)) ≡ None
unfolding key_at word_at
longer m c [] = rw (eqb-refl m) refl
longer m c (w ∷ ws) = rw (eqb-refl m) refl

key_first : (m : ℕ) (ws : List (List ℕ)) → key_at (m ∷ []) ((m ∷ []) ∷ ws) ≡ Some ws
unfolding key_at word_at
key_first m ws = rw (eqb-refl m) refl

marked : (s : Bool) (m c : ℕ) (more : List ℕ) → (m == 32) ≡ false → (c == 32) ≡ s → key_at (m ∷ []) (words (m ∷ c ∷ more)) ≡ behind_at (c ∷ more)
marked true m c more plain is =
    let ends : behind_at (c ∷ more) ≡ Some (words more) = rw is refl in
    ap (key_at (m ∷ [])) (words_behind (m ∷ []) (c ∷ more) (words more) (plain, tt) ends) ∙ (key_first m (words more) ∙ sym ends)
marked false m c more plain is =
    let none : behind_at (c ∷ more) ≡ None = rw is refl in
    let on : words (m ∷ c ∷ more) ≡ onto_first m (onto_first c (words more)) = unfolded m c more plain is in
    ap (key_at (m ∷ [])) on ∙ (longer m c (words more) ∙ sym none)

pub mark_first : (line rest : List ℕ) (m : ℕ) → line ≡ m ∷ rest → (m == 32) ≡ false → key_at (m ∷ []) (words line) ≡ behind_at rest
mark_first line [] m is plain = ap (λ l. key_at (m ∷ []) (words l)) is ∙ (ap (key_at (m ∷ [])) (words_behind (m ∷ []) [] [] (plain, tt) refl) ∙ key_first m [])
mark_first line (c ∷ more) m is plain = ap (λ l. key_at (m ∷ []) (words l)) is ∙ marked (c == 32) m c more plain refl

-- no word is no mark
pub no_word : (line : List ℕ) (m : ℕ) → length line ≡ 0 → key_at (m ∷ []) (words line) ≡ None
unfolding key_at words word_at
no_word [] m none = refl
no_word (b ∷ line) m none = absurd (omega (arith, none))
