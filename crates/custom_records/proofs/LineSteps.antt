-- Reading one word more of a line.
use Rattle.std.proofs.{Common.{◌≡◌, ℕ, zero, suc, ◌==◌, Bool, true, false, cond, Option, Some, None, List, [], ◌∷◌, ◌++◌, length, map, refl, sym, ap, ◌∙◌, arith, not, ◌||◌}, lemmas.List.append-nil}
use Rattle.std.specs.{Borrow.Bor, List.{list_any, onto_first}, Option.is_some}
use Rattle.custom_records.specs.LineReading.{number_next, sizes_at, new_name_in, new_words_at, most_number}
use Rattle.record_lines.specs.{Reading.{◌>>=◌, words, left, word_at, number_at}, LineParts.is_nil, Names.is_digit}
use Rattle.record_lines.proofs.{Readings.bind_grown, Readings.word_in_front, Sentences.words_some}

-- a test of each member's picture
pub any_mapped : {X Y : Type 0} (p : Y → Bool) (h : X → Y) (xs : List X) → list_any p (map h xs) ≡ list_any (λ x. p (h x)) xs
any_mapped p h [] = refl
any_mapped p h (x ∷ xs) = ap (λ b. p (h x) || b) (any_mapped p h xs)

-- the first word begins as the line does
first_begins : (s : Bool) (b : ℕ) (ws : List (List ℕ)) → (b == 32) ≡ s → number_next (cond s ([] ∷ ws) (onto_first b ws)) ≡ is_digit b
first_begins true b ws is = grind (arith, is)
first_begins false b [] is = refl
first_begins false b (w ∷ ws) is = refl

pub number_first : (line rest : List ℕ) (b : ℕ) → line ≡ b ∷ rest → number_next (words line) ≡ is_digit b
unfolding words
number_first line rest b is = ap (λ l. number_next (words l)) is ∙ first_begins (b == 32) b (words rest) refl

pub number_none : (line : List ℕ) → length line ≡ 0 → number_next (words line) ≡ false
unfolding words
number_none [] none = refl
number_none (b ∷ line) none = absurd (omega (arith, none))

-- there are words left, or none
pub left_some : (o : Option (Bor (List ℕ))) (none : Bool) → is_some o ≡ not none → none ≡ false → is_nil (left o) ≡ false
left_some None none is e = absurd (let both : false ≡ true = is ∙ ap not e in cc)
left_some (Some bytes) none is e = words_some bytes.now

pub left_none : (o : Option (Bor (List ℕ))) (none : Bool) → is_some o ≡ not none → none ≡ true → is_nil (left o) ≡ true
left_none None none is e = refl
left_none (Some bytes) none is e = absurd (let both : true ≡ false = is ∙ ap not e in cc)

-- ---- numbers, one after another

-- the numbers that were read, and then up to n of those that follow
abbrev pub behind_sizes : List ℕ → ℕ → List (List ℕ) → Option (List ℕ × List (List ℕ))
behind_sizes front n ws = sizes_at n ws >>= λ more. Some (front ++ more.0, more.1)

pub sizes_step : (n : ℕ) (front longer : List ℕ) (ws last : List (List ℕ)) (x : ℕ) → longer ≡ front ++ x ∷ [] → number_next ws ≡ true → number_at most_number ws ≡ Some (x, last) → behind_sizes front (suc n) ws ≡ behind_sizes longer n last
unfolding sizes_at
sizes_step n front longer ws last x grown next read = rw (next, read) (bind_grown (sizes_at n last) front longer x grown)

pub sizes_none : (n : ℕ) (front : List ℕ) (ws : List (List ℕ)) → number_next ws ≡ true → number_at most_number ws ≡ None → behind_sizes front (suc n) ws ≡ None
unfolding sizes_at
sizes_none n front ws next read = rw (next, read)

pub sizes_end : (n : ℕ) (front : List ℕ) (ws : List (List ℕ)) → number_next ws ≡ false → behind_sizes front (suc n) ws ≡ Some (front, ws)
unfolding sizes_at
sizes_end n front ws next = rw (next, append-nil front)

pub sizes_full : (front : List ℕ) (ws : List (List ℕ)) → behind_sizes front 0 ws ≡ Some (front, ws)
unfolding sizes_at
sizes_full front ws = ap (λ l. Some (l, ws)) (append-nil front)

-- ---- names, each of which differs from those before it

pub new_done : (earlier : List (List ℕ)) (n : ℕ) (ws : List (List ℕ)) → is_nil ws ≡ true → new_words_at earlier n ws ≡ Some earlier
unfolding new_words_at
new_done earlier zero [] none = refl
new_done earlier (suc n) [] none = refl
new_done earlier n (w ∷ ws) none = absurd cc

pub new_full : (earlier : List (List ℕ)) (ws : List (List ℕ)) → is_nil ws ≡ false → new_words_at earlier 0 ws ≡ None
unfolding new_words_at
new_full earlier [] some = absurd cc
new_full earlier (w ∷ ws) some = refl

pub new_step : (earlier longer : List (List ℕ)) (n : ℕ) (ws rest : List (List ℕ)) (w name : List ℕ) → word_at ws ≡ Some (w, rest) → new_name_in earlier w ≡ Some name → longer ≡ earlier ++ name ∷ [] → new_words_at earlier (suc n) ws ≡ new_words_at longer n rest
unfolding new_words_at
new_step earlier longer n ws rest w name next new grown =
    ap (new_words_at earlier (suc n)) (word_in_front ws rest w next) ∙ (ap (λ o. o >>= λ m. new_words_at (earlier ++ m ∷ []) n rest) new ∙ ap (λ l. new_words_at l n rest) (sym grown))

pub new_wrong : (earlier : List (List ℕ)) (n : ℕ) (ws rest : List (List ℕ)) (w : List ℕ) → word_at ws ≡ Some (w, rest) → new_name_in earlier w ≡ None → new_words_at earlier (suc n) ws ≡ None
unfolding new_words_at
new_wrong earlier n ws rest w next old =
    ap (new_words_at earlier (suc n)) (word_in_front ws rest w next) ∙ ap (λ o. o >>= λ m. new_words_at (earlier ++ m ∷ []) n rest) old

-- no word is next only where none is left
pub no_word_left : (ws : List (List ℕ)) → word_at ws ≡ None → is_nil ws ≡ true
unfolding word_at
no_word_left [] e = refl
no_word_left (w ∷ ws) e = absurd cc
