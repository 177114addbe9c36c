-- Words and their sentence: each gives the other.
use Rattle.std.proofs.{Common.{◌≡◌, ℕ, ◌<◌, ◌==◌, Bool, true, false, cond, List, [], ◌∷◌, length, refl, ◌∙◌, ap, arith}, lemmas.List.Elements.All-from_recursion, lemmas.List.Splits.{slice_split_none, slice_split_at, join_with_byte-slice_split}}
use Rattle.std.specs.List.{AllByRecursion, join_with_byte, onto_first}
use Rattle.event_log.proofs.Each.{all_map, all_append}
use Rattle.record_lines.specs.{Reading.words, Words.{IsPlain, sentence}, Words.{sentence, NoEnd}, LineParts.is_nil}

not_space : (b : ℕ) → 32 < b → (b == 32) ≡ false
not_space b high = grind arith

not_end : (b : ℕ) → 32 < b → (b == 10) ≡ false
not_end b high = grind arith

pub no_space : (word : List ℕ) → IsPlain word → AllByRecursion (λ b. (b == 32) ≡ false) word
no_space word plain = all_map not_space word plain

no_end : (word : List ℕ) → IsPlain word → NoEnd word
no_end word plain = all_map not_end word plain

-- a line has a word, be it empty
onto_first_some : (b : Bool) (x : ℕ) (ws : List (List ℕ)) → is_nil ws ≡ false → is_nil (cond b ([] ∷ ws) (onto_first x ws)) ≡ false
onto_first_some true x ws h = refl
onto_first_some false x [] h = absurd cc
onto_first_some false x (w ∷ ws) h = refl

pub words_some : (line : List ℕ) → is_nil (words line) ≡ false
unfolding words
words_some [] = refl
words_some (b ∷ line) = onto_first_some _ b (words line) (words_some line)

-- a sentence is cut into its words again
pub words_sentence : (ws : List (List ℕ)) → 0 < length ws → AllByRecursion IsPlain ws → words (sentence ws) ≡ ws
unfolding words
words_sentence [] some plain = absurd (omega (arith, some))
words_sentence (w ∷ []) some plain = slice_split_none (λ b. b == 32) w (All-from_recursion (λ b. (b == 32) ≡ false) w (no_space w plain.0))
words_sentence (w ∷ v ∷ ws) some plain =
    slice_split_at (λ b. b == 32) w 32 (join_with_byte 32 (v ∷ ws)) (All-from_recursion (λ b. (b == 32) ≡ false) w (no_space w plain.0)) refl
    ∙ ap (λ rest. w ∷ rest) (words_sentence (v ∷ ws) (omega arith) plain.1)

-- a line is the sentence of its words
pub sentence_words : (line : List ℕ) → sentence (words line) ≡ line
unfolding words
sentence_words line = join_with_byte-slice_split 32 line

-- a sentence of plain words has no line end
pub sentence_no_end : (ws : List (List ℕ)) → AllByRecursion IsPlain ws → NoEnd (sentence ws)
sentence_no_end [] plain = tt
sentence_no_end (w ∷ []) plain = no_end w plain.0
sentence_no_end (w ∷ v ∷ ws) plain = all_append (λ b. (b == 10) ≡ false) w (32 ∷ sentence (v ∷ ws)) (no_end w plain.0) (refl, sentence_no_end (v ∷ ws) plain.1)
