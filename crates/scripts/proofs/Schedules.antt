-- The words of a schedule, and that a text with a first bad word is none.
use Rattle.std.proofs.{Common.{◌≡◌, ℕ, ◌<◌, ◌≤◌, ◌==◌, true, false, not, cond, List, [], ◌∷◌, ◌++◌, length, map, decimal, refl, sym, ◌∙◌, ap, arith, inl, inr, length-append}, lemmas.List.length-map, lemmas.List.Elements.All-from_recursion, lemmas.List.Splits.{slice_split-cons_yes, slice_split_none, slice_split_at}}
use Rattle.std.specs.List.{AllByRecursion, filter, slice_split}
use Rattle.event_log.proofs.Each.{all_map}
use Rattle.scripts.specs.ScheduleText.{is_gap, schedule_words, IsSchedule, IsFirstBadWord}

-- ---- words

-- a byte between words, in front
pub gap_first : (b : ℕ) (text : List ℕ) → is_gap b ≡ true → schedule_words (b ∷ text) ≡ schedule_words text
unfolding schedule_words
gap_first b text gap = ap (λ pieces. filter (λ word. not (length word == 0)) pieces) (slice_split-cons_yes is_gap b text gap)

pub no_words : schedule_words [] ≡ []
unfolding schedule_words
no_words = refl

some_bytes : (b : ℕ) (word : List ℕ) → (length (b ∷ word) == 0) ≡ false
some_bytes b word = grind arith

-- a piece that is not empty is a word
kept : (b : ℕ) (word : List ℕ) (pieces : List (List ℕ)) → filter (λ w. not (length w == 0)) ((b ∷ word) ∷ pieces) ≡ (b ∷ word) ∷ filter (λ w. not (length w == 0)) pieces
kept b word pieces = ap (λ v. cond (not v) ((b ∷ word) ∷ filter (λ w. not (length w == 0)) pieces) (filter (λ w. not (length w == 0)) pieces)) (some_bytes b word)

-- a word alone
pub word_alone : (word : List ℕ) → AllByRecursion (λ b. is_gap b ≡ false) word → 0 < length word → schedule_words word ≡ word ∷ schedule_words []
unfolding schedule_words
word_alone [] none some = absurd (omega (arith, some))
word_alone (b ∷ word) none some = ap (λ pieces. filter (λ w. not (length w == 0)) pieces) (slice_split_none is_gap (b ∷ word) (All-from_recursion (λ c. is_gap c ≡ false) (b ∷ word) none)) ∙ kept b word []

-- a word in front of a byte between words
pub word_first : (word : List ℕ) (gap : ℕ) (rest : List ℕ) → AllByRecursion (λ b. is_gap b ≡ false) word → 0 < length word → is_gap gap ≡ true → schedule_words (word ++ gap ∷ rest) ≡ word ∷ schedule_words (gap ∷ rest)
unfolding schedule_words
word_first [] gap rest none some e = absurd (omega (arith, some))
word_first (b ∷ word) gap rest none some e =
    ap (λ pieces. filter (λ w. not (length w == 0)) pieces) (slice_split_at is_gap (b ∷ word) gap rest (All-from_recursion (λ c. is_gap c ≡ false) (b ∷ word) none) e)
    ∙ (kept b word (slice_split is_gap rest) ∙ ap (λ l. (b ∷ word) ∷ l) (sym (gap_first gap rest e)))

module _ (cpus : ℕ) where
  -- the word behind the first ones is a CPU's number too
  named : (before steps word : List ℕ) (rest : List (List ℕ)) → map decimal steps ≡ map decimal before ++ word ∷ rest → AllByRecursion (λ c. c < cpus) steps → (cpu : ℕ) × (cpu < cpus) × (word ≡ decimal cpu)
  named before [] word rest e h = absurd (let none : 0 ≡ length (map decimal before ++ word ∷ rest) = ap length e in omega (arith, none, length-append (map decimal before) (word ∷ rest)))
  named [] (s ∷ steps) word rest e h = (s, h.0, cc)
  named (b ∷ before) (s ∷ steps) word rest e h = named before steps word rest (cc) h.1

  pub bad_is_not_good : (text : List ℕ) (n : ℕ) (steps : List ℕ) → IsFirstBadWord cpus text n → IsSchedule cpus text steps → ⊥
  bad_is_not_good text n steps bad good =
      let same : map decimal steps ≡ map decimal bad.before ++ bad.word ∷ bad.rest = sym good.words ∙ bad.words in
      elim bad.bad [
        | inl nobody ↦ let cpu = named bad.before steps bad.word bad.rest same good.each in nobody cpu.0 cpu.1 cpu.2
        | inr full ↦
            let long : length (map decimal steps) ≡ length (map decimal bad.before ++ bad.word ∷ bad.rest) = ap length same in
            let few = good.few in
            absurd (omega (arith, long, length-append (map decimal bad.before) (bad.word ∷ bad.rest), length-map steps decimal, length-map bad.before decimal, full, few))
      ]

-- CPUs of the settings are CPUs
pub few_cpus : (cpus most : ℕ) (steps : List ℕ) → cpus ≤ most → AllByRecursion (λ cpu. cpu < cpus) steps → AllByRecursion (λ cpu. cpu < most) steps
few_cpus cpus most steps le all = all_map (λ cpu less. omega (arith, le, less)) steps all
