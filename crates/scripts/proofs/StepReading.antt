-- A schedule, byte by byte.
use Rattle.std.proofs.{Common.{◌≡◌, ℕ, ◌+◌, ◌<◌, ◌≤◌, ◌⊎◌, inl, inr, Bool, true, false, List, [], ◌∷◌, ◌++◌, map, length, length-append, take, drop, take-append-drop, get_or, decimal, append_assoc, refl, sym, ◌∙◌, ap, subst, arith, Option, Result, Ok, Err}, lemmas.Bool.cases_lt, lemmas.Fmt.length-decimal-le, lemmas.List.{append-nil, map-append, take_more}}
use Rattle.std.specs.{List.AllByRecursion, Result.IfErr}
use Rattle.event_log.proofs.Each.{all_push}
use Rattle.sound_run.specs.declared.limits.TheConstants.{MOST_CPUS}
use Rattle.scripts.specs.{declared.schedule.ScheduleFault.ScheduleFault, declared.schedule.ScheduleFault.TheVariants.{OutOfMemory, Word}, declared.schedule.TheConstants.MOST_STEPS, declared.schedule.step_reader.StepReader.StepReader, ScheduleReading.{HasReadSteps, EndsWord, NamesFirstBadWordOfRest, RefusesSteps}, ScheduleText.{is_gap, schedule_words, IsSchedule, NamesNoCpu, IsFirstBadWord}}
use Rattle.record_lines.specs.{declared.streams.feeding.SourceFault.SourceFault, declared.streams.feeding.SourceFault.TheVariants.{ReadFailed, Reported}, Feeding.HasRefused, Sources.IsRest}
use Rattle.scripts.proofs.Schedules.{gap_first, no_words, word_alone, word_first}
use Rattle.record_lines.proofs.Consuming.{of_rest}

-- ---- answers

-- ---- words

-- what begins with these bytes has a word in front that does
record BeginsWord (front more : List ℕ) : Type 0 where
  tail : List ℕ
  rest : List (List ℕ)
  words : schedule_words (front ++ more) ≡ (front ++ tail) ∷ rest

begins_here : (front more : List ℕ) (rest : List (List ℕ)) → schedule_words (front ++ more) ≡ front ∷ rest → BeginsWord front more
begins_here front more rest e = record { tail = []; rest = rest; words = e ∙ ap (λ w. w ∷ rest) (sym (append-nil front)) }

-- the word goes on by a byte
begins_longer : (front more : List ℕ) (b : ℕ) → BeginsWord (front ++ b ∷ []) more → BeginsWord front (b ∷ more)
begins_longer front more b longer = record {
  tail = b ∷ longer.tail;
  rest = longer.rest;
  words = ap schedule_words (sym (append_assoc front (b ∷ []) more)) ∙ (longer.words ∙ ap (λ w. w ∷ longer.rest) (append_assoc front (b ∷ []) longer.tail));
}

by_gap : {P : Type 0} (g : Bool) → (g ≡ true → P) → (g ≡ false → P) → P
by_gap true p q = p refl
by_gap false p q = q refl

begins_word : (front more : List ℕ) → AllByRecursion (λ b. is_gap b ≡ false) front → 0 < length front → BeginsWord front more
begins_word front [] none some = begins_here front [] (schedule_words []) (ap schedule_words (append-nil front) ∙ word_alone front none some)
begins_word front (b ∷ more) none some = by_gap (is_gap b)
    (λ e. begins_here front (b ∷ more) (schedule_words (b ∷ more)) (word_first front b more none some e))
    (λ e. begins_longer front more b (begins_word (front ++ b ∷ []) more (all_push (λ x. is_gap x ≡ false) front b none e) (omega (arith, length-append front (b ∷ [])))))

-- ---- bytes

module _ (cpus : ℕ) where
  pub none_read : (steps word : List ℕ) → steps ≡ [] → word ≡ [] → HasReadSteps cpus [] steps word
  none_read steps word no_steps no_word = subst (λ (z : List ℕ × List ℕ). HasReadSteps cpus [] z.0 z.1) (λ j. (sym no_steps j, sym no_word j)) (record {
    words = λ more. refl;
    each = tt;
    few = omega arith;
    room = λ some. absurd (omega (arith, some));
    no_end = tt;
  })

  module _ (text steps word : List ℕ) (read : HasReadSteps cpus text steps word) where
    -- the words with a byte more
    one_more : (b : ℕ) (more : List ℕ) → schedule_words ((text ++ b ∷ []) ++ more) ≡ map decimal steps ++ schedule_words (word ++ b ∷ more)
    one_more b more = ap schedule_words (append_assoc text (b ∷ []) more) ∙ read.words (b ∷ more)

    -- a byte of a word
    pub byte_put : (b : ℕ) (longer : List ℕ) → is_gap b ≡ false → length steps < MOST_STEPS → longer ≡ word ++ b ∷ [] → HasReadSteps cpus (text ++ b ∷ []) steps longer
    byte_put b longer no_gap room is = subst (HasReadSteps cpus (text ++ b ∷ []) steps) (sym is) (record {
      words = λ more. one_more b more ∙ ap (λ w. map decimal steps ++ schedule_words w) (sym (append_assoc word (b ∷ []) more));
      each = read.each;
      few = read.few;
      room = λ some. room;
      no_end = all_push (λ x. is_gap x ≡ false) word b read.no_end no_gap;
    })

    -- the words of a step more
    step_words : (cpu : ℕ) (rest : List (List ℕ)) → map decimal steps ++ decimal cpu ∷ rest ≡ map decimal (steps ++ cpu ∷ []) ++ rest
    step_words cpu rest = sym (append_assoc (map decimal steps) (decimal cpu ∷ []) rest) ∙ ap (λ l. l ++ rest) (sym (map-append decimal steps (cpu ∷ [])))

    -- a byte between words
    pub word_ended : (b : ℕ) (new : List ℕ) → is_gap b ≡ true → EndsWord cpus word steps new → HasReadSteps cpus (text ++ b ∷ []) new []
    word_ended b new gap (inl none) = subst (λ (s : List ℕ). HasReadSteps cpus (text ++ b ∷ []) s []) (sym none.1) (record {
      words = λ more. one_more b more ∙ ap (λ w. map decimal steps ++ w) (ap (λ w. schedule_words (w ++ b ∷ more)) none.0 ∙ gap_first b more gap);
      each = read.each;
      few = read.few;
      room = λ some. absurd (omega (arith, some));
      no_end = tt;
    })
    word_ended b new gap (inr step) =
        let cpu = step.0 in
        let some : 0 < length word = step.1 in
        subst (λ (s : List ℕ). HasReadSteps cpus (text ++ b ∷ []) s []) (sym step.4) (record {
          words = λ more. one_more b more ∙ (ap (λ w. map decimal steps ++ w) (word_first word b more read.no_end some gap ∙ (λ j. step.2 j ∷ gap_first b more gap j)) ∙ step_words cpu (schedule_words more));
          each = all_push (λ c. c < cpus) steps cpu read.each step.3;
          few = omega (arith, read.room some, length-append steps (cpu ∷ []));
          room = λ more. absurd (omega (arith, more));
          no_end = tt;
        })

    -- the words of the text
    all_words : schedule_words text ≡ map decimal steps ++ schedule_words word
    all_words = ap schedule_words (sym (append-nil text)) ∙ (read.words [] ∙ ap (λ w. map decimal steps ++ schedule_words w) (append-nil word))

    -- the text's end
    pub text_ended : (new : List ℕ) → EndsWord cpus word steps new → IsSchedule cpus text new
    text_ended new (inl none) = subst (IsSchedule cpus text) (sym none.1) (record {
      words = all_words ∙ (ap (λ w. map decimal steps ++ w) (ap schedule_words none.0 ∙ no_words) ∙ append-nil (map decimal steps));
      each = read.each;
      few = read.few;
    })
    text_ended new (inr step) =
        let cpu = step.0 in
        let some : 0 < length word = step.1 in
        subst (IsSchedule cpus text) (sym step.4) (record {
          words = all_words ∙ (ap (λ w. map decimal steps ++ w) (word_alone word read.no_end some ∙ (λ j. step.2 j ∷ no_words j)) ∙ (step_words cpu [] ∙ append-nil (map decimal (steps ++ cpu ∷ []))));
          each = all_push (λ c. c < cpus) steps cpu read.each step.3;
          few = omega (arith, read.room some, length-append steps (cpu ∷ []));
        })

    -- ---- a word that can't come

    is_bad : (all : List ℕ) (bad : List ℕ) (rest : List (List ℕ)) (n : ℕ) → schedule_words all ≡ map decimal steps ++ bad ∷ rest → n ≡ length steps + 1 → NamesNoCpu cpus bad ⊎ (length steps ≡ MOST_STEPS) → IsFirstBadWord cpus all n
    is_bad all bad rest n words number why = record { before = steps; word = bad; rest = rest; words = words; each = read.each; few = read.few; number = number; bad = why }

    -- the word ends, and is no CPU's number
    pub bad_word : (b : ℕ) (more : List ℕ) (n : ℕ) → is_gap b ≡ true → 0 < length word → n ≡ length steps + 1 → NamesNoCpu cpus word → IsFirstBadWord cpus (text ++ b ∷ more) n
    bad_word b more n gap some number nobody = is_bad (text ++ b ∷ more) word (schedule_words (b ∷ more)) n (read.words (b ∷ more) ∙ ap (λ w. map decimal steps ++ w) (word_first word b more read.no_end some gap)) number (inl nobody)

    -- the text ends with it
    pub bad_end : (n : ℕ) → 0 < length word → n ≡ length steps + 1 → NamesNoCpu cpus word → IsFirstBadWord cpus text n
    bad_end n some number nobody = is_bad text word (schedule_words []) n (all_words ∙ ap (λ w. map decimal steps ++ w) (word_alone word read.no_end some)) number (inl nobody)

    -- no CPU's number is as long
    too_long : (longer tail : List ℕ) → cpus ≤ MOST_CPUS → 2 < length longer → NamesNoCpu cpus (longer ++ tail)
    too_long longer tail few long = λ cpu less e.
        let short = length-decimal-le 2 cpu (omega arith) (omega (arith, less, few)) (omega (arith, less, few)) in
        omega (arith, short, long, ap length e, length-append longer tail)

    -- a byte of a word more than there can be
    pub bad_byte : (b : ℕ) (more : List ℕ) (n : ℕ) → cpus ≤ MOST_CPUS → is_gap b ≡ false → n ≡ length steps + 1 → (length steps < MOST_STEPS → length word ≡ 2) → IsFirstBadWord cpus (text ++ b ∷ more) n
    bad_byte b more n small no_gap number long =
        let longer : List ℕ = word ++ b ∷ [] in
        let grown : length longer ≡ length word + 1 = length-append word (b ∷ []) in
        let begins = begins_word longer more (all_push (λ x. is_gap x ≡ false) word b read.no_end no_gap) (omega (arith, grown)) in
        let words = read.words (b ∷ more) ∙ ap (λ w. map decimal steps ++ w) (ap schedule_words (sym (append_assoc word (b ∷ []) more)) ∙ begins.words) in
        let few = read.few in
        let why : NamesNoCpu cpus (longer ++ begins.tail) ⊎ (length steps ≡ MOST_STEPS) = elim (cases_lt (length steps) MOST_STEPS) [
          | inl room ↦ inl (let two = long room in too_long longer begins.tail small (omega (arith, grown, two)))
          | inr full ↦ inr (omega (arith, few, full))
        ] in
        is_bad (text ++ b ∷ more) (longer ++ begins.tail) begins.rest n words number why

-- ---- pieces

-- a byte more of a piece was read
pub fed_next : (cpus : ℕ) (text piece steps word : List ℕ) (i : ℕ) → i < length piece → HasReadSteps cpus ((text ++ take i piece) ++ get_or piece i 0 ∷ []) steps word → HasReadSteps cpus (text ++ take (i + 1) piece) steps word
fed_next cpus text piece steps word i less = subst (λ (t : List ℕ). HasReadSteps cpus t steps word) (append_assoc text (take i piece) (get_or piece i 0 ∷ []) ∙ ap (λ l. text ++ l) (sym (take_more piece i 0 less)))

-- a piece's byte was refused, whatever follows it
pub fed_bad : (cpus : ℕ) (text piece more : List ℕ) (i n : ℕ) → i < length piece → IsFirstBadWord cpus ((text ++ take i piece) ++ get_or piece i 0 ∷ (drop (i + 1) piece ++ more)) n → IsFirstBadWord cpus ((text ++ piece) ++ more) n
fed_bad cpus text piece more i n less =
    let after : List ℕ = drop (i + 1) piece in
    let whole : take i piece ++ get_or piece i 0 ∷ after ≡ piece = sym (append_assoc (take i piece) (get_or piece i 0 ∷ []) after) ∙ (ap (λ l. l ++ after) (sym (take_more piece i 0 less)) ∙ take-append-drop (i + 1) piece) in
    subst (λ (t : List ℕ). IsFirstBadWord cpus t n)
    (append_assoc text (take i piece) (get_or piece i 0 ∷ (after ++ more)) ∙ (ap (λ l. text ++ l) (sym (append_assoc (take i piece) (get_or piece i 0 ∷ after) more) ∙ ap (λ l. l ++ more) whole) ∙ sym (append_assoc text piece more)))

module _ (cpus : ℕ) where
  -- what was read of a source is refused
  pub source_names : (old new : Option (List ℕ)) (first : StepReader) (cause : SourceFault ScheduleFault) → first.cpus ≡ cpus → ((f : ScheduleFault) → cause ≡ Reported f → HasRefused (RefusesSteps first) old new f) → NamesFirstBadWordOfRest cpus old cause
  source_names old new first ReadFailed is refused = tt
  source_names old new first (Reported OutOfMemory) is refused = tt
  source_names old new first (Reported (Word m)) is refused =
      let bad = refused (Word m) refl in
      of_rest (λ text. IsFirstBadWord cpus text m) old new bad.0 bad.1 (λ more. subst (λ (k : ℕ). IsFirstBadWord k (bad.0 ++ more) m) is (bad.2 more))

  -- all of it is refused
  pub end_names : (old : Option (List ℕ)) (text : List ℕ) (fault : ScheduleFault) → IsRest old text → ((m : ℕ) → fault ≡ Word m → IsFirstBadWord cpus text m) → NamesFirstBadWordOfRest cpus old (Reported fault)
  end_names old text OutOfMemory rest first = tt
  end_names old text (Word m) rest first = (text, rest, first m refl)

-- a fault that names the first bad word alone
pub piece_refused : {X : Type 0} (first : StepReader) (text : List ℕ) (r : Result X ScheduleFault) → ((m : ℕ) (more : List ℕ) → r ≡ Err (Word m) → IsFirstBadWord first.cpus (text ++ more) m) → IfErr r (RefusesSteps first text)
piece_refused first text (Ok x) refused = tt
piece_refused first text (Err OutOfMemory) refused = tt
piece_refused first text (Err (Word m)) refused = λ more. refused m more refl
