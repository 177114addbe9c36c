-- Each line of a record 3 is read as what it spells, and nothing else is.
use Rattle.std.proofs.{Common.{◌≡◌, ℕ, ◌<◌, ◌≤◌, ◌^◌, true, Option, Some, List, [], ◌∷◌, ◌++◌, length, length-append, map, refl, sym, ◌∙◌, ap, subst, arith, rules, codes, decimal, nat_le, nat_lt}, lemmas.Bool.{leb-true, le-leb, lt-ltb, ltb-true}, lemmas.List.append-nil, lemmas.Option.cond_some}
use Rattle.std.specs.List.{AllByRecursion}
use Rattle.event_log.proofs.Each.{all_append}
use Rattle.custom_records.specs.{LineReading.{most_number, said_at, custom_steps_at, custom_done_at, custom_event_at, custom_place_at, custom_entry_at, custom_events_at, custom_object_at, sizes_at, new_words_at, refuses_at, first_at, cpus_at, count_at, log_at, cpu_at, last_at}, LineText.{number_words, said_words, custom_step_words, custom_done_words, custom_event_words, custom_entry_words, custom_object_words, refuses_words, first_words, cpus_words, count_words, log_words, cpu_words, last_words}, declared.settings.TheConstants.{MOST_CUSTOM_CPUS, MOST_CUSTOM_OBJECTS, MOST_SIZES, MOST_WORDS}, Custom.{CustomEvent, CustomEntry}, Ranges.{most_lines, SaidFits, CustomSettingsFit, Differ, HeadFits, EventFits, EntryFits}, Settings.{CustomSettings, CustomHead, names_of, word_in}}
use Rattle.record_lines.specs.{FormLaws.ReadsLine, Reading.{words, key_at, number_at}, LineParts.{is_nil, list_at, name_word_at, fixed_at, head_at}, Words.{IsPlain, NoEnd, sentence}, Names.is_name, Words.separated}
use Rattle.record_lines.proofs.{ListLaws.{key_takes, key_again, key_other}, Names.name_plain, Readings.{bind_some, plain_decimal, number_at_takes, number_at_again}, LineLaws.{fixed_takes, fixed_again, head_takes, head_again, nothing_behind}, Sentences.{words_sentence, sentence_words, sentence_no_end}, Names.{name_takes, name_again}}
use Rattle.custom_records.proofs.{ItemLaws.{list_takes, list_again, list_plain}, NameLaws.{name_of_object, place_takes, place_again, new_words_take, new_words_again, names_plain}, SaidLaws.{sizes_take, sizes_again, sizes_plain}, StepLaws.{reads_said, steps_take, steps_again, steps_plain, done_takes, done_again, done_plain}}

-- the words make a line: there is one, and neither a line end nor a space is in any
abbrev IsLineOf : List (List ℕ) → Type 0
IsLineOf ws = (0 < length ws) × AllByRecursion IsPlain ws

-- ---- events

module _ (head : CustomHead) where
  -- what is read is what the line spells
  event_spells : (ws : List (List ℕ)) (e : CustomEvent) → custom_event_at head ws ≡ Some e → (ws ≡ custom_event_words e) × EventFits head e
  unfolding custom_event_at
  event_spells ws e is =
      bind_some (number_at 255 ws) _ e is (λ cpu found_cpu behind_cpu.
      bind_some (custom_steps_at head.refusing cpu.1) _ e behind_cpu (λ steps found_steps last.
      let whole = cond_some (nat_lt cpu.0 head.cpus) (record { cpu = cpu.0; steps = record { list = record { items = steps } } }) e last in
      let number = number_at_takes 255 cpu.0 ws cpu.1 found_cpu in
      let taken = steps_take head cpu.1 steps found_steps in
      subst (λ (v : CustomEvent). (ws ≡ custom_event_words v) × EventFits head v) whole.1
      (number.0 ∙ ap (λ l. decimal cpu.0 ∷ l) taken.0, record { cpu = ltb-true cpu.0 head.cpus whole.0; steps = taken.1 })))

  -- what is spelled is read again
  event_said : head.cpus ≤ MOST_CUSTOM_CPUS → (e : CustomEvent) → EventFits head e → custom_event_at head (custom_event_words e) ≡ Some e
  unfolding custom_event_at
  event_said most e fit =
      let cpu = fit.cpu in
      rw (number_at_again 255 e.cpu (separated (map custom_step_words e.steps.list.items)) (omega (arith, cpu, most)) (omega (arith, cpu, most)), steps_again head e.steps.list.items fit.steps, lt-ltb e.cpu head.cpus fit.cpu)

  -- the words of an event make a line
  event_plain : head.cpus ≤ MOST_CUSTOM_CPUS → (e : CustomEvent) → EventFits head e → IsLineOf (custom_event_words e)
  event_plain most e fit =
      let cpu = fit.cpu in
      (omega arith, (plain_decimal e.cpu (omega (arith, cpu, most)), steps_plain head e.steps.list.items fit.steps))

  -- ---- entries of a transcript

  -- what is read is what the line spells
  entry_spells : (ws : List (List ℕ)) (e : CustomEntry) → custom_entry_at head ws ≡ Some e → (ws ≡ custom_entry_words head e) × EntryFits head e
  unfolding custom_entry_at
  entry_spells ws e is =
      bind_some (custom_place_at head.objects ws) _ e is (λ object found_object behind_object.
      bind_some (number_at most_number object.1) _ e behind_object (λ looks found_looks behind_looks.
      bind_some (list_at said_at looks.1) _ e behind_looks (λ calls found_calls behind_calls.
      bind_some (key_at (codes "|") calls.1) _ e behind_calls (λ rest found_bar behind_bar.
      bind_some (custom_done_at head.refusing rest) _ e behind_bar (λ done found_done last.
      let value : ◌≡◌ {A = CustomEntry} (record { object = object.0; asked = record { items = calls.0 }; done = done; looks = looks.0 }) e = cc in
      let named = place_takes head ws object found_object in
      let number = number_at_takes most_number looks.0 object.1 looks.1 found_looks in
      let most = number.1 in
      let asked = list_takes said_words SaidFits said_at reads_said looks.1 calls found_calls in
      let taken = done_takes head rest done found_done in
      let end : calls.1 ≡ codes "|" ∷ custom_done_words done = key_takes (codes "|") calls.1 rest found_bar ∙ ap (λ l. codes "|" ∷ l) taken.0 in
      let spells : looks.1 ≡ separated (map said_words calls.0) ++ (codes "|" ∷ custom_done_words done) = asked.text ∙ ap (λ l. separated (map said_words calls.0) ++ l) end in
      subst (λ (v : CustomEntry). (ws ≡ custom_entry_words head v) × EntryFits head v) value (
        named.text ∙ ap (λ l. word_in (names_of head) object.0 ∷ l) (number.0 ∙ ap (λ l. decimal looks.0 ∷ l) spells),
        record { object = named.bound; looks = omega (arith, most); some = asked.some; few = asked.few; calls = asked.fit; done = taken.1 },
      ))))))

  -- what is spelled is read again
  entry_said : HeadFits head → (e : CustomEntry) → EntryFits head e → custom_entry_at head (custom_entry_words head e) ≡ Some e
  unfolding custom_entry_at
  entry_said fits e fit =
      let end : List (List ℕ) = codes "|" ∷ custom_done_words e.done in
      let calls : List (List ℕ) = separated (map said_words e.asked.items) ++ end in
      let looks = fit.looks in
      rw (
        place_again head e.object (decimal e.looks ∷ calls) fits.names fit.object,
        number_at_again most_number e.looks calls (omega (arith, looks)) fit.looks,
        list_again said_words SaidFits said_at reads_said e.asked.items end fit.some fit.few fit.calls (key_other (codes ";") (codes "|") (custom_done_words e.done) refl) refl,
        key_again (codes "|") (custom_done_words e.done),
        done_again head e.done fit.done,
      )

  -- the words of an entry make a line
  entry_plain : HeadFits head → (e : CustomEntry) → EntryFits head e → IsLineOf (custom_entry_words head e)
  entry_plain fits e fit = (
    omega arith,
    (
      name_plain _ (name_of_object head fits e.object fit.object),
      (
        plain_decimal e.looks fit.looks,
        all_append IsPlain (separated (map said_words e.asked.items)) (codes "|" ∷ custom_done_words e.done) (list_plain said_words SaidFits said_at reads_said e.asked.items fit.calls) ((omega arith, tt), done_plain head e.done fit.done),
      ),
    ),
  )

-- ---- objects

-- the number is next, and it is in its range
events_take : (ws : List (List ℕ)) (read : ℕ × List (List ℕ)) → custom_events_at ws ≡ Some read → (ws ≡ decimal read.0 ∷ read.1) × (1 ≤ read.0) × (read.0 ≤ most_lines)
unfolding custom_events_at
events_take ws read e = bind_some (number_at most_lines ws) _ read e (λ n found last.
    let whole = cond_some (nat_le 1 n.0) n read last in
    let number = number_at_takes most_lines n.0 ws n.1 found in
    subst (λ (p : ℕ × List (List ℕ)). (ws ≡ decimal p.0 ∷ p.1) × (1 ≤ p.0) × (p.0 ≤ most_lines)) whole.1 (number.0, leb-true 1 n.0 whole.0, number.1))

events_again : (n : ℕ) (rest : List (List ℕ)) → 1 ≤ n → n ≤ most_lines → custom_events_at (decimal n ∷ rest) ≡ Some (n, rest)
unfolding custom_events_at
events_again n rest above below = rw (number_at_again most_lines n rest below (omega (arith, below)), le-leb 1 n above)

-- what is read is what the line spells
object_spells : (ws : List (List ℕ)) (o : CustomSettings) → custom_object_at ws ≡ Some o → (ws ≡ custom_object_words o) × CustomSettingsFit o
unfolding custom_object_at
object_spells ws o e =
    bind_some (key_at (codes "object") ws) _ o e (λ rest found_key behind_key.
    bind_some (name_word_at rest) _ o behind_key (λ name found_name behind_name.
    bind_some (name_word_at name.1) _ o behind_name (λ lock found_lock behind_lock.
    bind_some (custom_events_at lock.1) _ o behind_lock (λ events found_events behind_events.
    bind_some (name_word_at events.1) _ o behind_events (λ kind found_kind behind_kind.
    bind_some (sizes_at MOST_SIZES kind.1) _ o behind_kind (λ numbers found_numbers last.
    let whole = cond_some (is_nil numbers.1) (record { name = name.0; lock = lock.0; events = events.0; kind = kind.0; numbers = numbers.0 }) o last in
    let named = name_takes rest name found_name in
    let locked = name_takes name.1 lock found_lock in
    let number = events_take lock.1 events found_events in
    let kinded = name_takes events.1 kind found_kind in
    let sizes = sizes_take MOST_SIZES kind.1 numbers found_numbers in
    let behind : kind.1 ≡ number_words numbers.0 = sizes.text ∙ nothing_behind (number_words numbers.0) numbers.1 whole.0 in
    subst (λ (v : CustomSettings). (ws ≡ custom_object_words v) × CustomSettingsFit v) whole.1 (
      key_takes (codes "object") ws rest found_key ∙ ap (λ l. codes "object" ∷ l) (named.0 ∙ ap (λ l. name.0 ∷ l) (locked.0 ∙ ap (λ l. lock.0 ∷ l) (number.0 ∙ ap (λ l. decimal events.0 ∷ l) (kinded.0 ∙ ap (λ l. kind.0 ∷ l) behind)))),
      record { name = named.1; lock = locked.1; events = (number.1, number.2); kind = kinded.1; few = sizes.few; numbers = sizes.fit },
    )))))))

-- what is spelled is read again
object_said : (o : CustomSettings) → CustomSettingsFit o → custom_object_at (custom_object_words o) ≡ Some o
unfolding custom_object_at
object_said o fit =
    let numbers : List (List ℕ) = number_words o.numbers in
    let read : sizes_at MOST_SIZES numbers ≡ Some (o.numbers, []) = ap (sizes_at MOST_SIZES) (sym (append-nil numbers)) ∙ sizes_again MOST_SIZES o.numbers [] fit.few fit.numbers refl in
    rw (
      key_again (codes "object") (o.name ∷ o.lock ∷ decimal o.events ∷ o.kind ∷ numbers),
      name_again o.name (o.lock ∷ decimal o.events ∷ o.kind ∷ numbers) fit.name,
      name_again o.lock (decimal o.events ∷ o.kind ∷ numbers) fit.lock,
      events_again o.events (o.kind ∷ numbers) fit.events.0 fit.events.1,
      name_again o.kind numbers fit.kind,
      read,
    )

-- the words of an object make a line
object_plain : (o : CustomSettings) → CustomSettingsFit o → IsLineOf (custom_object_words o)
object_plain o fit = (omega arith, (object_word, (name_plain o.name fit.name, (name_plain o.lock fit.lock, (let most = fit.events.1 in plain_decimal o.events (omega (arith, most)), (name_plain o.kind fit.kind, sizes_plain o.numbers fit.numbers))))))
  where
    object_word : IsPlain (codes "object")
    object_word = search (rules, arith)

-- ---- words that refuse

-- what is read is what the line spells: at most 32 names, which differ
refuses_spells : (ws refusing : List (List ℕ)) → refuses_at ws ≡ Some refusing → (ws ≡ refuses_words refusing) × (length refusing ≤ MOST_WORDS) × AllByRecursion (λ w. is_name w ≡ true) refusing × Differ refusing
unfolding refuses_at
refuses_spells ws refusing e = bind_some (key_at (codes "refuses") ws) (λ rest. new_words_at [] MOST_WORDS rest) refusing e (λ rest found last.
    let new = new_words_take [] MOST_WORDS rest refusing last in
    let is : rest ≡ refusing = new.text in (
      key_takes (codes "refuses") ws rest found ∙ ap (λ l. codes "refuses" ∷ l) is,
      subst (λ (l : List (List ℕ)). length l ≤ MOST_WORDS) is new.few,
      subst (λ l. AllByRecursion (λ w. is_name w ≡ true) l) is new.each,
      new.once (λ i j li lj alike. absurd (omega (arith, li))),
    ))

-- what is spelled is read again
refuses_said : (refusing : List (List ℕ)) → length refusing ≤ MOST_WORDS → AllByRecursion (λ w. is_name w ≡ true) refusing → Differ refusing → refuses_at (refuses_words refusing) ≡ Some refusing
unfolding refuses_at
refuses_said refusing few names once = rw (key_again (codes "refuses") refusing, new_words_again [] MOST_WORDS refusing few names once)

-- the words of the line make one
refuses_plain : (refusing : List (List ℕ)) → AllByRecursion (λ w. is_name w ≡ true) refusing → IsLineOf (refuses_words refusing)
refuses_plain refusing names = (omega arith, (refuses_word_plain, names_plain refusing names))
  where
    refuses_word_plain : IsPlain (codes "refuses")
    refuses_word_plain = search (rules, arith)

-- ---- each line

-- a line is read as what its words spell, and nothing else is
abbrev pub Reads : {X : Type 0} → (X → List (List ℕ)) → (X → Type 0) → (List (List ℕ) → Option X) → Type 0
Reads words_of fits read = ReadsLine NoEnd (λ x. sentence (words_of x)) fits (λ line. read (words line))

by_words : {X : Type 0} {words_of : X → List (List ℕ)} {fits : X → Type 0} {read : List (List ℕ) → Option X} → ((ws : List (List ℕ)) (x : X) → read ws ≡ Some x → (ws ≡ words_of x) × fits x)
    → ((x : X) → fits x → read (words_of x) ≡ Some x) → ((x : X) → fits x → IsLineOf (words_of x)) → Reads words_of fits read
by_words {X} {words_of} {fits} {read} takes again plain = record {
  takes = λ line x e. let is = takes (words line) x e in (sym (sentence_words line) ∙ ap sentence is.0, is.1);
  again = λ x fit. ap read (words_sentence (words_of x) (plain x fit).0 (plain x fit).1) ∙ again x fit;
  plain = λ x fit. sentence_no_end (words_of x) (plain x fit).1;
}

-- fixed words, and a number behind such
reads_fixed : (keys : List (List ℕ)) → IsLineOf keys → Reads (λ (u : Unit {0}). keys) (λ u. Unit {0}) (fixed_at keys)
reads_fixed keys line = by_words (λ ws u e. (fixed_takes keys ws u e, tt)) (λ u fit. fixed_again keys) (λ u fit. line)

reads_head : (keys : List (List ℕ)) (low high : ℕ) → AllByRecursion IsPlain keys → high < 2 ^ 64 → Reads (λ n. keys ++ decimal n ∷ []) (λ n. (low ≤ n) × (n ≤ high)) (head_at keys low high)
reads_head keys low high plain small = by_words (λ ws n e. let is = head_takes keys low high n ws e in (is.0, (is.1, is.2))) (λ n fit. head_again keys low high n fit.0 fit.1 small) (λ n fit.
    let below = fit.1 in
    (omega (arith, length-append keys (decimal n ∷ [])), all_append IsPlain keys (decimal n ∷ []) plain (plain_decimal n (omega (arith, below, small)), tt)))

reads_up_to : (keys : List (List ℕ)) → AllByRecursion IsPlain keys → Reads (λ n. keys ++ decimal n ∷ []) (λ n. n ≤ most_lines) (head_at keys 0 most_lines)
reads_up_to keys plain =
    let law = reads_head keys 0 most_lines plain (omega arith) in
    record { takes = λ line n e. let is = law.takes line n e in (is.0, is.1.1); again = λ n few. law.again n (omega arith, few); plain = λ n few. law.plain n (omega arith, few) }

-- the lines of a head
pub reads_first : Reads (λ (u : Unit {0}). first_words) (λ u. Unit {0}) first_at
reads_first = reads_fixed first_words (omega arith, search (rules, arith))

pub reads_cpus : Reads cpus_words (λ n. (1 ≤ n) × (n ≤ MOST_CUSTOM_CPUS)) cpus_at
reads_cpus = reads_head (codes "cpus" ∷ []) 1 MOST_CUSTOM_CPUS (search (rules, arith)) (omega arith)

pub reads_count : Reads count_words (λ n. (1 ≤ n) × (n ≤ MOST_CUSTOM_OBJECTS)) count_at
reads_count = reads_head (codes "objects" ∷ []) 1 MOST_CUSTOM_OBJECTS (search (rules, arith)) (omega arith)

pub reads_object : Reads custom_object_words CustomSettingsFit custom_object_at
reads_object = by_words object_spells object_said object_plain

-- at most 32 different words
pub record WordsFit (ws : List (List ℕ)) : Type 0 where
  pub few : length ws ≤ MOST_WORDS
  pub words : AllByRecursion (λ w. is_name w ≡ true) ws
  pub once : Differ ws

pub reads_refuses : Reads refuses_words WordsFit refuses_at
reads_refuses = by_words (λ ws found read. let is = refuses_spells ws found read in (is.0, record { few = is.1; words = is.2; once = is.3 })) (λ found fit. refuses_said found fit.few fit.words fit.once) (λ found fit. refuses_plain found fit.words)

-- those of logs and transcripts
pub reads_log : (name : List ℕ) → is_name name ≡ true → Reads (log_words name) (λ n. n ≤ most_lines) (log_at name)
reads_log name named = reads_up_to (codes "log" ∷ name ∷ []) (search (rules, arith), (name_plain name named, tt))

pub reads_cpu : (cpu : ℕ) → cpu < 2 ^ 64 → Reads (cpu_words cpu) (λ n. n ≤ most_lines) (cpu_at cpu)
reads_cpu cpu small = reads_up_to (codes "cpu" ∷ decimal cpu ∷ []) (search (rules, arith), (plain_decimal cpu small, tt))

-- no more of a head counts for an event than its CPUs and its words that refuse
pub reads_any_event : (head : CustomHead) → head.cpus ≤ MOST_CUSTOM_CPUS → Reads custom_event_words (EventFits head) (custom_event_at head)
reads_any_event head most = by_words (event_spells head) (event_said head most) (event_plain head most)

module _ (head : CustomHead) (fits : HeadFits head) where
  pub reads_event : Reads custom_event_words (EventFits head) (custom_event_at head)
  reads_event = reads_any_event head fits.cpus.1

  pub reads_entry : Reads (custom_entry_words head) (EntryFits head) (custom_entry_at head)
  reads_entry = by_words (entry_spells head) (entry_said head fits) (entry_plain head fits)

-- the last
pub reads_last : Reads (λ (u : Unit {0}). last_words) (λ u. Unit {0}) last_at
reads_last = reads_fixed last_words (omega arith, search (rules, arith))
