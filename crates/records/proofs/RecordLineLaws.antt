-- A line of a record is read as what it spells, and nothing else is.
use Rattle.std.proofs.{Common.{◌≡◌, ℕ, ◌<◌, ◌≤◌, ◌^◌, Some, None, List, [], ◌∷◌, ◌++◌, length, map, refl, sym, ◌∙◌, ap, subst, arith, codes, decimal, rules, nat_lt, ◌&&◌}, lemmas.Bool.{and_parts, lt-ltb, ltb-true}, lemmas.List.append-nil, lemmas.Option.cond_some}
use Rattle.event_log.proofs.Each.{all_append}
use Rattle.event_log.specs.declared.logged.TheConstants.{MOST_EVENTS}
use Rattle.kernel_object.specs.KernelTypes.{KernelEvent, KernelEntry}
use Rattle.kernel_words.specs.{declared.form.Form.Form, Forms.{has_steps, has_done}, Parameters.{lock_word, params_words}, Ranges.call_fits, ParameterReading.{params_at, lock_at}, ItemReading.{call_at, step_at, done_at}, ItemText.{step_words, done_words}, Row.{limit, field_at}}
use Rattle.record_lines.specs.{Reading.{key_at, number_at}, LineParts.{is_nil, list_at, name_word_at}, Words.IsPlain, Words.separated}
use Rattle.records.specs.{RecordRanges.{EventFits, EntryFits}, RecordReading.{event_at, place_at, entry_at, object_at}, RecordText.{event_words, entry_words, object_words}, Settings.{Settings, ObjectSettings, ObjectFits, SettingsFitIn, name_at}}
use Rattle.record_lines.proofs.{ListLaws.{key_takes, key_again, key_other, key_end, list_takes, list_again, list_plain}, Names.name_plain, Readings.{bind_some, plain_decimal, number_at_takes, number_at_again}, Names.name_le, Lengths.{long_append, number_le, separated_le}, Names.{name_takes, name_again}, LineLaws.{ReadsLines, nothing_behind, IsLine}}
use Rattle.records.proofs.{NamedObjects.{name_at_plain, place_takes, place_again}, NamedObjects.name_at_le}
use Rattle.kernel_words.proofs.{RecordLengths.{each_call, steps_le, done_le, lock_le}, RecordWords.{no_steps, steps_take, steps_again, steps_plain, done_takes, done_again, done_plain, lock_takes, lock_again, lock_plain, events_take, events_again}, CallLaws.{call_words, reads_calls}, ParameterLaws.{params_take, params_again, params_plain, params_le}}

-- ---- lines of fixed words

-- ---- fixed words, and then a number

-- ---- events

module _ (form : Form) (cpus : ℕ) where
  -- what is read is what the words spell
  event_takes : (ws : List (List ℕ)) (event : KernelEvent) → event_at form cpus ws ≡ Some event → (ws ≡ event_words event) × EventFits form cpus event
  unfolding event_at
  event_takes ws event e =
      bind_some (number_at 255 ws) _ event e (λ cpu found_cpu behind_cpu.
      bind_some (list_at step_at cpu.1) _ event behind_cpu (λ steps found_steps last.
      let whole = cond_some (nat_lt cpu.0 cpus && is_nil steps.1 && has_steps form steps.0) (record { cpu = cpu.0; steps = record { list = record { items = steps.0 } } }) event last in
      let both = and_parts (nat_lt cpu.0 cpus && is_nil steps.1) (has_steps form steps.0) whole.0 in
      let tests = and_parts (nat_lt cpu.0 cpus) (is_nil steps.1) both.0 in
      let number = number_at_takes 255 cpu.0 ws cpu.1 found_cpu in
      let taken = steps_take cpu.1 steps found_steps in
      subst (λ (v : KernelEvent). (ws ≡ event_words v) × EventFits form cpus v) whole.1 (
        number.0 ∙ ap (λ l. decimal cpu.0 ∷ l) (taken.text ∙ nothing_behind (separated (map step_words steps.0)) steps.1 tests.1),
        record { cpu = ltb-true cpu.0 cpus tests.0; steps = taken.fit; expressed = both.1 },
      )))

  -- a number alone is none
  pub no_event : (ws : List (List ℕ)) (cpu : ℕ) → number_at 255 ws ≡ Some (cpu, []) → event_at form cpus ws ≡ None
  unfolding event_at
  no_event ws cpu e = rw (e, no_steps) refl

  -- what is spelled is read again
  event_again : cpus ≤ 255 → (event : KernelEvent) → EventFits form cpus event → event_at form cpus (event_words event) ≡ Some event
  unfolding event_at
  event_again most event fit =
      let steps : List (List ℕ) = separated (map step_words event.steps.list.items) in
      let cpu = fit.cpu in
      let read : list_at step_at steps ≡ Some (event.steps.list.items, []) = ap (list_at step_at) (sym (append-nil steps)) ∙ steps_again event.steps.list.items [] fit.steps (key_end _) in
      rw (number_at_again 255 event.cpu steps (omega (arith, cpu, most)) (omega (arith, cpu, most)), read, lt-ltb event.cpu cpus fit.cpu, fit.expressed)

  -- an event
  pub reads_event : cpus ≤ 255 → ReadsLines event_words (EventFits form cpus) (event_at form cpus)
  reads_event most = record {
    takes = event_takes;
    again = event_again most;
    plain = λ event fit.
        let cpu = fit.cpu in
        let small : event.cpu < 2 ^ 64 = omega (arith, cpu, most) in
        record { some = omega arith; plain = (plain_decimal event.cpu small, steps_plain event.steps.list.items fit.steps); short = omega (arith, number_le event.cpu small, steps_le event.steps.list.items fit.steps) };
  }

-- ---- entries of a transcript

module _ (form : Form) (settings : Settings) where
  -- what is read is what the words spell
  entry_takes : (ws : List (List ℕ)) (entry : KernelEntry) → entry_at form settings.objects ws ≡ Some entry → (ws ≡ entry_words settings entry) × EntryFits form (length settings.objects) entry
  unfolding entry_at
  entry_takes ws entry e =
      bind_some (place_at settings.objects ws) _ entry e (λ object found_object behind_object.
      bind_some (number_at 18446744073709551615 object.1) _ entry behind_object (λ looks found_looks behind_looks.
      bind_some (list_at call_at looks.1) _ entry behind_looks (λ calls found_calls behind_calls.
      bind_some (key_at (codes "|") calls.1) _ entry behind_calls (λ rest found_bar behind_bar.
      bind_some (done_at rest) _ entry behind_bar (λ done found_done last.
      let whole = cond_some (is_nil done.1 && has_done form done.0) (record { object = object.0; asked = record { items = calls.0 }; done = done.0; looks = looks.0 }) entry last in
      let tests = and_parts (is_nil done.1) (has_done form done.0) whole.0 in
      let named = place_takes settings ws object found_object in
      let number = number_at_takes 18446744073709551615 looks.0 object.1 looks.1 found_looks in
      let most = number.1 in
      let asked = list_takes call_words call_fits call_at reads_calls looks.1 calls found_calls in
      let taken = done_takes rest done found_done in
      let end : calls.1 ≡ codes "|" ∷ done_words done.0 = key_takes (codes "|") calls.1 rest found_bar ∙ ap (λ l. codes "|" ∷ l) (taken.text ∙ nothing_behind (done_words done.0) done.1 tests.0) in
      let spells : looks.1 ≡ separated (map call_words calls.0) ++ (codes "|" ∷ done_words done.0) = asked.text ∙ ap (λ l. separated (map call_words calls.0) ++ l) end in
      subst (λ (v : KernelEntry). (ws ≡ entry_words settings v) × EntryFits form (length settings.objects) v) whole.1 (
        named.text ∙ ap (λ l. name_at settings object.0 ∷ l) (number.0 ∙ ap (λ l. decimal looks.0 ∷ l) spells),
        record { object = named.bound; looks = omega (arith, most); some = asked.some; few = asked.few; calls = asked.fit; done = taken.fit; expressed = tests.1 },
      ))))))

  module _ (fit : SettingsFitIn form settings) where
    -- what is spelled is read again
    entry_again : (entry : KernelEntry) → EntryFits form (length settings.objects) entry → entry_at form settings.objects (entry_words settings entry) ≡ Some entry
    unfolding entry_at
    entry_again entry fits =
        let end : List (List ℕ) = codes "|" ∷ done_words entry.done in
        let calls : List (List ℕ) = separated (map call_words entry.asked.items) ++ end in
        let looks = fits.looks in
        let done : done_at (done_words entry.done) ≡ Some (entry.done, []) = ap done_at (sym (append-nil (done_words entry.done))) ∙ done_again entry.done [] fits.done (key_end _) in
        rw (
          place_again settings entry.object (decimal entry.looks ∷ calls) fit.names fits.object,
          number_at_again 18446744073709551615 entry.looks calls (omega (arith, looks)) fits.looks,
          list_again call_words call_fits call_at reads_calls entry.asked.items end fits.some fits.few fits.calls (key_other (codes ";") (codes "|") (done_words entry.done) refl),
          key_again (codes "|") (done_words entry.done),
          done,
          fits.expressed,
        )

    -- the words of an entry make a line
    entry_line : (entry : KernelEntry) → EntryFits form (length settings.objects) entry → IsLine (entry_words settings entry)
    entry_line entry fits = record {
      some = omega arith;
      plain = (name_at_plain settings fit entry.object fits.object, (plain_decimal entry.looks fits.looks, all_append IsPlain (separated (map call_words entry.asked.items)) (codes "|" ∷ done_words entry.done) (list_plain call_words call_fits call_at reads_calls entry.asked.items fits.calls) ((omega arith, tt), done_plain entry.done fits.done)));
      short =
          let calls = separated_le call_words entry.asked.items (each_call entry.asked.items fits.calls) fits.few in
          omega (arith, name_at_le settings fit entry.object fits.object, number_le entry.looks fits.looks, calls, done_le entry.done fits.done, long_append (separated (map call_words entry.asked.items)) (codes "|" ∷ done_words entry.done));
    }

    -- an entry of a transcript
    pub reads_entry : ReadsLines (entry_words settings) (EntryFits form (length settings.objects)) (entry_at form settings.objects)
    reads_entry = record { takes = entry_takes; again = entry_again; plain = entry_line }

-- ---- objects

module _ (form : Form) where
  -- what is read is what the words spell
  object_takes : (ws : List (List ℕ)) (o : ObjectSettings) → object_at form ws ≡ Some o → (ws ≡ object_words form o) × ObjectFits form o
  unfolding object_at
  object_takes ws o e =
      bind_some (key_at (codes "object") ws) _ o e (λ rest found_key behind_key.
      bind_some (name_word_at rest) _ o behind_key (λ name found_name behind_name.
      bind_some (lock_at name.1) _ o behind_name (λ lock found_lock behind_lock.
      bind_some (field_at (limit MOST_EVENTS 0) lock.1) _ o behind_lock (λ events found_events behind_events.
      bind_some (params_at form events.1) _ o behind_events (λ params found_params last.
      let whole = cond_some (is_nil params.1) (record { name = name.0; lock = lock.0; events = events.0; params = params.0 }) o last in
      let named = name_takes rest name found_name in
      let number = events_take lock.1 events found_events in
      let value = params_take form events.1 params found_params in
      let numbers : lock.1 ≡ decimal events.0 ∷ params_words form params.0 = number.0 ∙ ap (λ l. decimal events.0 ∷ l) (value.text ∙ nothing_behind (params_words form params.0) params.1 whole.0) in
      let behind : rest ≡ name.0 ∷ lock_word lock.0 ∷ decimal events.0 ∷ params_words form params.0 = named.0 ∙ ap (λ l. name.0 ∷ l) (lock_takes name.1 lock found_lock ∙ ap (λ l. lock_word lock.0 ∷ l) numbers) in
      subst (λ (v : ObjectSettings). (ws ≡ object_words form v) × ObjectFits form v) whole.1 (
        key_takes (codes "object") ws rest found_key ∙ ap (λ l. codes "object" ∷ l) behind,
        record { name = named.1; events = (number.1, number.2); params = value.fits; expressed = value.expressed },
      ))))))

  -- what is spelled is read again
  object_again : (o : ObjectSettings) → ObjectFits form o → object_at form (object_words form o) ≡ Some o
  unfolding object_at
  object_again o fit =
      let params : List (List ℕ) = params_words form o.params in
      let read : params_at form params ≡ Some (o.params, []) = ap (params_at form) (sym (append-nil params)) ∙ params_again form o.params [] fit.params fit.expressed in
      rw (
        key_again (codes "object") (o.name ∷ lock_word o.lock ∷ decimal o.events ∷ params),
        name_again o.name (lock_word o.lock ∷ decimal o.events ∷ params) fit.name,
        lock_again o.lock (decimal o.events ∷ params),
        events_again o.events params fit.events.0 fit.events.1,
        read,
      )

  -- the words of an object make a line
  object_line : (o : ObjectSettings) → ObjectFits form o → IsLine (object_words form o)
  object_line o fit = record {
    some = omega arith;
    plain = (object_plain, (name_plain o.name fit.name, (lock_plain o.lock, (let most = fit.events.1 in plain_decimal o.events (omega (arith, most)), params_plain form o.params fit.params))));
    short =
        let most = fit.events.1 in
        omega (arith, name_le o.name fit.name, lock_le o.lock, number_le o.events (omega (arith, most)), params_le form o.params fit.params);
  }
    where
      object_plain : IsPlain (codes "object")
      object_plain = search (rules, arith)

  -- an object of the settings
  pub reads_object : ReadsLines (object_words form) (ObjectFits form) (object_at form)
  reads_object = record { takes = object_takes; again = object_again; plain = object_line }
