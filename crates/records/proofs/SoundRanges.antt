-- A sound run of entries in their ranges is in its ranges as a whole.
use Rattle.std.proofs.{Common.{◌≡◌, ℕ, zero, suc, ◌<◌, ◌≤◌, ◌==◌, Bool, true, false, cond, Option, Some, None, List, [], ◌∷◌, map, length, take, refl, sym, ◌∙◌, ap, subst, arith, slice_get, unwrap_or, nat_lt, ◌&&◌}, lemmas.Bool.{and_parts, eq-eqb, ltb-true, ltb-false}, lemmas.List.length-map, lemmas.Option.{slice_get_past, slice_get_within}}
use Rattle.std.specs.{Cmp.Derive.both_true, List.{list_all, AllByRecursion}}
use Rattle.event_log.proofs.{Each.{all_map, all_both, each_at}, Lists.some_at}
use Rattle.event_log.specs.{declared.entry.Done.TheVariants.{Steps, NoRoom}, declared.event.TheConstants.MOST_CALLS, Log.{Begins, calls_of, LegalFrom, Legal, after, of}}
use Rattle.sound_run.specs.Sound.{Opened, Sound, Answers, EntryIsSound, done_on, with_steps, steps_by, transcript_of}
use Rattle.sound_run.proofs.Slices.{map_get}
use Rattle.kernel_object.specs.{declared.call.KParams.KParams, declared.call.KCall.KCall, declared.object.KernelObject.KernelObject, contracts.object.KernelObjectSeqObject.TheImpl.{ghosts as kernel}, Kernel.kernel_in_range, KernelTypes.{KernelStep, KernelSteps, KernelEvent, KernelDone, KernelEntry, KernelRun}}
use Rattle.kernel_words.specs.{declared.form.TheConstants.WRITTEN, Ranges.{call_fits, reply_fits, steps_ask, steps_answer, log_asks, log_answers}, Ranges.{StepsFit, DoneFits}}
use Rattle.records.specs.{RecordRanges.{LogFits, TranscriptFits, RunFits}, Runs.{opened_of, EntryAsks, TranscriptAsks}, Settings.{Settings, ObjectSettings, SettingsFit, ObjectFits}}

-- what holds at each place holds of each member
pub all_at : {X : Type 0} (P : X → Type 0) (xs : List X) → ((i : ℕ) (x : X) → slice_get xs i ≡ Some x → P x) → AllByRecursion P xs
all_at P [] h = tt
all_at P (x ∷ xs) h = (h 0 x refl, all_at P xs (λ i y e. h (suc i) y e))

-- ---- the steps of a log, by who did them, and those of a transcript, by the object

module _ (P : ℕ → KernelSteps → Type 0) where
  fewer : (cpu : ℕ) (e : KernelEvent) (log : List KernelEvent) → AllByRecursion (P cpu) (steps_by cpu (e ∷ log)) → AllByRecursion (P cpu) (steps_by cpu log)
  fewer cpu e log all = go (e.cpu == cpu) all
    where
      go : (b : Bool) → AllByRecursion (P cpu) (map (λ (f : KernelEvent). f.steps) (cond b (e ∷ of cpu log) (of cpu log))) → AllByRecursion (P cpu) (steps_by cpu log)
      go true h = h.1
      go false h = h

  first : (e : KernelEvent) (log : List KernelEvent) → AllByRecursion (P e.cpu) (steps_by e.cpu (e ∷ log)) → P e.cpu e.steps
  first e log all = (subst (λ b. AllByRecursion (P e.cpu) (map (λ (f : KernelEvent). f.steps) (cond b (e ∷ of e.cpu log) (of e.cpu log)))) (eq-eqb e.cpu e.cpu refl) all).0

  -- what holds of each CPU's steps holds of each event
  each_event : (log : List KernelEvent) → ((cpu : ℕ) → AllByRecursion (P cpu) (steps_by cpu log)) → AllByRecursion (λ e. P e.cpu e.steps) log
  each_event [] h = tt
  each_event (e ∷ log) h = (first e log (h e.cpu), each_event log (λ cpu. fewer cpu e log (h cpu)))

module _ (P : KernelSteps → Type 0) where
  by_each : (cpu : ℕ) (log : List KernelEvent) → AllByRecursion (λ e. P e.steps) log → AllByRecursion P (steps_by cpu log)
  by_each cpu [] all = tt
  by_each cpu (e ∷ log) all = go (e.cpu == cpu) (by_each cpu log all.1)
    where
      go : (b : Bool) → AllByRecursion P (steps_by cpu log) → AllByRecursion P (map (λ (f : KernelEvent). f.steps) (cond b (e ∷ of cpu log) (of cpu log)))
      go true rest = (all.0, rest)
      go false rest = rest

  -- what is wanted of an entry that was done
  abbrev OfDone : KernelDone → Type 0
  OfDone (Steps s) = P s
  OfDone NoRoom = Unit {0}

  done_all : (x : ℕ) (entries : List KernelEntry) → AllByRecursion (λ e. OfDone e.done) entries → AllByRecursion P (done_on x entries)
  done_all x [] all = tt
  done_all x (e ∷ entries) all = go (e.object == x) e.done all.0 (done_all x entries all.1)
    where
      go : (b : Bool) (d : KernelDone) → OfDone d → AllByRecursion P (done_on x entries) → AllByRecursion P (cond b (with_steps d (done_on x entries)) (done_on x entries))
      go true (Steps s) here rest = (here, rest)
      go true NoRoom here rest = rest
      go false d here rest = rest

  entry_first : (e : KernelEntry) (entries : List KernelEntry) → AllByRecursion P (done_on e.object (e ∷ entries)) → OfDone e.done
  entry_first e entries all = go e.done (subst (λ b. AllByRecursion P (cond b (with_steps e.done (done_on e.object entries)) (done_on e.object entries))) (eq-eqb e.object e.object refl) all)
    where
      go : (d : KernelDone) → AllByRecursion P (with_steps d (done_on e.object entries)) → OfDone d
      go (Steps s) h = h.0
      go NoRoom h = tt

  entry_rest : (x : ℕ) (e : KernelEntry) (entries : List KernelEntry) → AllByRecursion P (done_on x (e ∷ entries)) → AllByRecursion P (done_on x entries)
  entry_rest x e entries all = go (e.object == x) e.done all
    where
      go : (b : Bool) (d : KernelDone) → AllByRecursion P (cond b (with_steps d (done_on x entries)) (done_on x entries)) → AllByRecursion P (done_on x entries)
      go true (Steps s) h = h.1
      go true NoRoom h = h
      go false d h = h

  -- what holds of the steps on each of n objects holds of each entry
  each_entry : (n : ℕ) (entries : List KernelEntry) → AllByRecursion (λ e. e.object < n) entries → ((x : ℕ) → x < n → AllByRecursion P (done_on x entries)) → AllByRecursion (λ e. OfDone e.done) entries
  each_entry n [] on h = tt
  each_entry n (e ∷ entries) on h = (entry_first e entries (h e.object on.0), each_entry n entries on.1 (λ x less. entry_rest x e entries (h x less)))

-- ---- steps

-- the calls of the steps that fulfil what was asked are among it
take_fit : (n : ℕ) (cs : List KCall) → list_all call_fits cs ≡ true → list_all call_fits (take n cs) ≡ true
take_fit zero cs fit = refl
take_fit (suc n) [] fit = refl
take_fit (suc n) (c ∷ cs) fit = let parts = and_parts (call_fits c) (list_all call_fits cs) fit in both_true parts.0 (take_fit n cs parts.1)

begins_fit : (cs more : List KCall) → Begins cs more → list_all call_fits more ≡ true → list_all call_fits cs ≡ true
begins_fit cs more begins fit = subst (λ (l : List KCall). list_all call_fits l ≡ true) begins.start (take_fit (length cs) more fit)

steps_calls : (steps : List KernelStep) → steps_ask call_fits steps ≡ list_all call_fits (calls_of steps)
steps_calls [] = refl
steps_calls (s ∷ steps) = ap (λ b. call_fits s.call && b) (steps_calls steps)

legal_sizes : (s : KernelObject) (log : List KernelEvent) → LegalFrom kernel s log → AllByRecursion (λ e. (0 < length e.steps.list.items) × (length e.steps.list.items ≤ MOST_CALLS)) log
legal_sizes s [] legal = tt
legal_sizes s (e ∷ log) legal = ((legal.0.some, legal.0.few), legal_sizes (after kernel s e.steps.list.items) log legal.1)

asks_all : (log : List KernelEvent) → AllByRecursion (λ e. steps_ask call_fits e.steps.list.items ≡ true) log → log_asks call_fits log ≡ true
asks_all [] all = refl
asks_all (e ∷ log) all = both_true all.0 (asks_all log all.1)

answers_all : (log : List KernelEvent) → log_answers reply_fits log ≡ true → AllByRecursion (λ e. steps_answer reply_fits e.steps.list.items ≡ true) log
answers_all [] e = tt
answers_all (x ∷ log) e = let parts = and_parts (steps_answer reply_fits x.steps.list.items) (log_answers reply_fits log) e in (parts.0, answers_all log parts.1)

-- ---- a sound run

module _ (settings : Settings) (fit : SettingsFit settings) (run : KernelRun) (sound : Sound kernel (opened_of settings) run) (count : length run.transcripts ≡ settings.cpus)
    (asks : AllByRecursion (TranscriptAsks (length settings.objects)) run.transcripts)
    (replies : (p : KParams) (log : List KernelEvent) → kernel_in_range p ≡ true → Legal kernel p log → log_asks call_fits log ≡ true → log_answers reply_fits log ≡ true) where
  abbrev objects : ℕ
  objects = length settings.objects

  abbrev one_opened : ObjectSettings → Opened KParams
  one_opened o = record { params = o.params; limit = o.events }

  opened_count : length (opened_of settings) ≡ objects
  opened_count = length-map settings.objects one_opened

  -- the steps ask for what fits
  abbrev Asked : KernelSteps → Type 0
  Asked s = steps_ask call_fits s.list.items ≡ true

  entry_asks : (e : KernelEntry) → EntryAsks objects e × EntryIsSound kernel (opened_of settings) run e → OfDone Asked e.done
  entry_asks e both = go e.done both.1.answers
    where
      go : (d : KernelDone) → Answers kernel both.1.opened both.1.log e.asked d → OfDone Asked d
      go (Steps s) fulfils = steps_calls s.list.items ∙ begins_fit (calls_of s.list.items) e.asked.items fulfils.beginning both.0.todo.calls
      go NoRoom full = tt

  transcript_asks : (cpu : ℕ) → AllByRecursion (EntryAsks objects) (transcript_of cpu run)
  transcript_asks cpu = go (slice_get run.transcripts cpu) refl
    where
      go : (o : Option (List KernelEntry)) → slice_get run.transcripts cpu ≡ o → AllByRecursion (EntryAsks objects) (unwrap_or o [])
      go None e = tt
      go (Some t) e = (each_at (TranscriptAsks objects) run.transcripts cpu t asks e).1

  done_asks : (cpu x : ℕ) → AllByRecursion Asked (done_on x (transcript_of cpu run))
  done_asks cpu x = done_all Asked x (transcript_of cpu run) (all_both entry_asks (transcript_of cpu run) (transcript_asks cpu) (sound.entries cpu))

  -- the steps in a log are of CPUs of the settings
  cpu_steps : (cpu x : ℕ) (log : List KernelEvent) → slice_get run.logs x ≡ Some log → AllByRecursion (λ s. Asked s × (cpu < settings.cpus)) (steps_by cpu log)
  cpu_steps cpu x log at = go (nat_lt cpu settings.cpus) refl
    where
      go : (b : Bool) → nat_lt cpu settings.cpus ≡ b → AllByRecursion (λ s. Asked s × (cpu < settings.cpus)) (steps_by cpu log)
      go true e = all_map (λ s a. (a, ltb-true cpu settings.cpus e)) (steps_by cpu log) (subst (λ (l : List KernelSteps). AllByRecursion Asked l) (sound.taken cpu x log at) (done_asks cpu x))
      go false e =
          let past : length run.transcripts ≤ cpu = omega (arith, count, ltb-false cpu settings.cpus e) in
          let none : [] ≡ steps_by cpu log = sym (ap (λ o. done_on x (unwrap_or o [])) (slice_get_past run.transcripts cpu past)) ∙ sound.taken cpu x log at in
          subst (λ (l : List KernelSteps). AllByRecursion (λ s. Asked s × (cpu < settings.cpus)) l) none tt

  log_fits : (x : ℕ) (log : List KernelEvent) → slice_get run.logs x ≡ Some log → LogFits WRITTEN settings.cpus log
  log_fits x log at =
      let within : x < objects = omega (arith, slice_get_within run.logs x log at, sound.counted, opened_count) in
      let object = some_at settings.objects x within in
      let o = object.0 in
      let is = sound.logs x _ log (map_get one_opened settings.objects x o object.1) at in
      let good = each_at (ObjectFits WRITTEN) settings.objects x o fit.each object.1 in
      let events = each_event (λ cpu s. Asked s × (cpu < settings.cpus)) log (λ cpu. cpu_steps cpu x log at) in
      let asked = asks_all log (all_map (λ e h. h.0) log events) in
      let replied = answers_all log (replies o.params log good.params is.legal asked) in
      let sizes = legal_sizes (kernel.opening o.params) log is.legal in
      let sized = all_both (λ e (h : ((0 < length e.steps.list.items) × (length e.steps.list.items ≤ MOST_CALLS)) × (steps_answer reply_fits e.steps.list.items ≡ true)). h) log sizes replied in (
        omega (arith, is.within, good.events.1),
        all_both (λ e h. record { cpu = h.0.1; steps = record { some = h.1.0.0; few = h.1.0.1; calls = h.0.0; replies = h.1.1 }; expressed = refl }) log events sized,
      )

  -- the steps of a transcript on an object are in range, since they stand in its log
  abbrev InRange : KernelSteps → Type 0
  InRange s = StepsFit s.list.items

  steps_fit : (cpu x : ℕ) → x < objects → AllByRecursion InRange (done_on x (transcript_of cpu run))
  steps_fit cpu x less =
      let within : x < length run.logs = omega (arith, less, sound.counted, opened_count) in
      let log = some_at run.logs x within in
      subst (λ (l : List KernelSteps). AllByRecursion InRange l) (sym (sound.taken cpu x log.0 log.1)) (by_each InRange cpu log.0 (all_map (λ e h. h.steps) log.0 (log_fits x log.0 log.1).1))

  done_fits : (d : KernelDone) → OfDone InRange d → DoneFits d
  done_fits (Steps s) h = h
  done_fits NoRoom h = tt

  transcript_fits : (cpu : ℕ) (entries : List KernelEntry) → slice_get run.transcripts cpu ≡ Some entries → TranscriptFits WRITTEN objects entries
  transcript_fits cpu entries at =
      let same : transcript_of cpu run ≡ entries = ap (λ o. unwrap_or o []) at in
      let asked = each_at (TranscriptAsks objects) run.transcripts cpu entries asks at in
      let done = each_entry InRange objects entries (all_map (λ e h. h.todo.object) entries asked.1) (λ x less. subst (λ (l : List KernelEntry). AllByRecursion InRange (done_on x l)) same (steps_fit cpu x less)) in
      (asked.0, all_both (λ e h. record { object = h.0.todo.object; looks = h.0.looks; some = h.0.todo.some; few = h.0.todo.few; calls = h.0.todo.calls; done = done_fits e.done h.1; expressed = refl }) entries asked.1 done)

  pub run_fits : RunFits settings run
  run_fits = record {
    log_count = sound.counted ∙ opened_count;
    logs = all_at (LogFits WRITTEN settings.cpus) run.logs log_fits;
    transcript_count = count;
    transcripts = all_at (TranscriptFits WRITTEN objects) run.transcripts transcript_fits;
  }
