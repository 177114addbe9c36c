-- What callers leave who did their scripts on new cells and joined is a sound run.
use Rattle.std.proofs.{Common.{◌≡◌, ◌⊎◌, inl, inr, ℕ, ◌+◌, ◌<◌, ◌≤◌, ◌||◌, true, List, [], ◌∷◌, ◌++◌, length, map, drop, refl, sym, ◌∙◌, ap, subst, arith, length-append, slice_get, Some}, lemmas.List.{length-map, map-id}, lemmas.Bool.{cases_lt, eq-eqb, or_right, or_left}, lemmas.Option.{slice_get_within, slice_get_past}}
use Rattle.std.specs.{List.AllByRecursion, Prelude.unwrap_or}
use Rattle.arrayvec.specs.ArrayVec.{ArrayVec}
use Rattle.event_log.specs.{declared.object.SeqObject.Ghosts, declared.event.Steps.Steps, declared.event.Event.Event, declared.entry.Done.Done, declared.entry.Entry.Entry, declared.entry.Todo.Todo, declared.entry.Run.Run, Entries.asked_of, Log.of}
use Rattle.event_log.proofs.{Each.{all_map, all_both}, Beginnings.begins_rest, Lists.some_at}
use Rattle.word_rule.specs.{Cell.{Cell, PassView, Grows, Lawful, OwnsAll, opening_pass}, Answered.events_by, Machine.SoundWorld.IsTodo}
use Rattle.sound_run.specs.Sound.{Opened, Sound, LogIsSound, EntryIsSound, Answers, NoneAfterFull, done_on, steps_by, transcript_of}
use Rattle.word_rule.proofs.{Lists.{of_opening, grows_self, grows_then}, SoundRuns.maps_equal}
use Rattle.sound_run.proofs.Slices.{one_of, get_map, map_get}
use Rattle.guarded_cell.specs.{Workers.{opened_of_cell, DidOn}, Runs.{Joins, Worked, AllWorked, run_left}}
use Rattle.event_log.specs.declared.entry.Done.TheVariants as done

all_unmap : {X Y : Type 0} (Q : Y → Type 0) (f : X → Y) (xs : List X) → AllByRecursion Q (map f xs) → AllByRecursion (λ x. Q (f x)) xs
all_unmap Q f [] h = tt
all_unmap Q f (x ∷ xs) h = (h.0, all_unmap Q f xs h.1)

module _ {O P C R : Type 0} where
  -- what holds of the entries on each object holds of all
  gather : (Q : ℕ → Entry O P C R → Type 0) (m : ℕ) (es : List (Entry O P C R)) → AllByRecursion (λ f. f.object < m) es → ((x : ℕ) → x < m → AllByRecursion (λ f. f.object ≡ x → Q x f) es) → AllByRecursion (λ f. Q f.object f) es
  gather Q m [] able h = tt
  gather Q m (e ∷ es) able h = ((h e.object able.0).0 refl, gather Q m es able.1 (λ x lt. (h x lt).1))

  steps_of : (k : ℕ) (done : List (Steps O P C R)) → map (λ (e : Event O P C R). e.steps) (events_by k done) ≡ done
  steps_of k [] = refl
  steps_of k (s ∷ done) = ap (λ l. s ∷ l) (steps_of k done)

  -- joining
  pub joins_self : (a : PassView O P C R) → Joins a a
  joins_self a = record { cell = refl; owned = λ k o. o; grows = grows_self a.caller.owned a.seen }

  pub joins_then : (a b c : PassView O P C R) → Joins a b → Joins b c → Joins a c
  joins_then a b c p q = record {
    cell = q.cell ∙ p.cell;
    owned = λ k o. q.owned k (p.owned k o);
    grows = grows_then a.caller.owned a.seen b.seen c.seen p.grows (record { begins = q.grows.begins; own = λ k o. q.grows.own k (p.owned k o) });
  }

  -- by what `join` says
  pub joins_first : (a b j : PassView O P C R) → j.caller.cell ≡ a.caller.cell → ((k : ℕ) → j.caller.owned k ≡ (a.caller.owned k || b.caller.owned k)) → Grows a.caller.owned a.seen j.seen → Joins a j
  joins_first a b j cell owned grows = record { cell = cell; owned = λ k o. owned k ∙ or_left (a.caller.owned k) (b.caller.owned k) o; grows = grows }

  pub joins_second : (a b j : PassView O P C R) → j.caller.cell ≡ b.caller.cell → ((k : ℕ) → j.caller.owned k ≡ (a.caller.owned k || b.caller.owned k)) → Grows b.caller.owned b.seen j.seen → Joins b j
  joins_second a b j cell owned grows = record { cell = cell; owned = λ k o. owned k ∙ or_right (a.caller.owned k) (b.caller.owned k) o; grows = grows }

module _ {O P C R : Type 0} (meaning : Ghosts O P C R) where
  -- what the log of a cell has of the CPU k, by what its worker did and saw
  module _ (x k : ℕ) (c : Cell O P C R) (entries : List (Entry O P C R)) (after joined : PassView O P C R) (empty : c.opening ≡ []) (d : DidOn meaning x (opening_pass c k) entries after) (joins : Joins after joined) (valid : Lawful meaning c joined.seen) where
    own : done_on x entries ≡ steps_by k joined.seen
    own =
        let mine : of k joined.seen ≡ of k after.seen = joins.grows.own k (subst (λ z. z.owned k ≡ true) (sym d.caller) (eq-eqb k k refl)) in
        let none : of k c.opening ≡ [] = ap (λ l. of k l) empty in
        let events : of k joined.seen ≡ events_by k (done_on x entries) = mine ∙ (d.own ∙ ap (λ l. l ++ events_by k (done_on x entries)) none) in
        sym (ap (map (λ (e : Event O P C R). e.steps)) events ∙ steps_of k (done_on x entries))

    answer : (asked : ArrayVec C) (f : Done O P C R) → Answers meaning (opened_of_cell c) after.seen asked f → Answers meaning (opened_of_cell c) joined.seen asked f
    answer asked (done.Steps s) h = h
    answer asked done.NoRoom h =
        let is : length joined.seen ≡ length after.seen + length (drop (length after.seen) joined.seen) = ap length (begins_rest after.seen joined.seen joins.grows.begins) ∙ length-append after.seen (drop (length after.seen) joined.seen) in
        let within : length joined.seen ≤ c.limit = valid.within in
        omega (arith, is, within, h)

    answers : AllByRecursion (λ e. e.object ≡ x → Answers meaning (opened_of_cell c) joined.seen e.asked e.done) entries
    answers = all_map (λ e h at. answer e.asked e.done (h at)) entries d.answers

  module _ (cells : List (Cell O P C R)) (joined : List (PassView O P C R)) (n : ℕ) (scripts : List (List (Todo O P C R))) (transcripts : List (List (Entry O P C R))) (all : AllWorked meaning cells joined n scripts transcripts) where
    -- the run that the CPUs made
    abbrev run_of : Run O P C R
    run_of = run_left joined transcripts

    abbrev objects : List (Opened P)
    objects = map opened_of_cell cells

    valid_at : (x : ℕ) (c : Cell O P C R) (j : PassView O P C R) → slice_get cells x ≡ Some c → slice_get joined x ≡ Some j → Lawful meaning c j.seen
    valid_at x c j a b = subst (λ z. Lawful meaning z j.seen) (all.of_cells x c j a b) (all.views x j b).valid

    joined_at : (x : ℕ) → x < length cells → (j : PassView O P C R) × (slice_get joined x ≡ Some j)
    joined_at x lt = let same = all.objects in some_at joined x (omega (arith, lt, same))

    cell_at : (x : ℕ) (j : PassView O P C R) → slice_get joined x ≡ Some j → (c : Cell O P C R) × (slice_get cells x ≡ Some c)
    cell_at x j e = let same = all.objects in let lt = slice_get_within joined x j e in some_at cells x (omega (arith, lt, same))

    -- what CPU k did on object x
    on : (k x : ℕ) (todos : List (Todo O P C R)) (entries : List (Entry O P C R)) (w : Worked meaning cells joined k todos entries) (c : Cell O P C R) → slice_get cells x ≡ Some c → (a : PassView O P C R) × (slice_get w.after x ≡ Some a) × DidOn meaning x (opening_pass c k) entries a
    on k x todos entries w c e =
        let lt = slice_get_within cells x c e in
        let wide : length w.after ≡ length cells = w.done.count ∙ length-map cells (λ c. opening_pass c k) in
        let a = some_at w.after x (omega (arith, lt, wide)) in
        (a.0, a.1, w.done.each x (opening_pass c k) a.0 (map_get (λ c. opening_pass c k) cells x c e) a.1)

    own_at : (k x : ℕ) (todos : List (Todo O P C R)) (entries : List (Entry O P C R)) → Worked meaning cells joined k todos entries → (c : Cell O P C R) (j : PassView O P C R) → slice_get cells x ≡ Some c → slice_get joined x ≡ Some j → done_on x entries ≡ steps_by k j.seen
    own_at k x todos entries w c j e f =
        let a = on k x todos entries w c e in
        own x k c entries a.0 j (all.empty x c e) a.2 (w.joins x a.0 j a.1 f) (valid_at x c j e f)

    abbrev Fits : ℕ → Entry O P C R → Type 0
    Fits x e = (c : Cell O P C R) (j : PassView O P C R) → slice_get cells x ≡ Some c → slice_get joined x ≡ Some j → Answers meaning (opened_of_cell c) j.seen e.asked e.done

    fits : (k : ℕ) (todos : List (Todo O P C R)) (entries : List (Entry O P C R)) → Worked meaning cells joined k todos entries → (x : ℕ) → x < length cells → AllByRecursion (λ e. e.object ≡ x → Fits x e) entries
    fits k todos entries w x lt =
        let c = some_at cells x lt in
        let j = joined_at x lt in
        let a = on k x todos entries w c.0 c.1 in
        let h = answers x k c.0 entries a.0 j.0 (all.empty x c.0 c.1) a.2 (w.joins x a.0 j.0 a.1 j.1) (valid_at x c.0 j.0 c.1 j.1) in
        all_map (λ e g at d i p q.
        subst (λ (z : Cell O P C R). Answers meaning (opened_of_cell z) i.seen e.asked e.done) (one_of c.0 d (slice_get cells x) c.1 p)
        (subst (λ (z : PassView O P C R). Answers meaning (opened_of_cell c.0) z.seen e.asked e.done) (one_of j.0 i (slice_get joined x) j.1 q) (g at))) entries h

    below : (k : ℕ) (todos : List (Todo O P C R)) (entries : List (Entry O P C R)) → Worked meaning cells joined k todos entries → AllByRecursion (λ (e : Entry O P C R). e.object < length cells) entries
    below k todos entries w =
        all_map (λ e h. h.on_cell) entries (all_unmap (λ t. IsTodo (length cells) t) asked_of entries (subst (AllByRecursion (λ t. IsTodo (length cells) t)) (sym w.done.asked) w.able))

    entry_sound : (e : Entry O P C R) → (e.object < length cells) × Fits e.object e → EntryIsSound meaning objects run_of e
    entry_sound e h =
        let c = some_at cells e.object h.0 in
        let j = joined_at e.object h.0 in
        record {
          opened = opened_of_cell c.0;
          log = j.0.seen;
          object = map_get opened_of_cell cells e.object c.0 c.1;
          logged = map_get (λ (j : PassView O P C R). j.seen) joined e.object j.0 j.1;
          answers = h.1 c.0 j.0 c.1 j.1;
        }

    -- a CPU that there is has a transcript, and another has none
    at_cpu : (Q : List (Entry O P C R) → Type 0) (cpu : ℕ) → ((todos : List (Todo O P C R)) (entries : List (Entry O P C R)) → Worked meaning cells joined cpu todos entries → Q entries) → (n ≤ cpu → Q []) → Q (transcript_of cpu run_of)
    at_cpu Q cpu some none = by (cases_lt cpu n)
      where
        by : ((cpu < n) ⊎ (n ≤ cpu)) → Q (transcript_of cpu run_of)
        by (inl lt) =
            let cpus = all.cpus in let long = all.long in
            let e = some_at transcripts cpu (omega (arith, lt, cpus)) in
            let t = some_at scripts cpu (omega (arith, lt, long)) in
            subst Q (sym (ap (λ o. unwrap_or o []) e.1)) (some t.0 e.0 (all.each cpu t.0 e.0 t.1 e.1))
        by (inr ge) = let cpus = all.cpus in subst Q (sym (ap (λ o. unwrap_or o []) (slice_get_past transcripts cpu (omega (arith, ge, cpus))))) (none ge)

    taken_at : (cpu x : ℕ) (j : PassView O P C R) → slice_get joined x ≡ Some j → done_on x (transcript_of cpu run_of) ≡ steps_by cpu j.seen
    taken_at cpu x j e =
        let c = cell_at x j e in
        let valid = valid_at x c.0 j c.1 e in
        at_cpu (λ l. done_on x l ≡ steps_by cpu j.seen) cpu (λ todos entries w. own_at cpu x todos entries w c.0 j c.1 e)
        (λ ge. let numbers = all.numbers x c.0 c.1 in
        sym (ap (map (λ (e : Event O P C R). e.steps)) (of_opening cpu c.0.numbers j.seen c.0.opening (omega (arith, ge, numbers)) valid.begins valid.numbered ∙ ap (λ l. of cpu l) (all.empty x c.0 c.1))))

    pub is_sound : Sound meaning objects run_of
    is_sound = record {
      counted = length-map joined (λ j. j.seen) ∙ (all.objects ∙ sym (length-map cells opened_of_cell));
      logs = λ x o l at_object at_log.
          let c = get_map opened_of_cell cells x o at_object in
          let j = get_map (λ (j : PassView O P C R). j.seen) joined x l at_log in
          let valid = valid_at x c.0 j.0 c.1 j.1 in
          subst (λ z. LogIsSound meaning z l) c.2 (subst (LogIsSound meaning (opened_of_cell c.0)) j.2 record { legal = valid.legal; within = valid.within });
      taken = λ cpu x l at_log.
          let j = get_map (λ (j : PassView O P C R). j.seen) joined x l at_log in
          taken_at cpu x j.0 j.1 ∙ ap (λ z. steps_by cpu z) j.2;
      entries = λ cpu. at_cpu (λ l. AllByRecursion (λ e. EntryIsSound meaning objects run_of e) l) cpu
          (λ todos entries w. all_both entry_sound entries (below cpu todos entries w) (gather Fits (length cells) entries (below cpu todos entries w) (fits cpu todos entries w))) (λ ge. tt);
      full = λ cpu. at_cpu NoneAfterFull cpu (λ todos entries w. w.done.full) (λ ge. tt);
    }

    -- each CPU's transcript asks exactly its script
    asks : (k : ℕ) (todos : List (Todo O P C R)) (entries : List (Entry O P C R)) → slice_get scripts k ≡ Some todos → slice_get transcripts k ≡ Some entries → map asked_of entries ≡ todos
    asks k todos entries a b = (all.each k todos entries a b).done.asked

    pub all_ask : map (map asked_of) transcripts ≡ scripts
    all_ask = maps_equal (map asked_of) (λ todos. todos) transcripts scripts (all.cpus ∙ sym all.long) (λ k entries todos a b. asks k todos entries b a) ∙ map-id scripts

    -- the last pass of an object owns every number of its cell
    pub whole : (x : ℕ) (j : PassView O P C R) → slice_get joined x ≡ Some j → OwnsAll j.caller
    whole x j e =
        let c = cell_at x j e in
        let is = all.of_cells x c.0 j c.1 e in
        let numbers : j.caller.cell.numbers ≡ n = ap (λ z. z.numbers) is ∙ all.numbers x c.0 c.1 in
        record {
          each = λ k lt.
              let cpus = all.cpus in let long = all.long in
              let en = some_at transcripts k (omega (arith, lt, numbers, cpus)) in
              let t = some_at scripts k (omega (arith, lt, numbers, long)) in
              let w = all.each k t.0 en.0 t.1 en.1 in
              let a = on k x t.0 en.0 w c.0 c.1 in
              (w.joins x a.0 j a.1 e).owned k (subst (λ z. z.owned k ≡ true) (sym a.2.caller) (eq-eqb k k refl));
        }
