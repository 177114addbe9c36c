-- Every step keeps a world sound.
use Rattle.std.proofs.{Common.{◌≡◌, ◌≢◌, ℕ, ◌<◌, ◌==◌, Bool, true, false, cond, List, [], ◌∷◌, ◌++◌, length, slice_get, Option, Some, None, refl, sym, ap, ◌∙◌, subst, arith, length-append}, Math.ListN.set, lemmas.List.{append-nil, length-set}, lemmas.Bool.{eqb-true, eqb-false}}
use Rattle.std.specs.List.{AllByRecursion}
use mathlib.Core.Logic.{dite}
use native.Mathlib.Decide.{ℕ_discrete}
use Rattle.arrayvec.specs.ArrayVec.{ArrayVec}
use Rattle.event_log.specs.{declared.object.SeqObject.Ghosts, declared.event.Steps.Steps, declared.event.Event.Event, declared.entry.Done.Done, declared.entry.Entry.Entry, declared.entry.Todo.Todo, Log.{answers, replay}}
use Rattle.event_log.proofs.{Logs.legal_append, Batches.{next_answers, answers_fulfil}, Each.{all_map, all_push}}
use Rattle.word_rule.specs.{declared.machine.step_done.StepDone.StepDone, Locks.{Lock, turn}, StepKinds.ends_hold, Machine.World.{World, CellState, CpuState, with_done, entry_of, left, finished, counted, outcome, world_after, step_on, step_of, step_by, step, run}, Machine.SoundWorld.{IsTodo, entries_of, entries_by, IsAnswer, SoundWorld}}
use Rattle.sound_run.specs.Sound.{LogIsSound, Answers, NoneAfterFull, done_on, steps_by}
use Rattle.sound_run.proofs.{Entries.{done_append, done_here, done_elsewhere, done_without, steps_push, steps_other, full_push}, Slices.{get_set_same, get_set_other, one_of}}
use Rattle.event_log.specs.declared.entry.Done.TheVariants as done

module _ {O P C R : Type 0} (meaning : Ghosts O P C R) where
  -- what a CPU's step on a cell leaves, of the cell and of the CPU
  pub record Turned (n x i : ℕ) (c c' : CellState O P C R) (cpu cpu' : CpuState O P C R) : Type 0 where
    pub log : LogIsSound meaning c'.opened c'.log
    pub mine : done_on x cpu'.transcript ≡ steps_by i c'.log
    pub others : (j : ℕ) → j ≢ i → steps_by j c'.log ≡ steps_by j c.log
    pub elsewhere : (y : ℕ) → y ≢ x → done_on y cpu'.transcript ≡ done_on y cpu.transcript
    pub carries : (asked : ArrayVec C) (d : Done O P C R) → Answers meaning c.opened c.log asked d → Answers meaning c'.opened c'.log asked d
    pub answers : (w' : World O P C R) → slice_get w'.cells x ≡ Some c' → AllByRecursion (λ e. IsAnswer meaning w' e) cpu.transcript → AllByRecursion (λ e. IsAnswer meaning w' e) cpu'.transcript
    pub full : NoneAfterFull cpu'.transcript
    pub able : AllByRecursion (λ t. IsTodo n t) cpu'.todo

  module _ (w : World O P C R) (h : SoundWorld meaning w) (x i : ℕ) (c c' : CellState O P C R) (cpu cpu' : CpuState O P C R) (cell_is : slice_get w.cells x ≡ Some c) (cpu_is : slice_get w.cpus i ≡ Some cpu) (t : Turned (length w.cells) x i c c' cpu cpu') where
    abbrev w' : World O P C R
    w' = record { cells = set w.cells x c'; cpus = set w.cpus i cpu' }

    cell_at : slice_get (set w.cells x c') x ≡ Some c'
    cell_at = get_set_same w.cells x c' c cell_is

    cell_off : (y : ℕ) → y ≢ x → slice_get (set w.cells x c') y ≡ slice_get w.cells y
    cell_off y ne = get_set_other w.cells x y c' (λ e. ne (sym e))

    mine_at : entries_by i w' ≡ cpu'.transcript
    mine_at = ap (λ (o : Option (CpuState O P C R)). entries_of o) (get_set_same w.cpus i cpu' cpu cpu_is)

    mine_was : entries_by i w ≡ cpu.transcript
    mine_was = ap (λ (o : Option (CpuState O P C R)). entries_of o) cpu_is

    other_at : (j : ℕ) → j ≢ i → entries_by j w' ≡ entries_by j w
    other_at j ne = ap (λ (o : Option (CpuState O P C R)). entries_of o) (get_set_other w.cpus i j cpu' (λ e. ne (sym e)))

    carried : (e : Entry O P C R) → IsAnswer meaning w e → IsAnswer meaning w' e
    carried e a = dite (ℕ_discrete e.object x)
        (λ is. let same : a.cell ≡ c = one_of a.cell c (slice_get w.cells x) (ap (λ k. slice_get w.cells k) (sym is) ∙ a.there) cell_is in
        record { cell = c'; there = ap (λ k. slice_get (set w.cells x c') k) is ∙ cell_at; answers = t.carries e.asked e.done (subst (λ (k : CellState O P C R). Answers meaning k.opened k.log e.asked e.done) same a.answers) })
        (λ ne. record { cell = a.cell; there = cell_off e.object ne ∙ a.there; answers = a.answers })

    taken_here : (j : ℕ) → done_on x (entries_by j w') ≡ steps_by j c'.log
    taken_here j = dite (ℕ_discrete j i)
        (λ is. ap (λ k. done_on x (entries_by k w')) is ∙ (ap (done_on x) mine_at ∙ (t.mine ∙ ap (λ k. steps_by k c'.log) (sym is))))
        (λ ne. ap (done_on x) (other_at j ne) ∙ (h.taken x j c cell_is ∙ sym (t.others j ne)))

    taken_there : (y j : ℕ) (d : CellState O P C R) → y ≢ x → slice_get w.cells y ≡ Some d → done_on y (entries_by j w') ≡ steps_by j d.log
    taken_there y j d off there = dite (ℕ_discrete j i)
        (λ is. ap (λ k. done_on y (entries_by k w')) is ∙ (ap (done_on y) mine_at ∙ (t.elsewhere y off ∙ (ap (done_on y) (sym mine_was) ∙ (h.taken y i d there ∙ ap (λ k. steps_by k d.log) (sym is))))))
        (λ ne. ap (done_on y) (other_at j ne) ∙ h.taken y j d there)

    pub turned : SoundWorld meaning w'
    turned = record {
      logs = λ y d there. dite (ℕ_discrete y x)
          (λ is. subst (λ (k : CellState O P C R). LogIsSound meaning k.opened k.log) (one_of c' d (slice_get (set w.cells x c') x) cell_at (ap (λ k. slice_get (set w.cells x c') k) (sym is) ∙ there)) t.log)
          (λ ne. h.logs y d (sym (cell_off y ne) ∙ there));
      taken = λ y j d there. dite (ℕ_discrete y x)
          (λ is. subst (λ (k : CellState O P C R). done_on y (entries_by j w') ≡ steps_by j k.log) (one_of c' d (slice_get (set w.cells x c') x) cell_at (ap (λ k. slice_get (set w.cells x c') k) (sym is) ∙ there)) (ap (λ k. done_on k (entries_by j w')) is ∙ taken_here j))
          (λ ne. taken_there y j d ne (sym (cell_off y ne) ∙ there));
      answers = λ j. dite (ℕ_discrete j i)
          (λ is. subst (λ k. AllByRecursion (λ e. IsAnswer meaning w' e) (entries_by k w')) (sym is) (subst (λ l. AllByRecursion (λ e. IsAnswer meaning w' e) l) (sym mine_at)
          (t.answers w' cell_at (all_map carried cpu.transcript (subst (λ l. AllByRecursion (λ e. IsAnswer meaning w e) l) mine_was (h.answers i))))))
          (λ ne. subst (λ l. AllByRecursion (λ e. IsAnswer meaning w' e) l) (sym (other_at j ne)) (all_map carried (entries_by j w) (h.answers j)));
      full = λ j. dite (ℕ_discrete j i)
          (λ is. subst (λ k. NoneAfterFull (entries_by k w')) (sym is) (subst NoneAfterFull (sym mine_at) t.full))
          (λ ne. subst NoneAfterFull (sym (other_at j ne)) (h.full j));
      able = λ j d there. subst (λ n. AllByRecursion (λ t. IsTodo n t) d.todo) (sym (length-set w.cells x c')) (dite (ℕ_discrete j i)
          (λ is. subst (λ (k : CpuState O P C R). AllByRecursion (λ t. IsTodo (length w.cells) t) k.todo) (one_of cpu' d (slice_get (set w.cpus i cpu') i) (get_set_same w.cpus i cpu' cpu cpu_is) (ap (λ k. slice_get (set w.cpus i cpu') k) (sym is) ∙ there)) t.able)
          (λ ne. h.able j d (sym (get_set_other w.cpus i j cpu' (λ e. ne (sym e))) ∙ there)));
    }

  module _ (w : World O P C R) (h : SoundWorld meaning w) (i : ℕ) (c : CellState O P C R) (cpu : CpuState O P C R) (todo : Todo O P C R) (more : List (Todo O P C R)) (cell_is : slice_get w.cells todo.object ≡ Some c) (cpu_is : slice_get w.cpus i ≡ Some cpu) (todo_is : cpu.todo ≡ todo ∷ more) (lock : Lock) where
    entries_here : entries_by i w ≡ cpu.transcript
    entries_here = ap (λ (o : Option (CpuState O P C R)). entries_of o) cpu_is

    taken_so_far : (y : ℕ) (d : CellState O P C R) → slice_get w.cells y ≡ Some d → done_on y cpu.transcript ≡ steps_by i d.log
    taken_so_far y d there = ap (done_on y) (sym entries_here) ∙ h.taken y i d there

    answered : AllByRecursion (λ e. IsAnswer meaning w e) cpu.transcript
    answered = subst (λ l. AllByRecursion (λ e. IsAnswer meaning w e) l) entries_here (h.answers i)

    none_after : NoneAfterFull cpu.transcript
    none_after = subst NoneAfterFull entries_here (h.full i)

    todos : AllByRecursion (λ t. IsTodo (length w.cells) t) (todo ∷ more)
    todos = subst (λ l. AllByRecursion (λ t. IsTodo (length w.cells) t) l) todo_is (h.able i cpu cpu_is)

    abbrev with_lock : CellState O P C R
    with_lock = record { opened = c.opened; lock = lock; log = c.log }

    -- no hold ends
    going_on : (looks : ℕ) → Turned (length w.cells) todo.object i c with_lock cpu (record { todo = cpu.todo; transcript = cpu.transcript; looks = looks })
    going_on looks = record {
      log = h.logs todo.object c cell_is;
      mine = taken_so_far todo.object c cell_is;
      others = λ j ne. refl;
      elsewhere = λ y ne. refl;
      carries = λ asked d a. a;
      answers = λ w' there all. all;
      full = none_after;
      able = h.able i cpu cpu_is;
    }

    left_able : AllByRecursion (λ t. IsTodo (length w.cells) t) (left cpu.todo)
    left_able = subst (λ l. AllByRecursion (λ t. IsTodo (length w.cells) t) (left l)) (sym todo_is) todos.1

    -- the log was full
    refused : length c.log ≡ c.opened.limit → Turned (length w.cells) todo.object i c with_lock cpu (finished cpu todo done.NoRoom)
    refused full =
        let e : Entry O P C R = entry_of todo done.NoRoom cpu.looks in
        let same : (y : ℕ) → done_on y (cpu.transcript ++ e ∷ []) ≡ done_on y cpu.transcript = λ y. done_append y cpu.transcript (e ∷ []) ∙ (ap (λ l. done_on y cpu.transcript ++ l) (done_without y e refl) ∙ append-nil (done_on y cpu.transcript)) in
        record {
          log = h.logs todo.object c cell_is;
          mine = same todo.object ∙ taken_so_far todo.object c cell_is;
          others = λ j ne. refl;
          elsewhere = λ y ne. same y;
          carries = λ asked d a. a;
          answers = λ w' there all. all_push (λ f. IsAnswer meaning w' f) cpu.transcript e all (record { cell = with_lock; there = there; answers = full });
          full = full_push cpu.transcript e none_after (all_map (λ f _ _. done_without f.object e refl) cpu.transcript answered);
          able = left_able;
        }

    abbrev steps_now : Steps O P C R
    steps_now = record { list = record { items = answers meaning (replay meaning c.opened.params c.log) todo.calls.items } }

    abbrev with_event : CellState O P C R
    with_event = record { opened = c.opened; lock = lock; log = c.log ++ record { cpu = i; steps = steps_now } ∷ [] }

    -- an answer stays one where the log grows, since it wasn't full
    answer_stays : length c.log < c.opened.limit → (more : List (Event O P C R)) (asked : ArrayVec C) (d : Done O P C R) → Answers meaning c.opened c.log asked d → Answers meaning c.opened more asked d
    answer_stays room more asked (done.Steps s) a = a
    answer_stays room more asked done.NoRoom a = absurd (omega (arith, a, room))

    -- who found a log full didn't find this one full
    not_here : length c.log < c.opened.limit → (e f : Entry O P C R) → e.object ≡ todo.object → IsAnswer meaning w f → f.done ≡ done.NoRoom → done_on f.object (e ∷ []) ≡ []
    not_here room e f is a none = dite (ℕ_discrete e.object f.object)
        (λ same. absurd (let at : a.cell ≡ c = one_of a.cell c (slice_get w.cells todo.object) (ap (λ k. slice_get w.cells k) (sym is ∙ same) ∙ a.there) cell_is in
        let full : length a.cell.log ≡ a.cell.opened.limit = subst (λ d. Answers meaning a.cell.opened a.cell.log f.asked d) none a.answers in
        let full' : length c.log ≡ c.opened.limit = subst (λ (k : CellState O P C R). length k.log ≡ k.opened.limit) at full in omega (arith, full', room)))
        (λ ne. done_elsewhere f.object e ne)

    -- one event more
    added : length c.log < c.opened.limit → Turned (length w.cells) todo.object i c with_event cpu (finished cpu todo (done.Steps steps_now))
    added room =
        let e : Entry O P C R = entry_of todo (done.Steps steps_now) cpu.looks in
        let event : Event O P C R = record { cpu = i; steps = steps_now } in
        let able = todos.0 in
        let old = h.logs todo.object c cell_is in
        record {
          log = record {
            legal = legal_append meaning (meaning.opening c.opened.params) c.log (event ∷ []) old.legal (next_answers meaning (replay meaning c.opened.params c.log) todo.calls.items event able.some able.few refl, tt);
            within = omega (arith, length-append c.log (event ∷ []), room);
          };
          mine = done_append todo.object cpu.transcript (e ∷ []) ∙ (ap (λ l. done_on todo.object cpu.transcript ++ l) (done_here todo.object e refl)
              ∙ (ap (λ l. l ++ steps_now ∷ []) (taken_so_far todo.object c cell_is) ∙ sym (steps_push i c.log steps_now)));
          others = λ j ne. steps_other j i c.log steps_now (λ is. ne (sym is));
          elsewhere = λ y ne. done_append y cpu.transcript (e ∷ []) ∙ (ap (λ l. done_on y cpu.transcript ++ l) (done_elsewhere y e (λ is. ne (sym is))) ∙ append-nil (done_on y cpu.transcript));
          carries = λ asked d a. answer_stays room with_event.log asked d a;
          answers = λ w' there all. all_push (λ f. IsAnswer meaning w' f) cpu.transcript e all (record { cell = with_event; there = there; answers = answers_fulfil meaning (replay meaning c.opened.params c.log) todo.calls.items });
          full = full_push cpu.transcript e none_after (all_map (λ f a none. not_here room e f refl a none) cpu.transcript answered);
          able = left_able;
        }

    -- what becomes of the entry, by whether there is room
    ended : Turned (length w.cells) todo.object i c (record { opened = c.opened; lock = lock; log = with_done i c.log (outcome meaning c.opened c.log todo.calls.items) }) cpu (finished cpu todo (outcome meaning c.opened c.log todo.calls.items))
    ended = by (length c.log == c.opened.limit) refl
      where
        by : (b : Bool) → (length c.log == c.opened.limit) ≡ b
            → Turned (length w.cells) todo.object i c (record { opened = c.opened; lock = lock; log = with_done i c.log (cond b done.NoRoom (done.Steps steps_now)) }) cpu (finished cpu todo (cond b done.NoRoom (done.Steps steps_now)))
        by true e = refused (eqb-true (length c.log) c.opened.limit e)
        by false e = added (let old = h.logs todo.object c cell_is in let ne = eqb-false (length c.log) c.opened.limit e in let le = old.within in omega (arith, le, ne))

    pub world_turned : (s : StepDone) → SoundWorld meaning (world_after meaning w i c cpu todo (lock, s))
    world_turned s = by (ends_hold s) refl
      where
        by : (b : Bool) → ends_hold s ≡ b → SoundWorld meaning (record {
          cells = set w.cells todo.object (record { opened = c.opened; lock = lock; log = cond b (with_done i c.log (outcome meaning c.opened c.log todo.calls.items)) c.log });
          cpus = set w.cpus i (cond b (finished cpu todo (outcome meaning c.opened c.log todo.calls.items)) (record { todo = cpu.todo; transcript = cpu.transcript; looks = counted cpu.looks s }));
        })
        by true e = turned w h todo.object i c _ cpu _ cell_is cpu_is ended
        by false e = turned w h todo.object i c _ cpu _ cell_is cpu_is (going_on (counted cpu.looks s))

  -- every step keeps a world sound
  pub sound_step : (w : World O P C R) (i : ℕ) → SoundWorld meaning w → SoundWorld meaning (step meaning w i).0
  sound_step w i h = by_cpu (slice_get w.cpus i) refl
    where
      by_cell : (cpu : CpuState O P C R) → slice_get w.cpus i ≡ Some cpu → (todo : Todo O P C R) (more : List (Todo O P C R)) → cpu.todo ≡ todo ∷ more → (o : Option (CellState O P C R)) → slice_get w.cells todo.object ≡ o → SoundWorld meaning (step_on meaning w i cpu todo o).0
      by_cell cpu e todo more f None g = h
      by_cell cpu e todo more f (Some c) g = world_turned w h i c cpu todo more g e f (turn c.lock i).0 (turn c.lock i).1

      by_todo : (cpu : CpuState O P C R) → slice_get w.cpus i ≡ Some cpu → (todos : List (Todo O P C R)) → cpu.todo ≡ todos → SoundWorld meaning (step_of meaning w i cpu todos).0
      by_todo cpu e [] f = h
      by_todo cpu e (todo ∷ more) f = by_cell cpu e todo more f (slice_get w.cells todo.object) refl

      by_cpu : (o : Option (CpuState O P C R)) → slice_get w.cpus i ≡ o → SoundWorld meaning (step_by meaning w i o).0
      by_cpu None e = h
      by_cpu (Some cpu) e = by_todo cpu e cpu.todo refl

  pub sound_run : (is : List ℕ) (w : World O P C R) → SoundWorld meaning w → SoundWorld meaning (run meaning is w)
  sound_run [] w h = h
  sound_run (i ∷ is) w h = sound_run is (step meaning w i).0 (sound_step w i h)
