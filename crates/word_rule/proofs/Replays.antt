-- A cell's run is a run of the step machine: step by step the machine does what the run says.
use Rattle.std.proofs.{Common.{◌≡◌, ◌≢◌, ⊎_elim, ℕ, zero, suc, ◌+◌, ◌<◌, ◌≤◌, ◌==◌, Bool, true, false, cond, List, [], ◌∷◌, ◌++◌, map, length, drop, slice_get, slice_set, Option, Some, refl, sym, ap, ◌∙◌, subst, arith, append_assoc, append-nil, length-append, eq-eqb, ne_eqb}, lemmas.List.map-append, lemmas.List.Elements.filter-append}
use Rattle.std.specs.List.{AllByRecursion, range_with_len}
use mathlib.Core.Logic.{dite}
use native.Mathlib.Decide.{ℕ_discrete}
use Rattle.event_log.specs.{declared.object.SeqObject.Ghosts, declared.event.Step.Step, declared.event.Event.Event, declared.entry.Done.Done, declared.entry.Entry.Entry, declared.entry.Todo.Todo, Log.{Begins, answers, after, AreAnswers, Fulfils, LegalFrom, Legal, calls_of, of, replay, replay_from}}
use Rattle.event_log.proofs.Beginnings.{begins_rest}
use Rattle.word_rule.specs.{declared.machine.step_done.StepDone.StepDone, declared.view.TraceStep.TraceStep, Cell.Cell, Holds.Leaves, LockRuns.{events_in, lock_after, AreTurns, IsTraceStep, HasRun}, Locks.{Lock, opening_lock, turn}, Machine.Opening.opening_cpu, Machine.SoundWorld.entries_of, Machine.World.{World, CellState, CpuState, with_done, entry_of, left, finished, counted, outcome, cell_after, cpu_after, world_after, step_on, step_of, step_by, step, run}, Replay.{todo_of, cell_with, replay_world, entries_left, DoesStep, DoesRun, AllDoRun, steps_done, replayed, IsReplay}, StepKinds.ends_hold}
use Rattle.sound_run.specs.Sound.{Opened, done_on, steps_by}
use Rattle.sound_run.proofs.{Entries.{done_append, done_here, done_without}, Slices.{get_set_same, get_set_other}}
use Rattle.word_rule.proofs.RunOrder.{first_of, behind_of}
use Rattle.event_log.specs.declared.entry.Done.TheVariants as done

begins_head : {A : Type 0} (x : A) (a b : List A) → Begins (x ∷ a) b → b ≡ x ∷ drop 1 b
begins_head {A = A} x a b h = by b (begins_rest (x ∷ a) b h)
  where
    by : (b : List A) → b ≡ x ∷ (a ++ drop (suc (length a)) b) → b ≡ x ∷ drop 1 b
    by b is = is ∙ ap (λ l. x ∷ drop 1 l) (sym is)

begins_tail : {A : Type 0} (x : A) (a b : List A) → Begins (x ∷ a) (x ∷ b) → Begins a b
begins_tail x a b h = record { start = ap (drop 1) h.start }

module _ {O P C R : Type 0} (meaning : Ghosts O P C R) where
  -- steps that are the object's answers, and fulfil the calls, are what the calls are answered
  answered_again : (s : O) (xs : List (Step O P C R)) (calls : List C) → AreAnswers meaning s xs → Fulfils meaning calls xs → answers meaning s calls ≡ xs
  answered_again s [] calls h f = ap (answers meaning s) (sym (f.whole refl))
  answered_again s (x ∷ []) calls h f =
      let more : List C = drop 1 calls in
      let is : calls ≡ x.call ∷ more = begins_rest (x.call ∷ []) calls f.beginning in
      let here : (let y : Step O P C R = record { call = x.call; reply = (meaning.answer s x.call).1 } in y) ≡ x = ap (λ r. record { call = x.call; reply = r }) (sym h) in
      ap (answers meaning s) is ∙ λ k. here k ∷ only more is f.whole k
    where
      only : (more : List C) → calls ≡ x.call ∷ more → (meaning.refusing x.reply ≡ false → x.call ∷ [] ≡ calls) → cond (meaning.refusing (meaning.answer s x.call).1) [] (answers meaning (meaning.answer s x.call).0 more) ≡ []
      only more is whole = by (meaning.refusing x.reply) refl
        where
          by : (b : Bool) → meaning.refusing x.reply ≡ b → cond (meaning.refusing (meaning.answer s x.call).1) [] (answers meaning (meaning.answer s x.call).0 more) ≡ []
          by true e = ap (λ b. cond b [] (answers meaning (meaning.answer s x.call).0 more)) (ap meaning.refusing (sym h) ∙ e)
          by false e = let none : [] ≡ more = ap (drop 1) (whole e ∙ is) in
              ap (λ b. cond b [] (answers meaning (meaning.answer s x.call).0 more)) (ap meaning.refusing (sym h) ∙ e) ∙ ap (answers meaning (meaning.answer s x.call).0) (sym none)
  answered_again s (x ∷ y ∷ ys) calls h f =
      let more : List C = drop 1 calls in
      let is : calls ≡ x.call ∷ more = begins_head x.call (calls_of (y ∷ ys)) calls f.beginning in
      let here : (let z : Step O P C R = record { call = x.call; reply = (meaning.answer s x.call).1 } in z) ≡ x = ap (λ r. record { call = x.call; reply = r }) (sym h.0) in
      let rest = answered_again (meaning.answer s x.call).0 (y ∷ ys) more h.2 record { beginning = begins_tail x.call (calls_of (y ∷ ys)) more (subst (Begins (x.call ∷ calls_of (y ∷ ys))) is f.beginning); whole = λ e. ap (drop 1) (f.whole e ∙ is) } in
      let goes : meaning.refusing (meaning.answer s x.call).1 ≡ false = ap meaning.refusing (sym h.0) ∙ h.1 in
      ap (answers meaning s) is ∙ λ k. here k ∷ (ap (λ b. cond b [] (answers meaning (meaning.answer s x.call).0 more)) goes ∙ rest) k

  -- the end of a legal log is legal from the replay of its beginning on
  legal_rest : (s : O) (xs ys : List (Event O P C R)) → LegalFrom meaning s (xs ++ ys) → LegalFrom meaning (replay_from meaning s xs) ys
  legal_rest s [] ys h = h
  legal_rest s (x ∷ xs) ys h = legal_rest (after meaning s x.steps.list.items) xs ys h.1

module _ {O P C R : Type 0} where
  -- events of one CPU are no other's
  of_others : (j cpu : ℕ) (es : List (Event O P C R)) → AllByRecursion (λ e. e.cpu ≡ cpu) es → cpu ≢ j → of j es ≡ []
  of_others j cpu [] all ne = refl
  of_others j cpu (e ∷ es) all ne = ap (λ b. cond b (e ∷ of j es) (of j es)) (ne_eqb e.cpu j (λ is. ne (sym all.0 ∙ is))) ∙ of_others j cpu es all.1 ne

  steps_others : (j cpu : ℕ) (past es : List (Event O P C R)) → AllByRecursion (λ e. e.cpu ≡ cpu) es → cpu ≢ j → steps_by j (past ++ es) ≡ steps_by j past
  steps_others j cpu past es all ne = ap (map (λ (e : Event O P C R). e.steps)) (filter-append (λ (e : Event O P C R). e.cpu == j) past es ∙ (ap (λ l. of j past ++ l) (of_others j cpu es all ne) ∙ append-nil (of j past)))

-- a list of images of the first numbers, read at a place
get_range : {X : Type 0} (f : ℕ → X) (a n i : ℕ) → i < n → slice_get (map f (range_with_len a n)) i ≡ Some (f (a + i))
get_range f a zero i lt = absurd (omega (arith, lt))
get_range f a (suc n) zero lt = let here : a ≡ a + 0 = omega arith in ap (λ k. Some (f k)) here
get_range f a (suc n) (suc i) lt = let here : a + 1 + i ≡ a + suc i = omega arith in get_range f (a + 1) n i (omega (arith, lt)) ∙ ap (λ k. Some (f k)) here

module _ {O P C R : Type 0} (meaning : Ghosts O P C R) (h : Cell O P C R) (rest : ℕ → List (Todo O P C R)) where
  -- a CPU in the middle of the replay: what it has still to do, and what it has done
  pub record CpuStands (log past : List (Event O P C R)) (ms : List (TraceStep (Event O P C R))) (i : ℕ) (o : Option (CpuState O P C R)) : Type 0 where
    pub cpu : CpuState O P C R
    pub there : o ≡ Some cpu
    pub does : DoesRun meaning i h.limit log ms cpu.todo (rest i)
    pub did : done_on 0 cpu.transcript ≡ steps_by i past

  -- the world in the middle of the replay
  pub record Stands (l : Lock) (log past : List (Event O P C R)) (ms : List (TraceStep (Event O P C R))) (w : World O P C R) : Type 0 where
    pub cells : w.cells ≡ cell_with h l log ∷ []
    pub cpus : (i : ℕ) → i < h.numbers → CpuStands log past ms i (slice_get w.cpus i)

  -- the step of a CPU that has an entry on the one cell
  step_is : (w : World O P C R) (i : ℕ) (l : Lock) (log : List (Event O P C R)) (cpu : CpuState O P C R) (calls : List C) (more : List (Todo O P C R)) → w.cells ≡ cell_with h l log ∷ [] → slice_get w.cpus i ≡ Some cpu → cpu.todo ≡ todo_of calls ∷ more
      → step meaning w i ≡ (world_after meaning w i (cell_with h l log) cpu (todo_of calls) (turn l i), (turn l i).1)
  step_is w i l log cpu calls more cells there todo =
      ap (λ (o : Option (CpuState O P C R)). step_by meaning w i o) there
      ∙ (ap (λ (t : List (Todo O P C R)). step_of meaning w i cpu t) todo
      ∙ ap (λ (cs : List (CellState O P C R)). step_on meaning w i cpu (todo_of calls) (slice_get cs 0)) cells)

  module _ (w : World O P C R) (l : Lock) (log past : List (Event O P C R)) (m : TraceStep (Event O P C R)) (ms : List (TraceStep (Event O P C R))) (stands : Stands l log past (m ∷ ms) w) (is_step : IsTraceStep h.numbers m) where
    abbrev opened : Opened P
    opened = record { params = h.params; limit = h.limit }

    -- the log and the CPU after the step are what it takes
    next_stands : (t : Lock × StepDone) (calls : List C) (mine : CpuStands log past (m ∷ ms) m.cpu (slice_get w.cpus m.cpu)) → (cell_after meaning (cell_with h l log) m.cpu (todo_of calls) t).log ≡ log ++ m.events
        → CpuStands (log ++ m.events) (past ++ m.events) ms m.cpu (Some (cpu_after mine.cpu (todo_of calls) t.1 (outcome meaning opened log calls)))
        → Stands t.0 (log ++ m.events) (past ++ m.events) ms (world_after meaning w m.cpu (cell_with h l log) mine.cpu (todo_of calls) t)
    next_stands t calls mine grows goes =
        let new : CpuState O P C R = cpu_after mine.cpu (todo_of calls) t.1 (outcome meaning opened log calls) in
        record {
          cells = ap (λ (cs : List (CellState O P C R)). slice_set cs 0 (cell_after meaning (cell_with h l log) m.cpu (todo_of calls) t)) stands.cells ∙ ap (λ z. cell_with h t.0 z ∷ []) grows;
          cpus = λ j lt. dite (ℕ_discrete m.cpu j)
              (λ is. subst (λ k. CpuStands (log ++ m.events) (past ++ m.events) ms k (slice_get (slice_set w.cpus m.cpu new) k)) is (subst (CpuStands (log ++ m.events) (past ++ m.events) ms m.cpu) (sym (get_set_same w.cpus m.cpu new mine.cpu mine.there)) goes))
              (λ ne. let old = stands.cpus j lt in record {
                cpu = old.cpu;
                there = get_set_other w.cpus m.cpu j new ne ∙ old.there;
                does = subst (λ t. DoesRun meaning j h.limit (log ++ m.events) ms t (rest j)) (old.does.2 ne) old.does.3;
                did = old.did ∙ sym (steps_others j m.cpu past m.events is_step.own ne);
              });
        }

    abbrev mine : CpuStands log past (m ∷ ms) m.cpu (slice_get w.cpus m.cpu)
    mine = stands.cpus m.cpu is_step.inside

    -- an outcome that leaves the step's events
    record Becomes (d : Done O P C R) : Type 0 where
      grows : with_done m.cpu log d ≡ log ++ m.events
      did : (asked : List C) (looks : ℕ) → done_on 0 (entry_of (todo_of asked) d looks ∷ []) ≡ steps_by m.cpu m.events

    becomes_none : m.events ≡ [] → Becomes done.NoRoom
    becomes_none none = record {
      grows = sym (append-nil log) ∙ ap (λ z. log ++ z) (sym none);
      did = λ asked looks. done_without 0 (entry_of (todo_of asked) done.NoRoom looks) refl ∙ ap (steps_by m.cpu) (sym none);
    }

    becomes_one : (e : Event O P C R) → m.events ≡ e ∷ [] → Becomes (done.Steps e.steps)
    becomes_one e one =
        let own : e.cpu ≡ m.cpu = (subst (AllByRecursion (λ (x : Event O P C R). x.cpu ≡ m.cpu)) one is_step.own).0 in
        let same : (let x : Event O P C R = record { cpu = m.cpu; steps = e.steps } in x) ≡ e = ap (λ c. record { cpu = c; steps = e.steps }) (sym own) in
        record {
          grows = ap (λ x. log ++ x ∷ []) same ∙ ap (λ z. log ++ z) (sym one);
          did = λ asked looks. done_here 0 (entry_of (todo_of asked) (done.Steps e.steps) looks) refl
              ∙ (ap (λ b. map (λ (x : Event O P C R). x.steps) (cond b (e ∷ []) [])) (sym (eq-eqb e.cpu m.cpu own)) ∙ ap (steps_by m.cpu) (sym one));
        }

    -- what becomes of the calls that left the hold's events is these, as the log is legal and has room; or nothing, where the log is full
    becomes : (calls : List C) (more : List (Event O P C R)) → LegalFrom meaning (replay meaning h.params log) (m.events ++ more) → length (log ++ m.events) ≤ h.limit → Leaves meaning h.limit log calls m.events → Becomes (outcome meaning opened log calls)
    becomes calls more legal fits = ⊎_elim
        (λ (one : (e : Event O P C R) × (m.events ≡ e ∷ []) × Fulfils meaning calls e.steps.list.items).
        let s : O = replay meaning h.params log in
        let e : Event O P C R = one.0 in
        let from : LegalFrom meaning s (e ∷ more) = subst (λ es. LegalFrom meaning s (es ++ more)) one.1 legal in
        let long : length m.events ≡ 1 = ap length one.1 in
        let room : length log ≢ h.limit = λ full. absurd (omega (arith, long, fits, full, length-append log m.events)) in
        let same : answers meaning s calls ≡ e.steps.list.items = answered_again meaning s e.steps.list.items calls from.0.answered one.2 in
        let made : List (Step O P C R) → Done O P C R = λ xs. done.Steps record { list = record { items = xs } } in
        let is : outcome meaning opened log calls ≡ done.Steps e.steps = ap (λ b. cond b done.NoRoom (made (answers meaning s calls))) (ne_eqb (length log) h.limit room) ∙ ap made same in
        subst Becomes (sym is) (becomes_one e one.1))
        (λ (none : (m.events ≡ []) × (length log ≡ h.limit)).
        let is : outcome meaning opened log calls ≡ done.NoRoom = ap (λ b. cond b done.NoRoom (done.Steps record { list = record { items = answers meaning (replay meaning h.params log) calls } })) (eq-eqb (length log) h.limit none.1) in
        subst Becomes (sym is) (becomes_none none.0))

    -- the entry that the CPU does
    abbrev does : DoesStep meaning h.limit log m mine.cpu.todo mine.does.0
    does = mine.does.1 refl

    module _ (step_same : m.step ≡ (turn l m.cpu).1) where
      -- a step that ends no hold
      goes_on : ends_hold m.step ≡ false → (step meaning w m.cpu).1 ≡ m.step × Stands (turn l m.cpu).0 (log ++ m.events) (past ++ m.events) ms (step meaning w m.cpu).0
      goes_on not =
          let t : Lock × StepDone = turn l m.cpu in
          let calls : List C = does.calls in
          let d : Done O P C R = outcome meaning opened log calls in
          let none : m.events ≡ [] = is_step.silent not in
          let is = step_is w m.cpu l log mine.cpu calls does.more stands.cells mine.there does.is in
          let ends : ends_hold t.1 ≡ false = ap ends_hold (sym step_same) ∙ not in (
            ap (λ (r : World O P C R × StepDone). r.1) is ∙ sym step_same,
            subst (λ (r : World O P C R × StepDone). Stands t.0 (log ++ m.events) (past ++ m.events) ms r.0) (sym is)
                (next_stands t calls mine
                (ap (λ b. cond b (with_done m.cpu log d) log) ends ∙ (sym (append-nil log) ∙ ap (λ z. log ++ z) (sym none)))
                (subst (λ b. CpuStands (log ++ m.events) (past ++ m.events) ms m.cpu (Some (cond b (finished mine.cpu (todo_of calls) d) (record { todo = mine.cpu.todo; transcript = mine.cpu.transcript; looks = counted mine.cpu.looks t.1 })))) (sym ends)
                record {
                  cpu = record { todo = mine.cpu.todo; transcript = mine.cpu.transcript; looks = counted mine.cpu.looks t.1 };
                  there = refl;
                  does = subst (λ z. DoesRun meaning m.cpu h.limit (log ++ m.events) ms z (rest m.cpu)) (does.goes not) mine.does.3;
                  did = mine.did ∙ ap (steps_by m.cpu) (sym (append-nil past) ∙ ap (λ z. past ++ z) (sym none));
                })),
          )

      -- a step that ends one
      ends_one : (more : List (Event O P C R)) → LegalFrom meaning (replay meaning h.params log) (m.events ++ more) → length (log ++ m.events) ≤ h.limit → ends_hold m.step ≡ true
          → (step meaning w m.cpu).1 ≡ m.step × Stands (turn l m.cpu).0 (log ++ m.events) (past ++ m.events) ms (step meaning w m.cpu).0
      ends_one more legal fits ending =
          let t : Lock × StepDone = turn l m.cpu in
          let calls : List C = does.calls in
          let left_by = does.ended ending in
          let d : Done O P C R = outcome meaning opened log calls in
          let is = step_is w m.cpu l log mine.cpu calls does.more stands.cells mine.there does.is in
          let ends : ends_hold t.1 ≡ true = ap ends_hold (sym step_same) ∙ ending in
          let b : Becomes d = becomes calls more legal fits left_by.0 in
          let e : Entry O P C R = entry_of (todo_of calls) d mine.cpu.looks in (
            ap (λ (r : World O P C R × StepDone). r.1) is ∙ sym step_same,
            subst (λ (r : World O P C R × StepDone). Stands t.0 (log ++ m.events) (past ++ m.events) ms r.0) (sym is)
                (next_stands t calls mine
                (ap (λ x. cond x (with_done m.cpu log d) log) ends ∙ b.grows)
                (subst (λ x. CpuStands (log ++ m.events) (past ++ m.events) ms m.cpu (Some (cond x (finished mine.cpu (todo_of calls) d) (record { todo = mine.cpu.todo; transcript = mine.cpu.transcript; looks = counted mine.cpu.looks t.1 })))) (sym ends)
                record {
                  cpu = finished mine.cpu (todo_of calls) d;
                  there = refl;
                  does = subst (λ z. DoesRun meaning m.cpu h.limit (log ++ m.events) ms z (rest m.cpu)) (left_by.1 ∙ sym (ap left does.is)) mine.does.3;
                  did = done_append 0 mine.cpu.transcript (e ∷ []) ∙ ((λ k. mine.did k ++ b.did calls mine.cpu.looks k)
                      ∙ sym (ap (map (λ (x : Event O P C R). x.steps)) (filter-append (λ (x : Event O P C R). x.cpu == m.cpu) past m.events) ∙ map-append (λ (x : Event O P C R). x.steps) (of m.cpu past) (of m.cpu m.events)));
                })),
          )

      steps_once : (more : List (Event O P C R)) → LegalFrom meaning (replay meaning h.params log) (m.events ++ more) → length (log ++ m.events) ≤ h.limit
          → (step meaning w m.cpu).1 ≡ m.step × Stands (turn l m.cpu).0 (log ++ m.events) (past ++ m.events) ms (step meaning w m.cpu).0
      steps_once more legal fits = by (ends_hold m.step) refl
        where
          by : (b : Bool) → ends_hold m.step ≡ b → (step meaning w m.cpu).1 ≡ m.step × Stands (turn l m.cpu).0 (log ++ m.events) (past ++ m.events) ms (step meaning w m.cpu).0
          by true e = ends_one more legal fits e
          by false e = goes_on e

  -- step by step the machine does what is left of the run
  replays : (ms : List (TraceStep (Event O P C R))) (w : World O P C R) (l : Lock) (log past whole : List (Event O P C R)) → Stands l log past ms w → AllByRecursion (IsTraceStep h.numbers) ms → AreTurns ms l
      → log ++ events_in ms ≡ whole → Legal meaning h.params whole → length whole ≤ h.limit
      → (steps_done meaning (map (λ m. m.cpu) ms) w ≡ map (λ m. m.step) ms) × Stands (lock_after ms l) whole (past ++ events_in ms) [] (run meaning (map (λ m. m.cpu) ms) w)
  replays [] w l log past whole stands each are is legal fits = (refl, subst (λ (z : _ × _). Stands l z.0 z.1 [] w) (λ k. ((sym (append-nil log) ∙ is) k, sym (append-nil past) k)) stands)
  replays (m ∷ ms) w l log past whole stands each are is legal fits =
      let step_same : m.step ≡ (turn l m.cpu).1 = ap (first_of (turn l m.cpu).1) are in
      let total : length log + length (m.events ++ events_in ms) ≡ length whole = sym (length-append log (m.events ++ events_in ms)) ∙ ap length is in
      let within : length (log ++ m.events) ≤ h.limit = omega (arith, total, fits, length-append m.events (events_in ms), length-append log m.events) in
      let next = steps_once w l log past m ms stands each.0 step_same (events_in ms) (legal_rest meaning (meaning.opening h.params) log (m.events ++ events_in ms) (subst (Legal meaning h.params) (sym is) legal)) within in
      let more = replays ms (step meaning w m.cpu).0 (turn l m.cpu).0 (log ++ m.events) (past ++ m.events) whole next.1 each.1 (ap behind_of are) (append_assoc log m.events (events_in ms) ∙ is) legal fits in
      ((λ k. next.0 k ∷ more.0 k), subst (λ z. Stands (lock_after ms (turn l m.cpu).0) whole z [] (run meaning (map (λ x. x.cpu) ms) (step meaning w m.cpu).0)) (append_assoc past m.events (events_in ms)) more.1)

  module _ (script : ℕ → List (Todo O P C R)) (log : List (Event O P C R)) (done : List (TraceStep (Event O P C R))) (ran : HasRun h log done) (legal : Legal meaning h.params log) (fits : length log ≤ h.limit) (all : AllDoRun meaning h done script rest) (first : ℕ) where
    -- before the first step
    begins : Stands (opening_lock h.kind first) h.opening [] done (replay_world h script first)
    begins = record {
      cells = refl;
      cpus = λ i lt. let here : 0 + i ≡ i = omega arith in record {
        cpu = opening_cpu (script i);
        there = get_range (λ k. opening_cpu (script k)) 0 h.numbers i lt ∙ ap (λ k. Some (opening_cpu (script k))) here;
        does = all i lt;
        did = refl;
      };
    }

    all_replays : (steps_done meaning (map (λ m. m.cpu) done) (replay_world h script first) ≡ map (λ m. m.step) done) × Stands (lock_after done (opening_lock h.kind first)) log (events_in done) [] (replayed meaning h script first done)
    all_replays = replays done (replay_world h script first) (opening_lock h.kind first) h.opening [] log begins ran.each (ran.turns first) (sym ran.left) legal fits

    pub is_replay : IsReplay meaning h script rest first log done
    is_replay = record {
      steps = all_replays.0;
      cells = all_replays.1.cells;
      transcripts = λ i lt. let s = all_replays.1.cpus i lt in ap (λ (o : Option (CpuState O P C R)). done_on 0 (entries_of o)) s.there ∙ s.did;
      left = λ i lt. let s = all_replays.1.cpus i lt in ap entries_left s.there ∙ s.does;
    }
