-- A step of the machine against a step of the world.
use Rattle.std.proofs.{Common.{◌≡◌, ◌≢◌, ℕ, zero, suc, ◌+◌, ◌<◌, Bool, true, false, cond, List, [], ◌∷◌, ◌++◌, length, drop, get_or, slice_get, vec_len, vec_capacity, Vec, Option, Some, None, refl, sym, ap, ◌∙◌, subst, arith, add-one}, Math.ListN.set, lemmas.List.length-set}
use Rattle.std.specs.{List.AllByRecursion, declared.alloc.Global.Global}
use mathlib.Core.Logic.{dite}
use native.Mathlib.Decide.{ℕ_discrete}
use Rattle.event_log.specs.{declared.object.SeqObject.Ghosts, declared.entry.Todo.Todo, History.{History, IsKept}}
use Rattle.event_log.proofs.Lists.{some_at}
use Rattle.word_rule.specs.{declared.machine.cell_spec.CellSpec.CellSpec, declared.machine.lock_words.LockWords.LockWords, declared.machine.progress.Progress.Progress, declared.machine.step_done.StepDone.StepDone, Locks.{Lock, turn}, Rule.LockStates.RepresentsLock, Machine.Shown.{MachineParts, RepresentsCell, ShowsCpu, Represents, Runs}, Machine.SoundWorld.IsTodo, StepKinds.ends_hold, Machine.World.{World, CellState, CpuState, with_done, entry_of, left, finished, counted, outcome, cell_after, cpu_after, world_after, step_on, step_of, step_by, step}}
use Rattle.sound_run.specs.Sound.{Opened}
use Rattle.sound_run.proofs.Slices.{get_set_same, get_set_other, read_get, one_of}
use Rattle.word_rule.specs.declared.machine.step_done.StepDone.TheVariants as steps

pub drop_at : {X : Type 0} (xs : List X) (i : ℕ) (x : X) → slice_get xs i ≡ Some x → drop i xs ≡ x ∷ drop (suc i) xs
drop_at [] i x e = cc
drop_at (y ∷ ys) zero x e = ap (λ z. z ∷ ys) (let f : y ≡ x = cc in f)
drop_at (y ∷ ys) (suc i) x e = drop_at ys i x e

drop_none : {X : Type 0} (xs : List X) (i : ℕ) → slice_get xs i ≡ None → drop i xs ≡ []
drop_none [] zero e = refl
drop_none [] (suc i) e = refl
drop_none (y ∷ ys) zero e = cc
drop_none (y ∷ ys) (suc i) e = drop_none ys i e

module _ {O P C R : Type 0} where
  -- what a step leaves of a CPU that does an entry, and of the object there
  pub record Counts (meaning : Ghosts O P C R) (i : ℕ) (todo : Todo O P C R) (s : StepDone) (old new : History O P C R) (p q : Progress O P C R) : Type 0 where
    pub params : new.params ≡ old.params
    pub limit : new.limit ≡ old.limit
    pub log : new.log ≡ cond (ends_hold s) (with_done i old.log (outcome meaning record { params = old.params; limit = old.limit } old.log todo.calls.items)) old.log
    pub kept : IsKept meaning new
    pub at : q.at ≡ cond (ends_hold s) (p.at + 1) p.at
    pub transcript : q.transcript.items ≡ cond (ends_hold s) (p.transcript.items ++ entry_of todo (outcome meaning record { params = old.params; limit = old.limit } old.log todo.calls.items) p.looks ∷ []) p.transcript.items
    pub looks : q.looks ≡ cond (ends_hold s) 0 (counted p.looks s)
    pub room : vec_capacity q.transcript ≡ vec_capacity p.transcript

module _ {O P C R : Type 0} (meaning : Ghosts O P C R) (cells : List (CellSpec O P C R)) (locks : List LockWords) (scripts : List (Vec (Todo O P C R) Global)) (done : List (Progress O P C R)) where
  abbrev pub kept_parts : MachineParts O P C R
  kept_parts = record { cells = cells; locks = locks; scripts = scripts; done = done }

  module _ (i : ℕ) (lt : i < length scripts) (p : Progress O P C R) (p_is : p ≡ get_or done i p) (script : Vec (Todo O P C R) Global) (script_is : script ≡ get_or scripts i script) where
    script_there : slice_get scripts i ≡ Some script
    script_there = read_get scripts i script lt script_is

    module _ (w : World O P C R) (h : Represents meaning kept_parts w) where
      p_there : slice_get done i ≡ Some p
      p_there = read_get done i p (omega (arith, lt, h.scripts, h.done)) p_is

      pub the_cpu : (cpu : CpuState O P C R) × (slice_get w.cpus i ≡ Some cpu)
      the_cpu = some_at w.cpus i (omega (arith, lt, h.scripts))

      shown_cpu : ShowsCpu script p the_cpu.0
      shown_cpu = h.each_cpu i script p the_cpu.0 script_there p_there the_cpu.1

      -- a script that is done
      pub over : slice_get script.items p.at ≡ None → step meaning w i ≡ (w, steps.Idle)
      over none =
          ap (λ (o : Option (CpuState O P C R)). step_by meaning w i o) the_cpu.1
          ∙ ap (λ (t : List (Todo O P C R)). step_of meaning w i the_cpu.0 t) (sym shown_cpu.todo ∙ drop_none script.items p.at none)

      pub todo_is : (todo : Todo O P C R) → slice_get script.items p.at ≡ Some todo → the_cpu.0.todo ≡ todo ∷ drop (suc p.at) script.items
      todo_is todo e = sym shown_cpu.todo ∙ drop_at script.items p.at todo e

    module _ (todo : Todo O P C R) (todo_at : slice_get script.items p.at ≡ Some todo) where
      -- the entry at hand can be done
      pub able : Runs meaning kept_parts → IsTodo (length cells) todo
      able r =
          let a = subst (λ (l : List (Todo O P C R)). AllByRecursion (λ t. IsTodo (length r.world.cells) t) l) (todo_is r.world r.shows todo todo_at) (r.sound.able i (the_cpu r.world r.shows).0 (the_cpu r.world r.shows).1) in
          subst (λ n. IsTodo n todo) (sym r.shows.cells) a.0

      module _ (on_cell : todo.object < length cells) (spec : CellSpec O P C R) (spec_is : spec ≡ get_or cells todo.object spec) (lock : LockWords) (lock_is : lock ≡ get_or locks todo.object lock) (w : World O P C R) (h : Represents meaning kept_parts w) where
        pub the_cell : (c : CellState O P C R) × (slice_get w.cells todo.object ≡ Some c)
        the_cell = some_at w.cells todo.object (omega (arith, on_cell, h.cells))

        pub shown_cell : RepresentsCell meaning (length w.cpus) spec lock the_cell.0
        shown_cell = h.each_cell todo.object spec lock the_cell.0 (read_get cells todo.object spec on_cell spec_is) (read_get locks todo.object lock (omega (arith, on_cell, h.cells, h.locks)) lock_is) the_cell.1

        pub cpus_are : vec_len lock.stages ≡ length w.cpus
        cpus_are = let s = shown_cell.lock in omega (arith, s.size, lock.stages.ok.0)

        pub shown_lock : RepresentsLock (vec_len lock.stages) lock.kind lock.words.items lock.stages.items the_cell.0.lock
        shown_lock = subst (λ n. RepresentsLock n lock.kind lock.words.items lock.stages.items the_cell.0.lock) (sym cpus_are) shown_cell.lock

        pub step_is : step meaning w i ≡ (world_after meaning w i the_cell.0 (the_cpu w h).0 todo (turn the_cell.0.lock i), (turn the_cell.0.lock i).1)
        step_is =
            ap (λ (o : Option (CpuState O P C R)). step_by meaning w i o) (the_cpu w h).1
            ∙ ap (λ (t : List (Todo O P C R)). step_of meaning w i (the_cpu w h).0 t) (todo_is w h todo todo_at)
            ∙ ap (λ (o : Option (CellState O P C R)). step_on meaning w i (the_cpu w h).0 todo o) the_cell.1

        pub done_is : (s : StepDone) → s ≡ (turn the_cell.0.lock i).1 → s ≡ (step meaning w i).1
        done_is s e = e ∙ ap (λ (r : World O P C R × StepDone). r.1) (sym step_is)

        module _ (s : StepDone) (lock' : LockWords) (spec' : CellSpec O P C R) (p' : Progress O P C R) (s_is : s ≡ (turn the_cell.0.lock i).1)
            (turned : RepresentsLock (vec_len lock.stages) lock'.kind lock'.words.items lock'.stages.items (turn the_cell.0.lock i).0) (k : Counts meaning i todo s spec.logged spec'.logged p p') where
          abbrev c0 : CellState O P C R
          c0 = the_cell.0

          opened_is : (let o : Opened P = record { params = spec.logged.params; limit = spec.logged.limit } in o) ≡ c0.opened
          opened_is = λ j. record { params = shown_cell.params j; limit = shown_cell.limit j }

          outcome_is : outcome meaning record { params = spec.logged.params; limit = spec.logged.limit } spec.logged.log todo.calls.items ≡ outcome meaning c0.opened c0.log todo.calls.items
          outcome_is = λ j. outcome meaning (opened_is j) (shown_cell.log j) todo.calls.items

          new_cell : RepresentsCell meaning (length w.cpus) spec' lock' (cell_after meaning c0 i todo (turn c0.lock i))
          new_cell = record {
            lock = subst (λ n. RepresentsLock n lock'.kind lock'.words.items lock'.stages.items (turn c0.lock i).0) cpus_are turned;
            params = k.params ∙ shown_cell.params;
            limit = k.limit ∙ shown_cell.limit;
            log = k.log ∙ (λ j. cond (ends_hold (s_is j)) (with_done i (shown_cell.log j) (outcome_is j)) (shown_cell.log j));
            kept = k.kept;
          }

          new_cpu : ShowsCpu script p' (cpu_after (the_cpu w h).0 todo (turn c0.lock i).1 (outcome meaning c0.opened c0.log todo.calls.items))
          new_cpu = by (ends_hold (turn c0.lock i).1) refl
            where
              q : ShowsCpu script p (the_cpu w h).0
              q = shown_cpu w h

              ends : (b : Bool) → ends_hold (turn c0.lock i).1 ≡ b → ends_hold s ≡ b
              ends b e = ap ends_hold s_is ∙ e

              by : (b : Bool) → ends_hold (turn c0.lock i).1 ≡ b
                  → ShowsCpu script p' (cond b (finished (the_cpu w h).0 todo (outcome meaning c0.opened c0.log todo.calls.items)) (record { todo = (the_cpu w h).0.todo; transcript = (the_cpu w h).0.transcript; looks = counted (the_cpu w h).0.looks (turn c0.lock i).1 }))
              by true e = record {
                todo = ap (λ n. drop n script.items) (k.at ∙ (ap (λ b. cond b (p.at + 1) p.at) (ends true e) ∙ add-one p.at)) ∙ sym (ap left (todo_is w h todo todo_at));
                transcript = k.transcript ∙ (ap (λ b. cond b (p.transcript.items ++ entry_of todo (outcome meaning record { params = spec.logged.params; limit = spec.logged.limit } spec.logged.log todo.calls.items) p.looks ∷ []) p.transcript.items) (ends true e)
                    ∙ (λ j. q.transcript j ++ entry_of todo (outcome_is j) (q.looks j) ∷ []));
                looks = k.looks ∙ ap (λ b. cond b 0 (counted p.looks s)) (ends true e);
              }
              by false e = record {
                todo = ap (λ n. drop n script.items) (k.at ∙ ap (λ b. cond b (p.at + 1) p.at) (ends false e)) ∙ q.todo;
                transcript = k.transcript ∙ (ap (λ b. cond b (p.transcript.items ++ entry_of todo (outcome meaning record { params = spec.logged.params; limit = spec.logged.limit } spec.logged.log todo.calls.items) p.looks ∷ []) p.transcript.items) (ends false e) ∙ q.transcript);
                looks = k.looks ∙ (ap (λ b. cond b 0 (counted p.looks s)) (ends false e) ∙ (λ j. counted (q.looks j) (s_is j)));
              }

          abbrev next_world : World O P C R
          next_world = world_after meaning w i c0 (the_cpu w h).0 todo (turn c0.lock i)

          abbrev next_parts : MachineParts O P C R
          next_parts = record { cells = set cells todo.object spec'; locks = set locks todo.object lock'; scripts = scripts; done = set done i p' }

          each_cell' : (x : ℕ) (a : CellSpec O P C R) (b : LockWords) (c : CellState O P C R) → slice_get (set cells todo.object spec') x ≡ Some a → slice_get (set locks todo.object lock') x ≡ Some b → slice_get next_world.cells x ≡ Some c → RepresentsCell meaning (length next_world.cpus) a b c
          each_cell' x a b c ea eb ec = subst (λ n. RepresentsCell meaning n a b c) (sym (length-set w.cpus i _)) (dite (ℕ_discrete x todo.object) here there)
            where
              here : x ≡ todo.object → RepresentsCell meaning (length w.cpus) a b c
              here e =
                  let fa = one_of spec' a (slice_get (set cells todo.object spec') x) (subst (λ y. slice_get (set cells todo.object spec') y ≡ Some spec') (sym e) (get_set_same cells todo.object spec' spec (read_get cells todo.object spec on_cell spec_is))) ea in
                  let fb = one_of lock' b (slice_get (set locks todo.object lock') x) (subst (λ y. slice_get (set locks todo.object lock') y ≡ Some lock') (sym e) (get_set_same locks todo.object lock' lock (read_get locks todo.object lock (omega (arith, on_cell, h.cells, h.locks)) lock_is))) eb in
                  let fc = one_of (cell_after meaning c0 i todo (turn c0.lock i)) c (slice_get next_world.cells x) (subst (λ y. slice_get next_world.cells y ≡ Some (cell_after meaning c0 i todo (turn c0.lock i))) (sym e) (get_set_same w.cells todo.object (cell_after meaning c0 i todo (turn c0.lock i)) c0 the_cell.1)) ec in
                  subst (λ (z : CellSpec O P C R × LockWords × CellState O P C R). RepresentsCell meaning (length w.cpus) z.0 z.1 z.2) (λ j. (fa j, fb j, fc j)) new_cell

              there : x ≢ todo.object → RepresentsCell meaning (length w.cpus) a b c
              there ne = h.each_cell x a b c (sym (get_set_other cells todo.object x spec' (λ e. ne (sym e))) ∙ ea) (sym (get_set_other locks todo.object x lock' (λ e. ne (sym e))) ∙ eb) (sym (get_set_other w.cells todo.object x (cell_after meaning c0 i todo (turn c0.lock i)) (λ e. ne (sym e))) ∙ ec)

          each_cpu' : (x : ℕ) (a : Vec (Todo O P C R) Global) (b : Progress O P C R) (c : CpuState O P C R) → slice_get scripts x ≡ Some a → slice_get (set done i p') x ≡ Some b → slice_get next_world.cpus x ≡ Some c → ShowsCpu a b c
          each_cpu' x a b c ea eb ec = dite (ℕ_discrete x i) here there
            where
              here : x ≡ i → ShowsCpu a b c
              here e =
                  let fa = one_of script a (slice_get scripts x) (subst (λ y. slice_get scripts y ≡ Some script) (sym e) script_there) ea in
                  let fb = one_of p' b (slice_get (set done i p') x) (subst (λ y. slice_get (set done i p') y ≡ Some p') (sym e) (get_set_same done i p' p (p_there w h))) eb in
                  let fc = one_of _ c (slice_get next_world.cpus x) (subst (λ y. slice_get next_world.cpus y ≡ Some (cpu_after (the_cpu w h).0 todo (turn c0.lock i).1 (outcome meaning c0.opened c0.log todo.calls.items))) (sym e) (get_set_same w.cpus i _ (the_cpu w h).0 (the_cpu w h).1)) ec in
                  subst (λ (z : Vec (Todo O P C R) Global × Progress O P C R × CpuState O P C R). ShowsCpu z.0 z.1 z.2) (λ j. (fa j, fb j, fc j)) new_cpu

              there : x ≢ i → ShowsCpu a b c
              there ne = h.each_cpu x a b c ea (sym (get_set_other done i x p' (λ e. ne (sym e))) ∙ eb) (sym (get_set_other w.cpus i x _ (λ e. ne (sym e))) ∙ ec)

          -- what is kept afterwards is the world after the step
          pub stepped : Represents meaning next_parts (step meaning w i).0
          stepped = subst (λ (r : World O P C R × StepDone). Represents meaning next_parts r.0) (sym step_is) record {
            cells = length-set cells todo.object spec' ∙ (h.cells ∙ sym (length-set w.cells todo.object _));
            locks = length-set locks todo.object lock' ∙ (h.locks ∙ sym (length-set w.cells todo.object _));
            scripts = h.scripts ∙ sym (length-set w.cpus i _);
            done = length-set done i p' ∙ (h.done ∙ sym (length-set w.cpus i _));
            each_cell = each_cell';
            each_cpu = each_cpu';
          }

  -- the lock of a cell is shown, whoever asks
  pub lock_ready : (x : ℕ) → x < length cells → (lock : LockWords) → lock ≡ get_or locks x lock → (w : World O P C R) → Represents meaning kept_parts w
      → ((l : Lock) × RepresentsLock (vec_len lock.stages) lock.kind lock.words.items lock.stages.items l) × (vec_len lock.stages ≡ length w.cpus)
  lock_ready x below lock lock_is w h =
      let c = some_at w.cells x (omega (arith, below, h.cells)) in
      let spec = some_at cells x below in
      let s = h.each_cell x spec.0 lock c.0 spec.1 (read_get locks x lock (omega (arith, below, h.cells, h.locks)) lock_is) c.1 in
      let n : vec_len lock.stages ≡ length w.cpus = let l = s.lock in omega (arith, l.size, lock.stages.ok.0) in
      ((c.0.lock, subst (λ n. RepresentsLock n lock.kind lock.words.items lock.stages.items c.0.lock) (sym n) s.lock), n)

  -- the words of a cell
  pub words_shown : (x : ℕ) → x < length cells → (lock : LockWords) → lock ≡ get_or locks x lock → (w : World O P C R) → Represents meaning kept_parts w → (c : CellState O P C R) → slice_get w.cells x ≡ Some c → RepresentsLock (length w.cpus) lock.kind lock.words.items lock.stages.items c.lock
  words_shown x below lock lock_is w h c there =
      let spec = some_at cells x below in
      let s = h.each_cell x spec.0 lock c spec.1 (read_get locks x lock (omega (arith, below, h.cells, h.locks)) lock_is) there in
      s.lock
