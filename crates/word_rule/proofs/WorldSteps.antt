-- What a step of the machine does to the script of each CPU, and to the lock of each cell.
use Rattle.std.proofs.{Common.{◌≡◌, ◌≢◌, ⊎_elim, ℕ, ◌<◌, ◌==◌, Bool, true, false, true≢false, cond, eqb, List, [], ◌∷◌, length, slice_get, Option, Some, None, refl, sym, ap, ◌∙◌, subst, arith}, Math.ListN.set, lemmas.Bool.{cases_Bool, eqb-true, eqb-false, false_from_ne_true}, lemmas.Option.slice_get_within}
use mathlib.Core.Logic.{dite}
use native.Mathlib.Decide.{ℕ_discrete}
use Rattle.event_log.specs.{declared.object.SeqObject.Ghosts, declared.entry.Todo.Todo}
use Rattle.word_rule.specs.{declared.machine.step_done.StepDone.StepDone, Locks.turn, StepKinds.ends_hold, Replay.entries_left, Machine.Orders.{first_cell, works_on, is_that, is_at}, Machine.Rounds.{cell_steps, entry_steps}, Machine.World.{World, CellState, CpuState, counted, finished, left, outcome, cpu_after, cell_after, world_after, step, step_by, step_of, step_on}}
use Rattle.word_rule.proofs.LineChanges.{never}
use Rattle.sound_run.proofs.Slices.{get_set_same, get_set_other, one_of}
use Rattle.word_rule.specs.declared.machine.step_done.StepDone.TheVariants as steps

-- nothing is something
pub none_some : {X Y : Type 0} (o : Option X) (x : X) → o ≡ None → o ≡ Some x → Y
none_some o x e f = let g : None ≡ Some x = sym e ∙ f in cc

module _ {O P C R : Type 0} where
  -- the entries that CPU i hasn't done
  abbrev pub left_to : ℕ → World O P C R → List (Todo O P C R)
  left_to i w = entries_left (slice_get w.cpus i)

  -- where a CPU is, by its script
  pub at_is : (w : World O P C R) (i x : ℕ) → is_at w i x ≡ is_that (first_cell (left_to i w)) x
  at_is w i x = by (slice_get w.cpus i)
    where
      by : (o : Option (CpuState O P C R)) → is_that (works_on o) x ≡ is_that (first_cell (entries_left o)) x
      by None = refl
      by (Some cpu) = refl

  -- a CPU that has the same script is at the same place
  pub at_stays : (w w' : World O P C R) (i x : ℕ) → left_to i w' ≡ left_to i w → is_at w' i x ≡ is_at w i x
  at_stays w w' i x e = at_is w' i x ∙ (ap (λ l. is_that (first_cell l) x) e ∙ sym (at_is w i x))

  -- the entry that a CPU is doing
  pub record Works (w : World O P C R) (i x : ℕ) : Type 0 where
    pub todo : Todo O P C R
    pub more : List (Todo O P C R)
    pub is : left_to i w ≡ todo ∷ more
    pub on : todo.object ≡ x

  pub works_at : (w : World O P C R) (i x : ℕ) → is_at w i x ≡ true → Works w i x
  works_at w i x e = by (left_to i w) refl (sym (at_is w i x) ∙ e)
    where
      by : (todos : List (Todo O P C R)) → left_to i w ≡ todos → is_that (first_cell todos) x ≡ true → Works w i x
      by [] f t = never t
      by (todo ∷ more) f t = record { todo = todo; more = more; is = f; on = eqb-true todo.object x t }

  pub at_entry : (w : World O P C R) (i : ℕ) (todo : Todo O P C R) (more : List (Todo O P C R)) → left_to i w ≡ todo ∷ more → (x : ℕ) → is_at w i x ≡ (todo.object == x)
  at_entry w i todo more e x = at_is w i x ∙ ap (λ l. is_that (first_cell l) x) e

  -- only one of the world's CPUs has entries
  pub cpu_below : (w : World O P C R) (i x : ℕ) → is_at w i x ≡ true → i < length w.cpus
  cpu_below w i x e = by (slice_get w.cpus i) refl e
    where
      by : (o : Option (CpuState O P C R)) → slice_get w.cpus i ≡ o → is_that (works_on o) x ≡ true → i < length w.cpus
      by None f t = never t
      by (Some cpu) f t = slice_get_within w.cpus i cpu f

module _ {O P C R : Type 0} (meaning : Ghosts O P C R) where
  -- the scripts after a step of CPU k
  pub record StepsCpus (w : World O P C R) (k : ℕ) (r : World O P C R × StepDone) : Type 0 where
    pub others : (j : ℕ) → j ≢ k → left_to j r.0 ≡ left_to j w
    pub own : left_to k r.0 ≡ cond (ends_hold r.1) (left (left_to k w)) (left_to k w)

  -- the cell x after it
  pub record StepsCell (w : World O P C R) (k x : ℕ) (c : CellState O P C R) (r : World O P C R × StepDone) : Type 0 where
    pub after : CellState O P C R
    pub there : slice_get r.0.cells x ≡ Some after
    pub here : is_at w k x ≡ true → (after.lock ≡ (turn c.lock k).0) × (r.1 ≡ (turn c.lock k).1)
    pub elsewhere : is_at w k x ≡ false → after.lock ≡ c.lock

  idle_cpus : (w : World O P C R) (k : ℕ) → StepsCpus w k (w, steps.Idle)
  idle_cpus w k = record { others = λ j ne. refl; own = refl }

  pub cpus_stepped : (w : World O P C R) (k : ℕ) → StepsCpus w k (step meaning w k)
  cpus_stepped w k = by_cpu (slice_get w.cpus k) refl
    where
      moved : (cpu : CpuState O P C R) → slice_get w.cpus k ≡ Some cpu → (todo : Todo O P C R) (c : CellState O P C R) → StepsCpus w k (world_after meaning w k c cpu todo (turn c.lock k), (turn c.lock k).1)
      moved cpu at todo c = record {
        others = λ j ne. ap (λ (o : Option (CpuState O P C R)). entries_left o) (get_set_other w.cpus k j new (λ e. ne (sym e)));
        own = ap (λ (o : Option (CpuState O P C R)). entries_left o) (get_set_same w.cpus k new cpu at)
            ∙ (todo_after (ends_hold (turn c.lock k).1) ∙ ap (λ (o : Option (CpuState O P C R)). cond (ends_hold (turn c.lock k).1) (left (entries_left o)) (entries_left o)) (sym at));
      }
        where
          new : CpuState O P C R
          new = cpu_after cpu todo (turn c.lock k).1 (outcome meaning c.opened c.log todo.calls.items)

          todo_after : (b : Bool) → (cond b (finished cpu todo (outcome meaning c.opened c.log todo.calls.items)) (record { todo = cpu.todo; transcript = cpu.transcript; looks = counted cpu.looks (turn c.lock k).1 })).todo ≡ cond b (left cpu.todo) cpu.todo
          todo_after true = refl
          todo_after false = refl

      by_cell : (cpu : CpuState O P C R) → slice_get w.cpus k ≡ Some cpu → (todo : Todo O P C R) (o : Option (CellState O P C R)) → StepsCpus w k (step_on meaning w k cpu todo o)
      by_cell cpu at todo None = idle_cpus w k
      by_cell cpu at todo (Some c) = moved cpu at todo c

      by_todo : (cpu : CpuState O P C R) → slice_get w.cpus k ≡ Some cpu → (todos : List (Todo O P C R)) → StepsCpus w k (step_of meaning w k cpu todos)
      by_todo cpu at [] = idle_cpus w k
      by_todo cpu at (todo ∷ more) = by_cell cpu at todo (slice_get w.cells todo.object)

      by_cpu : (o : Option (CpuState O P C R)) → slice_get w.cpus k ≡ o → StepsCpus w k (step_by meaning w k o)
      by_cpu None at = idle_cpus w k
      by_cpu (Some cpu) at = by_todo cpu at cpu.todo

  -- a step changes no cell's lock for one of another kind
  pub cell_steps_stay : (w : World O P C R) (k x : ℕ) → cell_steps (slice_get (step meaning w k).0.cells x) ≡ cell_steps (slice_get w.cells x)
  cell_steps_stay w k x = by_cpu (slice_get w.cpus k)
    where
      Same : World O P C R × StepDone → Type 0
      Same r = cell_steps (slice_get r.0.cells x) ≡ cell_steps (slice_get w.cells x)

      moved : (cpu : CpuState O P C R) (todo : Todo O P C R) (b : CellState O P C R) → slice_get w.cells todo.object ≡ Some b → Same (world_after meaning w k b cpu todo (turn b.lock k), (turn b.lock k).1)
      moved cpu todo b at = dite (ℕ_discrete x todo.object)
          (λ is. subst (λ y. cell_steps (slice_get (set w.cells todo.object new) y) ≡ cell_steps (slice_get w.cells y)) (sym is)
          (ap (λ (o : Option (CellState O P C R)). cell_steps o) (get_set_same w.cells todo.object new b at) ∙ sym (ap (λ (o : Option (CellState O P C R)). cell_steps o) at)))
          (λ ne. ap (λ (o : Option (CellState O P C R)). cell_steps o) (get_set_other w.cells todo.object x new (λ is. ne (sym is))))
        where
          new : CellState O P C R
          new = cell_after meaning b k todo (turn b.lock k)

      by_cell : (cpu : CpuState O P C R) (todo : Todo O P C R) (o : Option (CellState O P C R)) → slice_get w.cells todo.object ≡ o → Same (step_on meaning w k cpu todo o)
      by_cell cpu todo None e = refl
      by_cell cpu todo (Some b) e = moved cpu todo b e

      by_todo : (cpu : CpuState O P C R) (todos : List (Todo O P C R)) → Same (step_of meaning w k cpu todos)
      by_todo cpu [] = refl
      by_todo cpu (todo ∷ more) = by_cell cpu todo (slice_get w.cells todo.object) refl

      by_cpu : (o : Option (CpuState O P C R)) → Same (step_by meaning w k o)
      by_cpu None = refl
      by_cpu (Some cpu) = by_todo cpu cpu.todo

  pub entry_steps_stay : (w : World O P C R) (k : ℕ) (todos : List (Todo O P C R)) → entry_steps (step meaning w k).0.cells todos ≡ entry_steps w.cells todos
  entry_steps_stay w k [] = refl
  entry_steps_stay w k (todo ∷ more) = let a = cell_steps_stay w k todo.object in let b = entry_steps_stay w k more in omega (arith, a, b)

  pub cell_stepped : (w : World O P C R) (k x : ℕ) (c : CellState O P C R) → slice_get w.cells x ≡ Some c → StepsCell w k x c (step meaning w k)
  cell_stepped w k x c there = by_cpu (slice_get w.cpus k) refl
    where
      idle : is_at w k x ≡ false → StepsCell w k x c (w, steps.Idle)
      idle off = record { after = c; there = there; here = λ on. absurd (true≢false (sym on ∙ off)); elsewhere = λ _. refl }

      moved : (cpu : CpuState O P C R) (todo : Todo O P C R) (b : CellState O P C R) → slice_get w.cells todo.object ≡ Some b → is_at w k x ≡ (todo.object == x) → StepsCell w k x c (world_after meaning w k b cpu todo (turn b.lock k), (turn b.lock k).1)
      moved cpu todo b at where_is = ⊎_elim here apart (cases_Bool (eqb todo.object x))
        where
          new : CellState O P C R
          new = cell_after meaning b k todo (turn b.lock k)

          here : eqb todo.object x ≡ true → StepsCell w k x c (world_after meaning w k b cpu todo (turn b.lock k), (turn b.lock k).1)
          here t =
              let same : b ≡ c = one_of b c (slice_get w.cells x) (subst (λ y. slice_get w.cells y ≡ Some b) (eqb-true todo.object x t) at) there in
              record {
                after = new;
                there = subst (λ y. slice_get (set w.cells todo.object new) y ≡ Some new) (eqb-true todo.object x t) (get_set_same w.cells todo.object new b at);
                here = λ _. (ap (λ (z : CellState O P C R). (turn z.lock k).0) same, ap (λ (z : CellState O P C R). (turn z.lock k).1) same);
                elsewhere = λ off. absurd (true≢false (sym t ∙ (sym where_is ∙ off)));
              }

          apart : eqb todo.object x ≡ false → StepsCell w k x c (world_after meaning w k b cpu todo (turn b.lock k), (turn b.lock k).1)
          apart f = record {
            after = c;
            there = get_set_other w.cells todo.object x new (eqb-false todo.object x f) ∙ there;
            here = λ on. absurd (true≢false (sym on ∙ (where_is ∙ f)));
            elsewhere = λ _. refl;
          }

      by_cell : (cpu : CpuState O P C R) (todo : Todo O P C R) → is_at w k x ≡ (todo.object == x) → (o : Option (CellState O P C R)) → slice_get w.cells todo.object ≡ o → StepsCell w k x c (step_on meaning w k cpu todo o)
      by_cell cpu todo where_is None e = idle (where_is ∙ false_from_ne_true (todo.object == x) (λ t. none_some (slice_get w.cells x) c (subst (λ y. slice_get w.cells y ≡ None) (eqb-true todo.object x t) e) there))
      by_cell cpu todo where_is (Some b) e = moved cpu todo b e where_is

      by_todo : (cpu : CpuState O P C R) → slice_get w.cpus k ≡ Some cpu → (todos : List (Todo O P C R)) → cpu.todo ≡ todos → StepsCell w k x c (step_of meaning w k cpu todos)
      by_todo cpu at [] e = idle (ap (λ (o : Option (CpuState O P C R)). is_that (works_on o) x) at ∙ ap (λ l. is_that (first_cell l) x) e)
      by_todo cpu at (todo ∷ more) e = by_cell cpu todo (ap (λ (o : Option (CpuState O P C R)). is_that (works_on o) x) at ∙ ap (λ l. is_that (first_cell l) x) e) (slice_get w.cells todo.object) refl

      by_cpu : (o : Option (CpuState O P C R)) → slice_get w.cpus k ≡ o → StepsCell w k x c (step_by meaning w k o)
      by_cpu None at = idle (ap (λ (o : Option (CpuState O P C R)). is_that (works_on o) x) at)
      by_cpu (Some cpu) at = by_todo cpu at cpu.todo refl
