-- The order in which CPUs end their holds, over any invariant of locks that each turn keeps.
use Rattle.std.proofs.{Common.{◌≡◌, ℕ, ◌<◌, ◌≤◌, Bool, true, false, ◌&&◌, cond, eqb, List, [], ◌∷◌, ◌++◌, length, slice_set, slice_get, Option, Some, None, ◌⊎◌, inl, inr, refl, sym, ap, ◌∙◌, subst, arith}, Math.ListN.set, lemmas.Bool.{cases_Bool, eqb-true, eqb-false, false≢true}, lemmas.List.{length-set, length-append, append-nil}, lemmas.Option.slice_get_within}
use Rattle.event_log.specs.{declared.object.SeqObject.Ghosts, declared.event.Event.Event, declared.entry.Todo.Todo}
use Rattle.word_rule.specs.{declared.machine.step_done.StepDone.StepDone, Locks.{Lock, turn}, StepKinds.{ends_hold, arrives}, Machine.World.{World, CellState, CpuState, step, step_by, step_of, step_on, run}, Machine.Orders.{first_cell, works_on, is_that, is_at, doers, arrivals, endings}}
use Rattle.word_rule.proofs.LineAfter.{LineAfter, order_here, order_there, arrived_longer}
use Rattle.sound_run.proofs.Slices.{get_set_same, get_set_other}
use Rattle.word_rule.specs.declared.machine.step_done.StepDone.TheVariants as steps

-- what each lock promises of its turns, for n CPUs
pub record Keeps (IsLock : ℕ → Lock → Type 0) : Type 0 where
  pub turned : (n : ℕ) (l : Lock) (i : ℕ) → IsLock n l → i < n → IsLock n (turn l i).0 × LineAfter (turn l i).1 i l.line.cpus (turn l i).0.line.cpus
  pub few : (n : ℕ) (l : Lock) → IsLock n l → length l.line.cpus ≤ n

module _ {O P C R : Type 0} where
  abbrev pub line_in : Option (CellState O P C R) → List ℕ
  line_in None = []
  line_in (Some c) = c.lock.line.cpus

module _ (IsLock : ℕ → Lock → Type 0) (keeps : Keeps IsLock) {O P C R : Type 0} (meaning : Ghosts O P C R) where
  abbrev pub IsCell : ℕ → Option (CellState O P C R) → Type 0
  IsCell n None = Unit {0}
  IsCell n (Some c) = IsLock n c.lock

  -- a world whose locks are locks for its CPUs
  abbrev pub AreLocks : World O P C R → Type 0
  AreLocks w = (x : ℕ) → IsCell (length w.cpus) (slice_get w.cells x)

  -- what a step does to the lines: that of one cell changes as the step says, and no other
  pub record Lines (w : World O P C R) (i x : ℕ) (r : World O P C R × StepDone) : Type 0 where
    pub cpus : length r.0.cpus ≡ length w.cpus
    pub good : IsCell (length w.cpus) (slice_get r.0.cells x)
    pub here : is_at w i x ≡ true → LineAfter r.1 i (line_in (slice_get w.cells x)) (line_in (slice_get r.0.cells x))
    pub there : is_at w i x ≡ false → line_in (slice_get r.0.cells x) ≡ line_in (slice_get w.cells x)

  nothing : (w : World O P C R) (i x : ℕ) → AreLocks w → Lines w i x (w, steps.Idle)
  nothing w i x h = record { cpus = refl; good = h x; here = λ e. refl; there = λ e. refl }

  -- one cell gets another lock and log
  moved_cell : (w : World O P C R) (i x : ℕ) (cpu cpu2 : CpuState O P C R) (todo : Todo O P C R) (more : List (Todo O P C R)) (c : CellState O P C R) (log : List (Event O P C R)) → AreLocks w → slice_get w.cpus i ≡ Some cpu → cpu.todo ≡ todo ∷ more → slice_get w.cells todo.object ≡ Some c
      → Lines w i x (record { cells = slice_set w.cells todo.object (record { opened = c.opened; lock = (turn c.lock i).0; log = log }); cpus = slice_set w.cpus i cpu2 }, (turn c.lock i).1)
  moved_cell w i x cpu cpu2 todo more c log h there f e = by (cases_Bool (eqb todo.object x))
    where
      new : CellState O P C R
      new = record { opened = c.opened; lock = (turn c.lock i).0; log = log }

      kept : IsLock (length w.cpus) (turn c.lock i).0 × LineAfter (turn c.lock i).1 i c.lock.line.cpus (turn c.lock i).0.line.cpus
      kept = keeps.turned (length w.cpus) c.lock i (subst (λ (o : Option (CellState O P C R)). IsCell (length w.cpus) o) e (h todo.object)) (slice_get_within w.cpus i cpu there)

      mine : is_at w i x ≡ eqb todo.object x
      mine = ap (λ (o : Option (CpuState O P C R)). is_that (works_on o) x) there ∙ ap (λ (l : List (Todo O P C R)). is_that (first_cell l) x) f

      by : ((eqb todo.object x ≡ true) ⊎ (eqb todo.object x ≡ false)) → Lines w i x (record { cells = slice_set w.cells todo.object new; cpus = slice_set w.cpus i cpu2 }, (turn c.lock i).1)
      by (inl t) =
          let same : slice_get (set w.cells todo.object new) x ≡ Some new = subst (λ y. slice_get (set w.cells todo.object new) y ≡ Some new) (eqb-true todo.object x t) (get_set_same w.cells todo.object new c e) in
          let old : slice_get w.cells x ≡ Some c = subst (λ y. slice_get w.cells y ≡ Some c) (eqb-true todo.object x t) e in
          record {
            cpus = length-set w.cpus i cpu2;
            good = subst (λ (o : Option (CellState O P C R)). IsCell (length w.cpus) o) (sym same) kept.0;
            here = λ y. subst (λ (l : List ℕ). LineAfter (turn c.lock i).1 i l (line_in (slice_get (set w.cells todo.object new) x))) (sym (ap (λ (o : Option (CellState O P C R)). line_in o) old))
                (subst (λ (l : List ℕ). LineAfter (turn c.lock i).1 i c.lock.line.cpus l) (sym (ap (λ (o : Option (CellState O P C R)). line_in o) same)) kept.1);
            there = λ y. absurd (false≢true (sym y ∙ mine ∙ t));
          }
      by (inr g) =
          let other : slice_get (set w.cells todo.object new) x ≡ slice_get w.cells x = get_set_other w.cells todo.object x new (eqb-false todo.object x g) in
          record {
            cpus = length-set w.cpus i cpu2;
            good = subst (λ (o : Option (CellState O P C R)). IsCell (length w.cpus) o) (sym other) (h x);
            here = λ y. absurd (false≢true (sym g ∙ sym mine ∙ y));
            there = λ y. ap (λ (o : Option (CellState O P C R)). line_in o) other;
          }

  pub stepped : (w : World O P C R) (i x : ℕ) → AreLocks w → Lines w i x (step meaning w i)
  stepped w i x h = by_cpu (slice_get w.cpus i) refl
    where
      by_cell : (cpu : CpuState O P C R) (todo : Todo O P C R) (more : List (Todo O P C R)) → slice_get w.cpus i ≡ Some cpu → cpu.todo ≡ todo ∷ more → (o : Option (CellState O P C R)) → slice_get w.cells todo.object ≡ o → Lines w i x (step_on meaning w i cpu todo o)
      by_cell cpu todo more c f None e = nothing w i x h
      by_cell cpu todo more c f (Some cell) e = moved_cell w i x cpu _ todo more cell _ h c f e

      by_todo : (cpu : CpuState O P C R) → slice_get w.cpus i ≡ Some cpu → (todos : List (Todo O P C R)) → cpu.todo ≡ todos → Lines w i x (step_of meaning w i cpu todos)
      by_todo cpu c [] f = nothing w i x h
      by_todo cpu c (todo ∷ more) f = by_cell cpu todo more c f (slice_get w.cells todo.object) refl

      by_cpu : (o : Option (CpuState O P C R)) → slice_get w.cpus i ≡ o → Lines w i x (step_by meaning w i o)
      by_cpu None c = nothing w i x h
      by_cpu (Some cpu) c = by_todo cpu c cpu.todo refl

  -- a world's locks stay locks
  pub locks_stay : (w : World O P C R) (i : ℕ) → AreLocks w → AreLocks (step meaning w i).0
  locks_stay w i h = λ x. let r = stepped w i x h in subst (λ (n : ℕ). IsCell n (slice_get (step meaning w i).0.cells x)) (sym r.cpus) r.good

  pub locks_run : (is : List ℕ) (w : World O P C R) → AreLocks w → AreLocks (run meaning is w)
  locks_run [] w h = h
  locks_run (i ∷ is) w h = locks_run is (step meaning w i).0 (locks_stay w i h)

  pub same_cpus : (is : List ℕ) (w : World O P C R) → AreLocks w → length (run meaning is w).cpus ≡ length w.cpus
  same_cpus [] w h = refl
  same_cpus (i ∷ is) w h = same_cpus is (step meaning w i).0 (locks_stay w i h) ∙ (stepped w i 0 h).cpus

  -- what the order says after the first step, by whether that step is on the cell
  abbrev Ordered : World O P C R → ℕ → List ℕ → ℕ → Bool → Type 0
  Ordered w i is x b =
      cond (ends_hold (step meaning w i).1 && b) (i ∷ endings meaning x is (step meaning w i).0) (endings meaning x is (step meaning w i).0) ++ line_in (slice_get (run meaning is (step meaning w i).0).cells x)
      ≡ line_in (slice_get w.cells x) ++ cond (arrives (step meaning w i).1 && b) (i ∷ arrivals meaning x is (step meaning w i).0) (arrivals meaning x is (step meaning w i).0)

  -- who has ended a hold, and then who is in the line: who was in the line, and then who has arrived
  pub in_order : (is : List ℕ) (w : World O P C R) (x : ℕ) → AreLocks w → endings meaning x is w ++ line_in (slice_get (run meaning is w).cells x) ≡ line_in (slice_get w.cells x) ++ arrivals meaning x is w
  in_order [] w x h = sym (append-nil (line_in (slice_get w.cells x)))
  in_order (i ∷ is) w x h = by (cases_Bool (is_at w i x)) (in_order is (step meaning w i).0 x (locks_stay w i h))
    where
      by : ((is_at w i x ≡ true) ⊎ (is_at w i x ≡ false))
          → endings meaning x is (step meaning w i).0 ++ line_in (slice_get (run meaning is (step meaning w i).0).cells x) ≡ line_in (slice_get (step meaning w i).0.cells x) ++ arrivals meaning x is (step meaning w i).0
          → Ordered w i is x (is_at w i x)
      by (inl t) ih = subst (Ordered w i is x) (sym t) (order_here (step meaning w i).1 i _ (line_in (slice_get (step meaning w i).0.cells x)) _ _ _ ((stepped w i x h).here t) ih)
      by (inr t) ih = subst (Ordered w i is x) (sym t) (order_there (ends_hold (step meaning w i).1) (arrives (step meaning w i).1) i _ (line_in (slice_get (step meaning w i).0.cells x)) _ _ _ ((stepped w i x h).there t) ih)

  few_in : (n : ℕ) (o : Option (CellState O P C R)) → IsCell n o → length (line_in o) ≤ n
  few_in n None h = omega arith
  few_in n (Some c) h = keeps.few n c.lock h

  -- who arrives makes a line that isn't longer than there are CPUs
  pub room_to_arrive : (w : World O P C R) (i x : ℕ) → AreLocks w → arrives (step meaning w i).1 ≡ true → is_at w i x ≡ true → length (line_in (slice_get w.cells x)) < length w.cpus
  room_to_arrive w i x h a t =
      let r = stepped w i x h in
      let longer = arrived_longer (step meaning w i).1 i _ _ a (r.here t) in
      let few = few_in (length w.cpus) (slice_get (step meaning w i).0.cells x) r.good in
      omega (arith, ap length longer ∙ length-append (line_in (slice_get w.cells x)) (i ∷ []), few)

  -- who arrives is then the last of the line
  pub arrives_last : (w : World O P C R) (i x : ℕ) → AreLocks w → arrives (step meaning w i).1 ≡ true → is_at w i x ≡ true → line_in (slice_get (step meaning w i).0.cells x) ≡ line_in (slice_get w.cells x) ++ i ∷ []
  arrives_last w i x h a t = arrived_longer (step meaning w i).1 i _ _ a ((stepped w i x h).here t)

  -- a schedule in two parts
  pub run_append : (is js : List ℕ) (w : World O P C R) → run meaning (is ++ js) w ≡ run meaning js (run meaning is w)
  run_append [] js w = refl
  run_append (i ∷ is) js w = run_append is js (step meaning w i).0

  pub doers_append : (test : StepDone → Bool) (x : ℕ) (is js : List ℕ) (w : World O P C R) → doers meaning test x (is ++ js) w ≡ doers meaning test x is w ++ doers meaning test x js (run meaning is w)
  doers_append test x [] js w = refl
  doers_append test x (i ∷ is) js w = elim (test (step meaning w i).1 && is_at w i x) as (λ b. cond b (i ∷ doers meaning test x (is ++ js) (step meaning w i).0) (doers meaning test x (is ++ js) (step meaning w i).0) ≡ cond b (i ∷ doers meaning test x is (step meaning w i).0) (doers meaning test x is (step meaning w i).0) ++ doers meaning test x js (run meaning (i ∷ is) w)) [
    | true ↦ ap (λ l. i ∷ l) (doers_append test x is js (step meaning w i).0)
    | false ↦ doers_append test x is js (step meaning w i).0
  ]
