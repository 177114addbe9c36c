-- Every fair schedule finishes: the rank of a world is the steps that its CPUs may still do, apart from those in vain.
use Rattle.std.proofs.{Common.{◌≡◌, ◌≢◌, inl, inr, ⊎_elim, ℕ, zero, suc, ◌+◌, ◌*◌, ◌<◌, ◌≤◌, eq-eqb, Bool, true, false, cond, List, [], ◌∷◌, length, slice_get, Option, Some, None, refl, sym, ap, ◌∙◌, subst, arith}, lemmas.Bool.cases_Bool}
use mathlib.Core.Logic.{dite}
use native.Mathlib.Decide.{ℕ_discrete}
use Rattle.event_log.specs.{declared.object.SeqObject.Ghosts, declared.entry.Todo.Todo}
use Rattle.event_log.proofs.Each.{each_at}
use Rattle.word_rule.specs.{declared.machine.step_done.StepDone.StepDone, Locks.{Lock, turn}, StepKinds.ends_hold, Replay.entries_left, Machine.Opening.IsOpening, Machine.Orders.is_at, Machine.Rounds.{AllDone, HasRounds, cell_steps, cpu_steps, entries_to_do, entry_steps, most_steps, steps_to_do}, Machine.World.{World, CellState, CpuState, left, run, step, step_by, step_of}}
use Rattle.word_rule.proofs.{Alive.{Alive, On, alive_first, alive_run, alive_step, cell_of_entry, cpus_stay, on_stays_or, someone, whole_at}, Fairness.{Fair, reaches}, ProgressLaws.{few_left, gets_on, left_at, most_few, nearer, no_further, others_stay, some_left}, WorldSteps.{StepsCell, StepsCpus, at_entry, cell_stepped, cpu_below, cpus_stepped, entry_steps_stay, left_to, works_at}}
use Rattle.sound_run.proofs.Slices.{one_of}
use Rattle.word_rule.specs.declared.machine.step_done.StepDone.TheVariants as steps

-- the sum of the first n numbers
abbrev pub sum : (ℕ → ℕ) → ℕ → ℕ
sum f zero = 0
sum f (suc n) = f zero + sum (λ i. f (suc i)) n

sum_falls : (f g : ℕ → ℕ) (n : ℕ) → ((i : ℕ) → f i ≤ g i) → sum f n ≤ sum g n
sum_falls f g zero le = omega arith
sum_falls f g (suc n) le = let a = le zero in let b = sum_falls (λ i. f (suc i)) (λ i. g (suc i)) n (λ i. le (suc i)) in omega (arith, a, b)

sum_sinks : (f g : ℕ → ℕ) (n j : ℕ) → ((i : ℕ) → f i ≤ g i) → j < n → f j < g j → sum f n < sum g n
sum_sinks f g zero j le below lt = absurd (omega (arith, below))
sum_sinks f g (suc n) zero le below lt = let b = sum_falls (λ i. f (suc i)) (λ i. g (suc i)) n (λ i. le (suc i)) in omega (arith, lt, b)
sum_sinks f g (suc n) (suc j) le below lt = let a = le zero in let b = sum_sinks (λ i. f (suc i)) (λ i. g (suc i)) n j (λ i. le (suc i)) (omega (arith, below)) lt in omega (arith, a, b)

sum_some : (f : ℕ → ℕ) (n j : ℕ) → j < n → 0 < f j → 0 < sum f n
sum_some f zero j below some = absurd (omega (arith, below))
sum_some f (suc n) zero below some = omega (arith, some)
sum_some f (suc n) (suc j) below some = let a = sum_some (λ i. f (suc i)) n j (omega (arith, below)) some in omega (arith, a)

module _ {O P C R : Type 0} where
  -- the steps of all entries, CPU by CPU
  sum_steps : (cells : List (CellState O P C R)) (cpus : List (CpuState O P C R)) → sum (λ i. entry_steps cells (entries_left (slice_get cpus i))) (length cpus) ≡ cpu_steps cells cpus
  sum_steps cells [] = refl
  sum_steps cells (c ∷ cs) = ap (λ k. entry_steps cells c.todo + k) (sum_steps cells cs)

  -- no more than the most of any lock for each entry
  cell_few : (o : Option (CellState O P C R)) → cell_steps o ≤ most_steps
  cell_few None = omega arith
  cell_few (Some c) = most_few c.lock.kind

  entry_few : (cells : List (CellState O P C R)) (todos : List (Todo O P C R)) → entry_steps cells todos ≤ most_steps * length todos
  entry_few cells [] = omega arith
  entry_few cells (todo ∷ more) = let a = cell_few (slice_get cells todo.object) in let b = entry_few cells more in omega (arith, a, b)

  steps_few : (cells : List (CellState O P C R)) (cpus : List (CpuState O P C R)) → cpu_steps cells cpus ≤ most_steps * entries_to_do cpus
  steps_few cells [] = omega arith
  steps_few cells (c ∷ cs) = let a = entry_few cells c.todo in let b = steps_few cells cs in omega (arith, a, b)

  -- how many steps CPU i may still do in the entry at hand
  abbrev cell_left : Option (CellState O P C R) → ℕ → ℕ
  cell_left None i = 0
  cell_left (Some c) i = left_at c.lock i

  abbrev todo_left : World O P C R → ℕ → List (Todo O P C R) → ℕ
  todo_left w i [] = 0
  todo_left w i (todo ∷ more) = entry_steps w.cells more + cell_left (slice_get w.cells todo.object) i

  -- and in all
  abbrev cpu_left : World O P C R → ℕ → ℕ
  cpu_left w i = todo_left w i (left_to i w)

  abbrev rank : ℕ → World O P C R → ℕ
  rank n w = sum (cpu_left w) n

  few_there : (o : Option (CellState O P C R)) (i : ℕ) → cell_left o i ≤ cell_steps o
  few_there None i = omega arith
  few_there (Some c) i = few_left c.lock i

  few_todo : (w : World O P C R) (i : ℕ) (todos : List (Todo O P C R)) → todo_left w i todos ≤ entry_steps w.cells todos
  few_todo w i [] = omega arith
  few_todo w i (todo ∷ more) = let a = few_there (slice_get w.cells todo.object) i in omega (arith, a)

  -- the rank is at most the steps of all entries
  rank_few : (w : World O P C R) → rank (length w.cpus) w ≤ steps_to_do w
  rank_few w =
      let a = sum_falls (cpu_left w) (λ i. entry_steps w.cells (left_to i w)) (length w.cpus) (λ i. few_todo w i (left_to i w)) in
      let b = sum_steps w.cells w.cpus in
      omega (arith, a, b)

  cpu_left_is : (w : World O P C R) (i : ℕ) (todo : Todo O P C R) (more : List (Todo O P C R)) (c : CellState O P C R) → left_to i w ≡ todo ∷ more → slice_get w.cells todo.object ≡ Some c → cpu_left w i ≡ entry_steps w.cells more + left_at c.lock i
  cpu_left_is w i todo more c is there = ap (todo_left w i) is ∙ ap (λ (o : Option (CellState O P C R)). entry_steps w.cells more + cell_left o i) there

module _ {O P C R : Type 0} (meaning : Ghosts O P C R) where
  module _ (w : World O P C R) (k : ℕ) (a : Alive meaning w) where
    abbrev w' : World O P C R
    w' = (step meaning w k).0

    scripts : StepsCpus meaning w k (step meaning w k)
    scripts = cpus_stepped meaning w k

    -- another CPU has as many steps left as before
    other_left : (j : ℕ) → j ≢ k → (todos : List (Todo O P C R)) → left_to j w ≡ todos → cpu_left w' j ≡ cpu_left w j
    other_left j ne [] is = ap (todo_left w' j) (scripts.others j ne ∙ is) ∙ sym (ap (todo_left w j) is)
    other_left j ne (todo ∷ more) is =
        let c = cell_of_entry meaning w a j todo more is in
        let s = cell_stepped meaning w k todo.object c.0 c.1 in
        let same : left_at s.after.lock j ≡ left_at c.0.lock j = ⊎_elim
        (λ t. ap (λ (l : Lock). left_at l j) (s.here t).0 ∙ others_stay c.0.lock k j ne)
        (λ f. ap (λ (l : Lock). left_at l j) (s.elsewhere f))
        (cases_Bool (is_at w k todo.object)) in
        let now = cpu_left_is w' j todo more s.after (scripts.others j ne ∙ is) s.there in
        let was = cpu_left_is w j todo more c.0 is c.1 in
        let steps_same = entry_steps_stay meaning w k more in
        omega (arith, now, was, same, steps_same)

    -- the CPU itself has no more, and fewer if the step gets it on
    own_falls : (todos : List (Todo O P C R)) → left_to k w ≡ todos → (cpu_left w' k ≤ cpu_left w k) × (On meaning w k → cpu_left w' k < cpu_left w k)
    own_falls [] is =
        let none : left_to k w' ≡ [] = scripts.own ∙ none_left (ends_hold (step meaning w k).1) (left_to k w) is in
        let zero_left : cpu_left w' k ≡ 0 = ap (todo_left w' k) none in
        (omega (arith, zero_left), λ o. let t = works_at w k o.at o.works in no_entry (sym is ∙ t.is))
      where
        none_left : (b : Bool) (l : List (Todo O P C R)) → l ≡ [] → cond b (left l) l ≡ []
        none_left true l e = ap left e
        none_left false l e = e

        no_entry : {X : Type 0} {t : Todo O P C R} {ts : List (Todo O P C R)} → [] ≡ t ∷ ts → X
        no_entry e = cc
    own_falls (todo ∷ more) is = ⊎_elim ending going (cases_Bool (ends_hold (step meaning w k).1))
      where
        c : (c : CellState O P C R) × (slice_get w.cells todo.object ≡ Some c)
        c = cell_of_entry meaning w a k todo more is

        s : StepsCell meaning w k todo.object c.0 (step meaning w k)
        s = cell_stepped meaning w k todo.object c.0 c.1

        works : is_at w k todo.object ≡ true
        works = at_entry w k todo more is todo.object ∙ eq-eqb todo.object todo.object refl

        before : cpu_left w k ≡ entry_steps w.cells more + left_at c.0.lock k
        before = cpu_left_is w k todo more c.0 is c.1

        ending : ends_hold (step meaning w k).1 ≡ true → (cpu_left w' k ≤ cpu_left w k) × (On meaning w k → cpu_left w' k < cpu_left w k)
        ending e =
            let gone : left_to k w' ≡ more = scripts.own ∙ (ap (λ b. cond b (left (left_to k w)) (left_to k w)) e ∙ ap left is) in
            let few = few_todo w' k (left_to k w') in
            let size : entry_steps w'.cells (left_to k w') ≡ entry_steps w.cells more = ap (entry_steps w'.cells) gone ∙ entry_steps_stay meaning w k more in
            let some = some_left c.0.lock k in
            let lt : cpu_left w' k < cpu_left w k = omega (arith, few, size, some, before) in
            (omega (arith, lt), λ _. lt)

        going : ends_hold (step meaning w k).1 ≡ false → (cpu_left w' k ≤ cpu_left w k) × (On meaning w k → cpu_left w' k < cpu_left w k)
        going f =
            let same : left_to k w' ≡ todo ∷ more = scripts.own ∙ (ap (λ b. cond b (left (left_to k w)) (left_to k w)) f ∙ is) in
            let lock_is : s.after.lock ≡ (turn c.0.lock k).0 = (s.here works).0 in
            let unended : ends_hold (turn c.0.lock k).1 ≡ false = sym (ap ends_hold (s.here works).1) ∙ f in
            let after : cpu_left w' k ≡ entry_steps w'.cells more + left_at (turn c.0.lock k).0 k = cpu_left_is w' k todo more s.after same s.there ∙ ap (λ (l : Lock). entry_steps w'.cells more + left_at l k) lock_is in
            let steps_same = entry_steps_stay meaning w k more in
            let h = whole_at meaning w a todo.object c.0 c.1 in
            let below = cpu_below w k todo.object works in
            let le = no_further (length w.cpus) c.0.lock h k below unended in (
              omega (arith, before, after, le, steps_same),
              λ o.
                  let t = works_at w k o.at o.works in
                  let at : o.at ≡ todo.object = sym t.on ∙ first_is (sym t.is ∙ is) in
                  let cell : o.cell ≡ c.0 = one_of o.cell c.0 (slice_get w.cells todo.object) (subst (λ x. slice_get w.cells x ≡ Some o.cell) at o.there) c.1 in
                  let lt = nearer (length w.cpus) c.0.lock h k below (ap (λ (z : CellState O P C R). gets_on z.lock k) (sym cell) ∙ o.on) unended in
                  omega (arith, before, after, lt, steps_same),
            )
          where
            first_is : {t : Todo O P C R} {ts : List (Todo O P C R)} → t ∷ ts ≡ todo ∷ more → t.object ≡ todo.object
            first_is {t} {ts} e = ap (λ (z : Todo O P C R). z.object) (let q : t ≡ todo = cc in q)

    each_falls : (j : ℕ) → cpu_left w' j ≤ cpu_left w j
    each_falls j = dite (ℕ_discrete j k)
        (λ is. subst (λ z. cpu_left w' z ≤ cpu_left w z) (sym is) (own_falls (left_to k w) refl).0)
        (λ ne. let e = other_left j ne (left_to j w) refl in omega (arith, e))

  -- a CPU that can get on has steps left
  on_left : (w : World O P C R) (j : ℕ) → On meaning w j → 0 < cpu_left w j
  on_left w j o =
      let t = works_at w j o.at o.works in
      let some = some_left o.cell.lock j in
      let e = cpu_left_is w j t.todo t.more o.cell t.is (subst (λ x. slice_get w.cells x ≡ Some o.cell) (sym t.on) o.there) in
      omega (arith, some, e)

  -- a world in which every script is done stays as it is
  done_stays : (w : World O P C R) (k : ℕ) → AllDone w → AllDone (step meaning w k).0
  done_stays w k d = subst (λ (z : World O P C R × StepDone). AllDone z.0) (sym (by (slice_get w.cpus k) refl)) d
    where
      by : (o : Option (CpuState O P C R)) → slice_get w.cpus k ≡ o → step meaning w k ≡ (w, steps.Idle)
      by None e = ap (λ (o : Option (CpuState O P C R)). step_by meaning w k o) e
      by (Some cpu) e = ap (λ (o : Option (CpuState O P C R)). step_by meaning w k o) e ∙ ap (λ l. step_of meaning w k cpu l) (each_at (λ (c : CpuState O P C R). c.todo ≡ []) w.cpus k cpu d e)

  module _ (n : ℕ) where
    abbrev Good : World O P C R → Type 0
    Good w = Alive meaning w × (length w.cpus ≡ n)

    lower : (w : World O P C R) (k : ℕ) → Good w → On meaning w k → rank n (step meaning w k).0 < rank n w
    lower w k g o = sum_sinks (cpu_left (step meaning w k).0) (cpu_left w) n k (each_falls w k g.0) (subst (λ m. k < m) g.1 (cpu_below w k o.at o.works)) ((own_falls w k g.0 (left_to k w) refl).1 o)

    scripts_fair : Fair meaning n Good AllDone (rank n) (On meaning)
    scripts_fair = record {
      stepped = λ w k g. inr record {
        good = (alive_step meaning w k g.0, cpus_stay meaning (k ∷ []) w g.0 ∙ g.1);
        falls = sum_falls (cpu_left (step meaning w k).0) (cpu_left w) n (each_falls w k g.0);
        lower = lower w k g;
        stays = λ j ne o. ⊎_elim inl (λ other. inr (lower w k g other)) (on_stays_or meaning w j k g.0 ne o);
      };
      done = done_stays;
      someone = λ w g. ⊎_elim inl (λ t.
          let below : t.0 < n = subst (λ m. t.0 < m) g.1 (let o = t.1 in cpu_below w t.0 o.at o.works) in
          inr (sum_some (cpu_left w) n t.0 below (on_left w t.0 t.1), (t.0, below, t.1)))
          (someone meaning w g.0);
    }

  -- as many rounds as there are steps to do are enough, and so are more
  within : (w : World O P C R) → IsOpening w → (is more : List ℕ) (m : ℕ) → steps_to_do (run meaning is w) ≤ m → HasRounds (length w.cpus) m more → AllDone (run meaning more (run meaning is w))
  within w o is more m enough t =
      let a = alive_first meaning w o in
      let v : World O P C R = run meaning is w in
      let g = alive_run meaning is w a in
      let same = cpus_stay meaning is w a in
      let few = subst (λ k. rank k v ≤ steps_to_do v) same (rank_few v) in
      reaches meaning (length w.cpus) (Good (length w.cpus)) AllDone (rank (length w.cpus)) (On meaning) (scripts_fair (length w.cpus)) m more v (g, same) (omega (arith, few, enough)) t

  pub steps_lem : (w : World O P C R) → IsOpening w → (is more : List ℕ) → HasRounds (length w.cpus) (steps_to_do (run meaning is w)) more → AllDone (run meaning more (run meaning is w))
  steps_lem w o is more t = within w o is more (steps_to_do (run meaning is w)) (omega arith) t

  pub scripts_lem : (w : World O P C R) → IsOpening w → (is more : List ℕ) → HasRounds (length w.cpus) (most_steps * entries_to_do (run meaning is w).cpus) more → AllDone (run meaning more (run meaning is w))
  scripts_lem w o is more t = let v : World O P C R = run meaning is w in within w o is more (most_steps * entries_to_do v.cpus) (steps_few v.cells v.cpus) t
