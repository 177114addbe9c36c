-- What is true of a world in every run, so that its CPUs get on; and that one of them does while an entry is left.
use Rattle.std.proofs.{Common.{◌≡◌, ◌≢◌, ◌⊎◌, inl, inr, ⊎_elim, ℕ, zero, suc, true, false, true≢false, cond, eq-eqb, List, [], ◌∷◌, length, slice_get, Option, Some, None, refl, sym, ap, ◌∙◌, subst}, lemmas.Bool.cases_Bool}
use Rattle.std.specs.List.{AllByRecursion}
use mathlib.Core.Logic.{dite}
use native.Mathlib.Decide.{ℕ_discrete}
use Rattle.event_log.specs.{declared.object.SeqObject.Ghosts, declared.entry.Todo.Todo, Distinct.{has, AreDistinctBelow}}
use Rattle.event_log.proofs.Lists.{some_at}
use Rattle.word_rule.specs.{Locks.Lock, StepKinds.ends_hold, Replay.entries_left, Machine.Opening.IsOpening, Machine.Orders.is_at, Machine.Rounds.{AllDone, GetsOn}, Machine.SoundWorld.{IsTodo, SoundWorld}, Machine.World.{World, CellState, CpuState, left, run, step}}
use Rattle.word_rule.proofs.{IdleSteps.{IsWholeLock, whole_keeps, free}, LineChanges.{changed, has_more, never, Joined, Left, Same}, Lists.has_pushed, Openings.opening_sound, Orders.{AreLocks, IsCell, Lines, line_in, locks_stay, same_cpus, stepped}, ProgressLaws.{gets_on, moves_on, on_moves, someone_at, stays, stays_or}, SoundSteps.sound_step, WorldSteps.{StepsCpus, StepsCell, left_to, at_stays, at_entry, cpu_below, cpus_stepped, cell_stepped}}

module _ {O P C R : Type 0} (meaning : Ghosts O P C R) where
  abbrev pub AreWhole : World O P C R → Type 0
  AreWhole w = AreLocks IsWholeLock whole_keeps meaning w

  -- each lock is a lock of the CPUs, who is in line works there, and each entry can be done
  pub record Alive (w : World O P C R) : Type 0 where
    pub locks : AreWhole w
    pub lined : (x j : ℕ) → has j (line_in (slice_get w.cells x)) ≡ true → is_at w j x ≡ true
    pub sound : SoundWorld meaning w

  module _ (w : World O P C R) (a : Alive w) where
    -- a cell's lock
    pub whole_at : (x : ℕ) (c : CellState O P C R) → slice_get w.cells x ≡ Some c → IsWholeLock (length w.cpus) c.lock
    whole_at x c there = subst (λ (o : Option (CellState O P C R)). IsCell IsWholeLock whole_keeps meaning (length w.cpus) o) there (a.locks x)

    pub lined_at : (x : ℕ) (c : CellState O P C R) → slice_get w.cells x ≡ Some c → (j : ℕ) → has j c.lock.line.cpus ≡ true → is_at w j x ≡ true
    lined_at x c there j e = a.lined x j (ap (λ (o : Option (CellState O P C R)). has j (line_in o)) there ∙ e)

    distinct_in : (x : ℕ) → AreDistinctBelow (length w.cpus) (line_in (slice_get w.cells x))
    distinct_in x = by (slice_get w.cells x) (a.locks x)
      where
        by : (o : Option (CellState O P C R)) → IsCell IsWholeLock whole_keeps meaning (length w.cpus) o → AreDistinctBelow (length w.cpus) (line_in o)
        by None h = tt
        by (Some c) h = let s = h.0 in s.distinct

    -- the cell of the entry that is left
    pub cell_of_entry : (i : ℕ) (todo : Todo O P C R) (more : List (Todo O P C R)) → left_to i w ≡ todo ∷ more → (c : CellState O P C R) × (slice_get w.cells todo.object ≡ Some c)
    cell_of_entry i todo more is = by (slice_get w.cpus i) refl is
      where
        by : (o : Option (CpuState O P C R)) → slice_get w.cpus i ≡ o → entries_left o ≡ todo ∷ more → (c : CellState O P C R) × (slice_get w.cells todo.object ≡ Some c)
        by None e f = let g : [] ≡ todo ∷ more = f in cc
        by (Some cpu) e f =
            let able = subst (AllByRecursion (λ (t : Todo O P C R). IsTodo (length w.cells) t)) f (a.sound.able i cpu e) in
            some_at w.cells todo.object able.0.on_cell

    module _ (k x j : ℕ) where
      abbrev w' : World O P C R
      w' = (step meaning w k).0

      abbrev old : List ℕ
      old = line_in (slice_get w.cells x)

      abbrev new : List ℕ
      new = line_in (slice_get w'.cells x)

      still : left_to j w' ≡ left_to j w → is_at w j x ≡ true → is_at w' j x ≡ true
      still e on = at_stays w w' j x e ∙ on

      unended : ends_hold (step meaning w k).1 ≡ false → left_to j w' ≡ left_to j w
      unended f = dite (ℕ_discrete j k)
          (λ is. let s = cpus_stepped meaning w k in subst (λ z. left_to z w' ≡ left_to z w) (sym is) (s.own ∙ ap (λ b. cond b (left (left_to k w)) (left_to k w)) f))
          (λ ne. let s = cpus_stepped meaning w k in s.others j ne)

      lined_after : has j new ≡ true → is_at w' j x ≡ true
      lined_after e = ⊎_elim at_it beside (cases_Bool (is_at w k x))
        where
          r : Lines IsWholeLock whole_keeps meaning w k x (step meaning w k)
          r = stepped IsWholeLock whole_keeps meaning w k x a.locks

          beside : is_at w k x ≡ false → is_at w' j x ≡ true
          beside f =
              let on : is_at w j x ≡ true = a.lined x j (sym (ap (has j) (r.there f)) ∙ e) in
              let s = cpus_stepped meaning w k in
              still (s.others j (λ is. true≢false (sym on ∙ (ap (λ z. is_at w z x) is ∙ f)))) on

          at_it : is_at w k x ≡ true → is_at w' j x ≡ true
          at_it t = by (changed (step meaning w k).1 k old new (r.here t))
            where
              by : Joined (step meaning w k).1 k old new ⊎ (Left (step meaning w k).1 k old new ⊎ Same (step meaning w k).1 k old new) → is_at w' j x ≡ true
              by (inl c) = ⊎_elim (λ was. still (unended c.1) (a.lined x j was)) (λ is. still (unended c.1) (ap (λ z. is_at w z x) is ∙ t)) (has_pushed j k old (sym (ap (has j) c.0) ∙ e))
              by (inr (inl c)) =
                  let d : AreDistinctBelow (length w.cpus) (k ∷ new) = subst (AreDistinctBelow (length w.cpus)) c.0 (distinct_in x) in
                  let s = cpus_stepped meaning w k in
                  still (s.others j (λ is. true≢false (sym e ∙ (ap (λ z. has z new) is ∙ d.1)))) (a.lined x j (ap (has j) c.0 ∙ has_more j k new e))
              by (inr (inr c)) = still (unended c.1) (a.lined x j (sym (ap (has j) c.0) ∙ e))

  pub alive_step : (w : World O P C R) (k : ℕ) → Alive w → Alive (step meaning w k).0
  alive_step w k a = record {
    locks = locks_stay IsWholeLock whole_keeps meaning w k a.locks;
    lined = λ x j e. lined_after w a k x j e;
    sound = sound_step meaning w k a.sound;
  }

  pub alive_run : (is : List ℕ) (w : World O P C R) → Alive w → Alive (run meaning is w)
  alive_run [] w a = a
  alive_run (k ∷ is) w a = alive_run is (step meaning w k).0 (alive_step w k a)

  pub alive_first : (w : World O P C R) → IsOpening w → Alive w
  alive_first w o = record {
    locks = free meaning w o;
    lined = λ x j e. nobody x j (slice_get w.cells x) refl e;
    sound = opening_sound meaning w o;
  }
    where
      nobody : (x j : ℕ) (q : Option (CellState O P C R)) → slice_get w.cells x ≡ q → has j (line_in q) ≡ true → is_at w j x ≡ true
      nobody x j None f e = never e
      nobody x j (Some c) f e = let a = o.cells x c f in never (sym (ap (λ (l : Lock). has j l.line.cpus) a.free) ∙ e)

  pub cpus_stay : (is : List ℕ) (w : World O P C R) → Alive w → length (run meaning is w).cpus ≡ length w.cpus
  cpus_stay is w a = same_cpus IsWholeLock whole_keeps meaning is w a.locks

  -- a CPU's next step gets it on, at the cell where it works
  pub record On (w : World O P C R) (i : ℕ) : Type 0 where
    pub at : ℕ
    pub cell : CellState O P C R
    pub works : is_at w i at ≡ true
    pub there : slice_get w.cells at ≡ Some cell
    pub on : gets_on cell.lock i ≡ true

  -- which is so exactly where it takes it to another place
  pub on_is : (w : World O P C R) (i : ℕ) → Alive w → On w i → GetsOn w i
  on_is w i a o = record { at = o.at; cell = o.cell; works = o.works; there = o.there; moves = on_moves (length w.cpus) o.cell.lock (whole_at w a o.at o.cell o.there) i (cpu_below w i o.at o.works) o.on }

  pub is_on : (w : World O P C R) (i : ℕ) → Alive w → GetsOn w i → On w i
  is_on w i a g = record { at = g.at; cell = g.cell; works = g.works; there = g.there; on = moves_on (length w.cpus) g.cell.lock (whole_at w a g.at g.cell g.there) i (cpu_below w i g.at g.works) g.moves }

  module _ (w : World O P C R) (j k : ℕ) (a : Alive w) (ne : j ≢ k) (o : On w j) where
    s : StepsCell meaning w k o.at o.cell (step meaning w k)
    s = cell_stepped meaning w k o.at o.cell o.there

    c : StepsCpus meaning w k (step meaning w k)
    c = cpus_stepped meaning w k

    now : gets_on s.after.lock j ≡ true → On (step meaning w k).0 j
    now on = record { at = o.at; cell = s.after; works = at_stays w (step meaning w k).0 j o.at (c.others j ne) ∙ o.works; there = s.there; on = on }

    elsewhere : is_at w k o.at ≡ false → On (step meaning w k).0 j
    elsewhere f = now (ap (λ (l : Lock). gets_on l j) (s.elsewhere f) ∙ o.on)

    -- it does so also after another CPU's step
    pub on_stays : On (step meaning w k).0 j
    on_stays = ⊎_elim here elsewhere (cases_Bool (is_at w k o.at))
      where
        here : is_at w k o.at ≡ true → On (step meaning w k).0 j
        here t = now (ap (λ (l : Lock). gets_on l j) (s.here t).0 ∙ stays (length w.cpus) o.cell.lock (whole_at w a o.at o.cell o.there) k (cpu_below w k o.at t) j (cpu_below w j o.at o.works) ne o.on)

    -- or, at a lock at which not every call ends, that step gets the other on
    pub on_stays_or : On (step meaning w k).0 j ⊎ On w k
    on_stays_or = ⊎_elim here (λ f. inl (elsewhere f)) (cases_Bool (is_at w k o.at))
      where
        here : is_at w k o.at ≡ true → On (step meaning w k).0 j ⊎ On w k
        here t = ⊎_elim
            (λ still. inl (now (ap (λ (l : Lock). gets_on l j) (s.here t).0 ∙ still)))
            (λ other. inr record { at = o.at; cell = o.cell; works = t; there = o.there; on = other })
            (stays_or (length w.cpus) o.cell.lock (whole_at w a o.at o.cell o.there) k (cpu_below w k o.at t) j (cpu_below w j o.at o.works) ne o.on)

  -- where a CPU works, it gets on or another does that works there
  pub on_cell : (w : World O P C R) → Alive w → (x i : ℕ) (c : CellState O P C R) → slice_get w.cells x ≡ Some c → is_at w i x ≡ true → (j : ℕ) × On w j
  on_cell w a x i c there works =
      let t = someone_at (length w.cpus) c.lock (whole_at w a x c there) i (cpu_below w i x works) in
      let at_it : is_at w t.0 x ≡ true = ⊎_elim (λ e. lined_at w a x c there t.0 e) (λ is. ap (λ z. is_at w z x) is ∙ works) t.1 in
      (t.0, record { at = x; cell = c; works = at_it; there = there; on = t.2 })

  -- a CPU with an entry left, if there is one
  abbrev pub Busy : List (CpuState O P C R) → Type 0
  Busy cpus = (i : ℕ) × (todo : Todo O P C R) × (more : List (Todo O P C R)) × (entries_left (slice_get cpus i) ≡ todo ∷ more)

  pub busy : (cpus : List (CpuState O P C R)) → AllByRecursion (λ (c : CpuState O P C R). c.todo ≡ []) cpus ⊎ Busy cpus
  busy [] = inl tt
  busy (c ∷ cs) = by c.todo refl (busy cs)
    where
      by : (todos : List (Todo O P C R)) → c.todo ≡ todos → AllByRecursion (λ (c : CpuState O P C R). c.todo ≡ []) cs ⊎ Busy cs → AllByRecursion (λ (c : CpuState O P C R). c.todo ≡ []) (c ∷ cs) ⊎ Busy (c ∷ cs)
      by (todo ∷ more) e _ = inr (zero, todo, more, e)
      by [] e (inl all) = inl (e, all)
      by [] e (inr t) = inr (suc t.0, t.1, t.2, t.3)

  -- nobody is stuck
  pub someone : (w : World O P C R) → Alive w → AllDone w ⊎ ((j : ℕ) × On w j)
  someone w a = ⊎_elim inl found (busy w.cpus)
    where
      found : Busy w.cpus → AllDone w ⊎ ((j : ℕ) × On w j)
      found t =
          let c = cell_of_entry w a t.0 t.1 t.2 t.3 in
          inr (on_cell w a t.1.object t.0 c.0 c.1 (at_entry w t.0 t.1 t.2 t.3 t.1.object ∙ eq-eqb t.1.object t.1.object refl))

  pub gets_lem : (w : World O P C R) → IsOpening w → (is : List ℕ) → AllDone (run meaning is w) ⊎ ((i : ℕ) × GetsOn (run meaning is w) i)
  gets_lem w o is =
      let a = alive_run is w (alive_first w o) in
      ⊎_elim inl (λ t. inr (t.0, on_is (run meaning is w) t.0 a t.1)) (someone (run meaning is w) a)

  pub stays_lem : (w : World O P C R) → IsOpening w → (is : List ℕ) (i j : ℕ) → i ≢ j → GetsOn (run meaning is w) i → GetsOn (step meaning (run meaning is w) j).0 i
  stays_lem w o is i j ne on =
      let v : World O P C R = run meaning is w in
      let a = alive_run is w (alive_first w o) in
      on_is (step meaning v j).0 i (alive_step v j a) (on_stays v i j a ne (is_on v i a on))
