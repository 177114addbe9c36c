-- Every call ends, whatever the others still have to do.
use Rattle.std.proofs.{Common.{◌≡◌, ◌≢◌, ◌⊎◌, inl, inr, ⊎_elim, ℕ, ◌+◌, ◌*◌, ◌<◌, ◌≤◌, ◌&&◌, Bool, true, false, true≢false, cond, List, [], ◌∷◌, length, slice_get, Option, Some, None, refl, sym, ap, ◌∙◌, subst, arith}, Math.Nat.mul-le-mul_right, lemmas.Bool.{cases_Bool, false_from_ne_true}}
use mathlib.{Core.Logic.dite, Core.Option.some}
use lib.ListN.{get_elem?}
use native.Mathlib.Decide.{ℕ_discrete}
use Rattle.event_log.specs.{declared.object.SeqObject.Ghosts, declared.entry.Todo.Todo, Distinct.has}
use Rattle.word_rule.specs.{StepKinds.ends_hold, Machine.Opening.IsOpening, Machine.Orders.{is_at, endings, ends_within}, Machine.Rounds.{HasRounds, most_steps, most_steps_of}, Machine.World.{World, CellState, left, run, step}}
use Rattle.word_rule.proofs.{Alive.{Alive, alive_first, alive_run, alive_step, cell_of_entry, cpus_stay, lined_at, whole_at}, Fairness.{Fair, Lowers, Someone, reaches}, IdleSteps.IsWholeLock, LineChanges.never, Lists.{has_at, has_tail}, ProgressLaws.most_few, WaitingTurns.{ReadyAt, rank_at, rank_few, rank_place, rank_some, someone_ready, turn_lowers}, WorldSteps.{StepsCell, StepsCpus, at_stays, cell_stepped, cpu_below, cpus_stepped, left_to, works_at}}
use Rattle.sound_run.proofs.Slices.{one_of}

module _ {O P C R : Type 0} (meaning : Ghosts O P C R) where
  -- an entry goes on while its hold doesn't end
  goes_on : (w : World O P C R) (k i : ℕ) → (k ≡ i → ends_hold (step meaning w k).1 ≡ false) → left_to i (step meaning w k).0 ≡ left_to i w
  goes_on w k i goes = dite (ℕ_discrete i k)
      (λ is. let s = cpus_stepped meaning w k in subst (λ z. left_to z (step meaning w k).0 ≡ left_to z w) (sym is) (s.own ∙ ap (λ b. cond b (left (left_to k w)) (left_to k w)) (goes (sym is))))
      (λ ne. let s = cpus_stepped meaning w k in s.others i ne)

  module _ (i x : ℕ) where
    not_ended : (is : List ℕ) (w : World O P C R) → is_at w i x ≡ true → ends_within meaning i x is w ≡ false → left_to i (run meaning is w) ≡ left_to i w
    not_ended [] w works e = refl
    not_ended (k ∷ is) w works e =
        let same = goes_on w k i unended in
        not_ended is (step meaning w k).0 (at_stays w (step meaning w k).0 i x same ∙ works) (later (ends_hold (step meaning w k).1 && is_at w k x) e) ∙ same
      where
        later : (b : Bool) → has i (cond b (k ∷ endings meaning x is (step meaning w k).0) (endings meaning x is (step meaning w k).0)) ≡ false → has i (endings meaning x is (step meaning w k).0) ≡ false
        later true f = has_tail i k (endings meaning x is (step meaning w k).0) f
        later false f = f

        now : (b c : Bool) → b ≡ true → c ≡ true → k ≡ i → has i (cond (b && c) (k ∷ endings meaning x is (step meaning w k).0) (endings meaning x is (step meaning w k).0)) ≡ false → ⊥
        now true true p q same f = true≢false (sym (has_at (k ∷ endings meaning x is (step meaning w k).0) 0 i (ap some same)) ∙ f)
        now true false p q same f = never q
        now false c p q same f = never p

        unended : k ≡ i → ends_hold (step meaning w k).1 ≡ false
        unended same = false_from_ne_true (ends_hold (step meaning w k).1) (λ ends. now (ends_hold (step meaning w k).1) (is_at w k x) ends (ap (λ z. is_at w z x) same ∙ works) same e)

    module _ (n m : ℕ) (i_below : i < n) where
      -- CPU i still does the same entry
      pub record Waits (w : World O P C R) : Type 0 where
        pub alive : Alive meaning w
        pub count : length w.cpus ≡ n
        pub cell : CellState O P C R
        pub there : slice_get w.cells x ≡ Some cell
        pub works : is_at w i x ≡ true
        pub size : length (left_to i w) ≡ m

      abbrev Over : World O P C R → Type 0
      Over w = length (left_to i w) < m

      abbrev rank_of : Option (CellState O P C R) → ℕ
      rank_of None = 0
      rank_of (Some c) = rank_at n i c.lock

      abbrev rank : World O P C R → ℕ
      rank w = rank_of (slice_get w.cells x)

      pub record Ready (w : World O P C R) (j : ℕ) : Type 0 where
        pub cell : CellState O P C R
        pub there : slice_get w.cells x ≡ Some cell
        pub works : is_at w j x ≡ true
        pub ready : ReadyAt i cell.lock j

      rank_is : (w : World O P C R) (c : CellState O P C R) → slice_get w.cells x ≡ Some c → rank w ≡ rank_at n i c.lock
      rank_is w c there = ap rank_of there

      module _ (w : World O P C R) (k : ℕ) (g : Waits w) where
        abbrev w' : World O P C R
        w' = (step meaning w k).0

        scripts : StepsCpus meaning w k (step meaning w k)
        scripts = cpus_stepped meaning w k

        s : StepsCell meaning w k x g.cell (step meaning w k)
        s = cell_stepped meaning w k x g.cell g.there

        whole : IsWholeLock n g.cell.lock
        whole = subst (λ z. IsWholeLock z g.cell.lock) g.count (whole_at meaning w g.alive x g.cell g.there)

        rank_was : rank w ≡ rank_at n i g.cell.lock
        rank_was = rank_is w g.cell g.there

        rank_now : rank w' ≡ rank_at n i s.after.lock
        rank_now = rank_is w' s.after s.there

        below : (j : ℕ) → is_at w j x ≡ true → j < n
        below j on = subst (λ z. j < z) g.count (cpu_below w j x on)

        waits_on : left_to i w' ≡ left_to i w → Waits w'
        waits_on same = record {
          alive = alive_step meaning w k g.alive;
          count = cpus_stay meaning (k ∷ []) w g.alive ∙ g.count;
          cell = s.after;
          there = s.there;
          works = at_stays w w' i x same ∙ g.works;
          size = ap length same ∙ g.size;
        }

        -- the cell of one that is ready is the same
        ready_there : (j : ℕ) (r : Ready w j) → ReadyAt i g.cell.lock j
        ready_there j r = subst (λ (z : CellState O P C R). ReadyAt i z.lock j) (one_of r.cell g.cell (slice_get w.cells x) r.there g.there) r.ready

        elsewhere : is_at w k x ≡ false → Lowers meaning n Waits Over rank Ready w k
        elsewhere off =
            let ne : i ≢ k = λ is. true≢false (sym g.works ∙ (ap (λ z. is_at w z x) is ∙ off)) in
            let lock_is = ap (rank_at n i) (s.elsewhere off) in
            let was = rank_was in let now = rank_now in
            record {
              good = waits_on (scripts.others i ne);
              falls = omega (arith, lock_is, was, now);
              lower = λ r. absurd (true≢false (sym r.works ∙ off));
              stays = λ j other r. inl record { cell = s.after; there = s.there; works = at_stays w w' j x (scripts.others j other) ∙ r.works; ready = subst (λ z. ReadyAt i z j) (sym (s.elsewhere off)) (ready_there j r) };
            }

        here : is_at w k x ≡ true → (k ≡ i → ends_hold (step meaning w k).1 ≡ false) → Lowers meaning n Waits Over rank Ready w k
        here on goes =
            let t = turn_lowers n i g.cell.lock whole k (below k on) (λ is. sym (ap ends_hold (s.here on).1) ∙ goes is) in
            let lock_is = ap (rank_at n i) (s.here on).0 in
            let was = rank_was in let now = rank_now in
            let le = t.falls in
            record {
              good = waits_on (goes_on w k i goes);
              falls = omega (arith, lock_is, was, now, le);
              lower = λ r. let lt = t.lower (ready_there k r) in omega (arith, lock_is, was, now, lt);
              stays = λ j other r. inl record { cell = s.after; there = s.there; works = at_stays w w' j x (scripts.others j other) ∙ r.works; ready = subst (λ z. ReadyAt i z j) (sym (s.here on).0) (t.stays j (below j r.works) other (ready_there j r)) };
            }

        -- its hold ends
        over : k ≡ i → ends_hold (step meaning w k).1 ≡ true → Over w'
        over is ends =
            let t = works_at w i x g.works in
            let gone : left_to i w' ≡ t.more = subst (λ z. left_to z w' ≡ left (left_to z w)) is (scripts.own ∙ ap (λ b. cond b (left (left_to k w)) (left_to k w)) ends) ∙ ap left t.is in
            let a = ap length gone in let b = ap length t.is in let c = g.size in
            omega (arith, a, b, c)

        stepped : Over w' ⊎ Lowers meaning n Waits Over rank Ready w k
        stepped = ⊎_elim
            (λ on. dite (ℕ_discrete k i)
            (λ is. ⊎_elim (λ ends. inl (over is ends)) (λ goes. inr (here on (λ _. goes))) (cases_Bool (ends_hold (step meaning w k).1)))
            (λ ne. inr (here on (λ is. absurd (ne is)))))
            (λ off. inr (elsewhere off))
            (cases_Bool (is_at w k x))

      stays_over : (w : World O P C R) (k : ℕ) → Over w → Over (step meaning w k).0
      stays_over w k d = dite (ℕ_discrete i k)
          (λ is.
          let s = cpus_stepped meaning w k in
          let a = ap length s.own in
          let b = shorter (ends_hold (step meaning w k).1) (left_to k w) in
          let c : length (left_to k w) < m = subst (λ z. length (left_to z w) < m) is d in
          subst (λ z. length (left_to z (step meaning w k).0) < m) (sym is) (omega (arith, a, b, c)))
          (λ ne. let s = cpus_stepped meaning w k in let a = ap length (s.others i ne) in omega (arith, a, d))
        where
          shorter : (b : Bool) (l : List (Todo O P C R)) → length (cond b (left l) l) ≤ length l
          shorter true [] = omega arith
          shorter true (y ∷ ys) = omega arith
          shorter false l = omega arith

      ready_one : (w : World O P C R) → Waits w → Over w ⊎ Someone meaning n Waits Over rank Ready w
      ready_one w g =
          let h = subst (λ z. IsWholeLock z g.cell.lock) g.count (whole_at meaning w g.alive x g.cell g.there) in
          let t = someone_ready n i g.cell.lock h i_below in
          let works : is_at w t.0 x ≡ true = ⊎_elim (λ there. lined_at meaning w g.alive x g.cell g.there t.0 there) (λ is. ap (λ z. is_at w z x) is ∙ g.works) t.2 in
          let pos = rank_some n i g.cell.lock in let was = rank_is w g.cell g.there in
          inr (omega (arith, pos, was), (t.0, subst (λ z. t.0 < z) g.count (cpu_below w t.0 x works), record { cell = g.cell; there = g.there; works = works; ready = t.1 }))

      calls_fair : Fair meaning n Waits Over rank Ready
      calls_fair = record { stepped = stepped; done = stays_over; someone = ready_one }

  -- as many rounds as the rank says are enough
  within : (w : World O P C R) → IsOpening w → (is more : List ℕ) (i x m : ℕ) → is_at (run meaning is w) i x ≡ true
      → ((c : CellState O P C R) → slice_get (run meaning is w).cells x ≡ Some c → IsWholeLock (length w.cpus) c.lock → rank_at (length w.cpus) i c.lock ≤ m)
      → HasRounds (length w.cpus) m more → ends_within meaning i x more (run meaning is w) ≡ true
  within w o is more i x m works few t = ⊎_elim (λ e. e) (λ f. absurd (not f)) (cases_Bool (ends_within meaning i x more (run meaning is w)))
    where
      not : ends_within meaning i x more (run meaning is w) ≡ false → ⊥
      not f =
          let v : World O P C R = run meaning is w in
          let n : ℕ = length w.cpus in
          let a = alive_first meaning w o in
          let g = alive_run meaning is w a in
          let count : length v.cpus ≡ n = cpus_stay meaning is w a in
          let e = works_at v i x works in
          let c = cell_of_entry meaning v g i e.todo e.more e.is in
          let there : slice_get v.cells x ≡ Some c.0 = subst (λ z. slice_get v.cells z ≡ Some c.0) e.on c.1 in
          let below : i < n = subst (λ z. i < z) count (cpu_below v i x works) in
          let size : ℕ = length (left_to i v) in
          let h : IsWholeLock n c.0.lock = subst (λ z. IsWholeLock z c.0.lock) count (whole_at meaning v g x c.0 there) in
          let le = few c.0 there h in
          let was = rank_is i x n size below v c.0 there in
          let over = reaches meaning n (Waits i x n size below) (Over i x n size below) (rank i x n size below) (Ready i x n size below) (calls_fair i x n size below) m more v record { alive = g; count = count; cell = c.0; there = there; works = works; size = refl } (omega (arith, le, was)) t in
          let same = ap length (not_ended i x more v works f) in
          omega (arith, over, same)

  pub calls_lem : (w : World O P C R) → IsOpening w → (is more : List ℕ) (i x : ℕ) → is_at (run meaning is w) i x ≡ true → HasRounds (length w.cpus) (most_steps * (length w.cpus + 1)) more → ends_within meaning i x more (run meaning is w) ≡ true
  calls_lem w o is more i x works t = within w o is more i x (most_steps * (length w.cpus + 1)) works
      (λ c _ h. let few = rank_few (length w.cpus) i c.lock h in let most = mul-le-mul_right (length w.cpus + 1) (most_few c.lock.kind) in omega (arith, few, most)) t

  -- by the kind of the cell's lock
  pub cell_lem : (w : World O P C R) → IsOpening w → (is more : List ℕ) (i x : ℕ) (c : CellState O P C R) → slice_get (run meaning is w).cells x ≡ Some c → is_at (run meaning is w) i x ≡ true → HasRounds (length w.cpus) (most_steps_of c.lock.kind * (length w.cpus + 1)) more → ends_within meaning i x more (run meaning is w) ≡ true
  cell_lem w o is more i x c there works t = within w o is more i x (most_steps_of c.lock.kind * (length w.cpus + 1)) works
      (λ d there' h. subst (λ (z : CellState O P C R). rank_at (length w.cpus) i d.lock ≤ most_steps_of z.lock.kind * (length w.cpus + 1)) (sym (one_of c d (slice_get (run meaning is w).cells x) there there')) (rank_few (length w.cpus) i d.lock h)) t

  -- whoever stands in line: by its place
  pub place_lem : (w : World O P C R) → IsOpening w → (is more : List ℕ) (i x p : ℕ) (c : CellState O P C R) → slice_get (run meaning is w).cells x ≡ Some c → get_elem? c.lock.line.cpus p ≡ some i → HasRounds (length w.cpus) (most_steps_of c.lock.kind * (p + 2)) more → ends_within meaning i x more (run meaning is w) ≡ true
  place_lem w o is more i x p c there at t =
      let g = alive_run meaning is w (alive_first meaning w o) in
      within w o is more i x (most_steps_of c.lock.kind * (p + 2)) (lined_at meaning (run meaning is w) g x c there i (has_at c.lock.line.cpus p i at))
      (λ d there' _. subst (λ (z : CellState O P C R). rank_at (length w.cpus) i z.lock ≤ most_steps_of c.lock.kind * (p + 2)) (one_of c d (slice_get (run meaning is w).cells x) there there') (rank_place (length w.cpus) i c.lock p at)) t
