-- What a fair schedule reaches: a rank that no step raises, and that some CPU's next step lowers, whatever others do first.
use Rattle.std.proofs.{Common.{◌≡◌, ◌≢◌, ◌⊎◌, inl, inr, ⊎_elim, ℕ, zero, suc, ◌+◌, ◌<◌, ◌≤◌, true, List, [], ◌∷◌, refl, sym, ap, subst, arith}, lemmas.Bool.Decides.nat_tests}
use mathlib.{Core.Logic.dite, Core.Option.some}
use native.Mathlib.Decide.{ℕ_discrete}
use Rattle.event_log.specs.{declared.object.SeqObject.Ghosts, Distinct.has}
use Rattle.word_rule.specs.{Locks.IsLock, Machine.Rounds.{HasRounds, go_round}, Machine.World.{World, run, step}}
use Rattle.sound_run.specs.Orders.{numbers}
use Rattle.word_rule.proofs.{LineChanges.{has_more, never}, Lists.has_at, Orders.run_append, TurnsKeep.locks_keep}

-- each of the numbers is among them
among_numbers : (i a n : ℕ) → a ≤ i → i < a + n → has i (numbers a n) ≡ true
among_numbers i a zero le lt = absurd (omega (arith, le, lt))
among_numbers i a (suc n) le lt = dite (ℕ_discrete i a)
    (λ is. has_at (a ∷ numbers (suc a) n) 0 i (ap some (sym is)))
    (λ ne. has_more i a (numbers (suc a) n) (among_numbers i (suc a) n (omega (arith, le, ne)) (omega (arith, lt))))

-- who goes round does rounds
pub goes_round : (n k : ℕ) → HasRounds n k (go_round n k)
goes_round n zero = tt
goes_round n (suc k) = (numbers 0 n, go_round n k, refl, (λ i below. among_numbers i 0 n (omega arith) (omega (arith, below))), goes_round n k)

has_after : (j k : ℕ) (is : List ℕ) → j ≢ k → has j (k ∷ is) ≡ true → has j is ≡ true
has_after j k is ne e = grind (arith, nat_tests)

module _ {O P C R : Type 0} (meaning : Ghosts O P C R) (n : ℕ) (Good Done : World O P C R → Type 0) (rank : World O P C R → ℕ) (Ready : World O P C R → ℕ → Type 0) where
  -- what a step of CPU k does
  pub record Lowers (w : World O P C R) (k : ℕ) : Type 0 where
    pub good : Good (step meaning w k).0
    pub falls : rank (step meaning w k).0 ≤ rank w
    pub lower : Ready w k → rank (step meaning w k).0 < rank w
    pub stays : (j : ℕ) → j ≢ k → Ready w j → Ready (step meaning w k).0 j ⊎ (rank (step meaning w k).0 < rank w)

  -- a CPU that can lower the rank
  abbrev pub Someone : World O P C R → Type 0
  Someone w = (0 < rank w) × ((j : ℕ) × (j < n) × Ready w j)

  pub record Fair : Type 0 where
    pub stepped : (w : World O P C R) (k : ℕ) → Good w → Done (step meaning w k).0 ⊎ Lowers w k
    pub done : (w : World O P C R) (k : ℕ) → Done w → Done (step meaning w k).0
    pub someone : (w : World O P C R) → Good w → Done w ⊎ Someone w

  module _ (fair : Fair) where
    done_run : (is : List ℕ) (w : World O P C R) → Done w → Done (run meaning is w)
    done_run [] w d = d
    done_run (k ∷ is) w d = done_run is (step meaning w k).0 (fair.done w k d)

    -- what a stretch leaves
    abbrev Falls : List ℕ → World O P C R → Type 0
    Falls is w = Done (run meaning is w) ⊎ (Good (run meaning is w) × (rank (run meaning is w) ≤ rank w))

    abbrev Sinks : List ℕ → World O P C R → Type 0
    Sinks is w = Done (run meaning is w) ⊎ (Good (run meaning is w) × (rank (run meaning is w) < rank w))

    quiet : (is : List ℕ) (w : World O P C R) → Good w → Falls is w
    quiet [] w g = inr (g, omega arith)
    quiet (k ∷ is) w g = by (quiet is (step meaning w k).0) (fair.stepped w k g)
      where
        by : (Good (step meaning w k).0 → Falls is (step meaning w k).0) → Done (step meaning w k).0 ⊎ Lowers w k → Falls (k ∷ is) w
        by rest (inl d) = inl (done_run is (step meaning w k).0 d)
        by rest (inr s) = ⊎_elim inl (λ t. let a = s.falls in let b = t.1 in inr (t.0, omega (arith, a, b))) (rest s.good)

    -- a stretch that names a CPU that can lower the rank
    named : (is : List ℕ) (w : World O P C R) (j : ℕ) → Good w → has j is ≡ true → Ready w j → Sinks is w
    named [] w j g e ready = never e
    named (k ∷ is) w j g e ready = by (named is (step meaning w k).0 j) (fair.stepped w k g)
      where
        by : (Good (step meaning w k).0 → has j is ≡ true → Ready (step meaning w k).0 j → Sinks is (step meaning w k).0) → Done (step meaning w k).0 ⊎ Lowers w k → Sinks (k ∷ is) w
        by rest (inl d) = inl (done_run is (step meaning w k).0 d)
        by rest (inr s) = dite (ℕ_discrete j k)
            (λ same.
            let a = s.lower (subst (Ready w) same ready) in
            ⊎_elim inl (λ t. let b = t.1 in inr (t.0, omega (arith, a, b))) (quiet is (step meaning w k).0 s.good))
            (λ ne. ⊎_elim
            (λ still. let a = s.falls in ⊎_elim inl (λ t. let b = t.1 in inr (t.0, omega (arith, a, b))) (rest s.good (has_after j k is ne e) still))
            (λ lt. ⊎_elim inl (λ t. let b = t.1 in inr (t.0, omega (arith, lt, b))) (quiet is (step meaning w k).0 s.good))
            (s.stays j ne ready))

    -- as many rounds as the rank says are enough
    pub reaches : (m : ℕ) (is : List ℕ) (w : World O P C R) → Good w → rank w ≤ m → HasRounds n m is → Done (run meaning is w)
    reaches zero is w g le t = ⊎_elim (λ d. done_run is w d) (λ s. let some = s.0 in absurd (omega (arith, some, le))) (fair.someone w g)
    reaches (suc m) is w g le t = ⊎_elim (λ d. done_run is w d) (λ s. by (λ v good few. reaches m t.1 v good few t.4) s.1.0 s.1.1 s.1.2) (fair.someone w g)
      where
        by : ((v : World O P C R) → Good v → rank v ≤ m → Done (run meaning t.1 v)) → (j : ℕ) → j < n → Ready w j → Done (run meaning is w)
        by rest j below ready =
            subst (λ l. Done (run meaning l w)) (sym t.2) (subst Done (sym (run_append IsLock locks_keep meaning t.0 t.1 w))
            (⊎_elim (λ d. done_run t.1 (run meaning t.0 w) d)
            (λ q. let lt = q.1 in rest (run meaning t.0 w) q.0 (omega (arith, lt, le)))
            (named t.0 w j g (t.3 j below) ready)))
