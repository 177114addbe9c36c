-- A control: a test-and-set lock makes progress and isn't fair, since others may take the object before a caller again and again.
use Rattle.std.proofs.Common.{◌≡◌, ◌≢◌, ◌⊎◌, inl, inr, ℕ, zero, suc, ◌<◌, ◌≤◌, ◌==◌, Bool, true, false, true≢false, not, cond, List, [], ◌∷◌, length, refl, sym, ap, subst, ◌∙◌, arith}
use mathlib.Core.Option.{some}
use lib.ListN.{get_elem?}
use Rattle.word_rule.specs.{declared.lock_kind.Stage.Stage, declared.lock_kind.Stage.TheVariants.{Idle, Ticket}, declared.lock_kind.TicketStage.TheVariants.Served, Line.{alone_with_it, leaving}, LockDefinition.{IsState, opening_state}, Locks.holding, StepKinds.ends_hold, TestAndSet.{TestAndSetState, turn_at, StandsAt, test_and_set, done_by, rounds, passed_in}}
use Rattle.word_rule.proofs.{LineChanges.never, Lists.has_at, LockProgress.{OneOnAt, LockFairness, LockProgress}, LockStates.{in_cell, stands_at}, Moves.{moved_same, moved_else}}
use Rattle.word_rule.specs.declared.machine.step_done.StepDone.TheVariants as steps

-- ---- it makes progress

abbrev left : Stage → ℕ
left Idle = 2
left q = 1

some_left : (q : Stage) → 0 < left q
some_left Idle = omega arith
some_left q = omega arith

few_left : (q : Stage) → left q ≤ 2
few_left Idle = omega arith
few_left q = omega arith

abbrev on_at : Bool → Stage → Bool
on_at out Idle = not out
on_at out (Ticket (Served t)) = true
on_at out q = false

module _ (l : TestAndSetState) (i : ℕ) where
  others_by : (x : ℕ) → x ≢ i → (out : Bool) (q : Stage) → (turn_at l i out q).0.line.stage x ≡ l.line.stage x
  others_by x ne true Idle = refl
  others_by x ne false Idle = moved_else l.line.stage i (Ticket (Served 0)) x ne
  others_by x ne out (Ticket (Served t)) = moved_else l.line.stage i Idle x ne
  others_by x ne out q = refl

  nearer_by : (out : Bool) (q : Stage) → on_at out q ≡ true → ends_hold (turn_at l i out q).1 ≡ false → left ((turn_at l i out q).0.line.stage i) < left q
  nearer_by true Idle on unended = never on
  nearer_by false Idle on unended = subst (λ z. left z < 2) (sym (moved_same l.line.stage i (Ticket (Served 0)))) (omega arith)
  nearer_by out (Ticket (Served t)) on unended = never (sym unended)
  nearer_by out q on unended = never on

  in_vain_by : (out : Bool) (q : Stage) → on_at out q ≡ false → ((turn_at l i out q).0.line.stage i ≡ l.line.stage i) × (ends_hold (turn_at l i out q).1 ≡ false)
  in_vain_by true Idle off = (refl, refl)
  in_vain_by false Idle off = never (sym off)
  in_vain_by out (Ticket (Served t)) off = never (sym off)
  in_vain_by out q off = (refl, refl)

  ended_by : (out : Bool) (q : Stage) → ends_hold (turn_at l i out q).1 ≡ true → (holding q ≡ true) × ((turn_at l i out q).0.line.stage i ≡ Idle)
  ended_by true Idle e = never e
  ended_by false Idle e = never e
  ended_by out (Ticket (Served t)) e = (refl, moved_same l.line.stage i Idle)
  ended_by out q e = never e

module _ (n : ℕ) (l : TestAndSetState) (h : IsState test_and_set n l) where
  -- while the object is at home each caller makes progress, and while it is out the holder does
  at_home : (i : ℕ) → i < n → l.line.out ≡ false → (q : Stage) → l.line.stage i ≡ q → on_at l.line.out q ≡ true
  at_home i below home Idle e = ap not home
  at_home i below home (Ticket (Served t)) e = refl
  at_home i below home q e = absurd (stands_at test_and_set n l h i q below e)

  stays_by : (i j : ℕ) → i < n → j ≢ i → (q : Stage) → l.line.stage j ≡ q → on_at l.line.out q ≡ true → (on_at (test_and_set.turn l i).0.line.out ((test_and_set.turn l i).0.line.stage j) ≡ true) ⊎ (on_at l.line.out (l.line.stage i) ≡ true)
  stays_by i j below ne (Ticket (Served t)) e on = inl (ap (on_at (test_and_set.turn l i).0.line.out) (others_by l i j ne l.line.out (l.line.stage i) ∙ e))
  stays_by i j below ne Idle e on = inr (at_home i below (not_true l.line.out on) (l.line.stage i) refl)
    where
      not_true : (b : Bool) → not b ≡ true → b ≡ false
      not_true true e = never e
      not_true false e = refl
  stays_by i j below ne q e on = never on

  -- the first of the line has the object
  first_on : (x : ℕ) → get_elem? l.line.cpus 0 ≡ some x → (q : Stage) → l.line.stage x ≡ q → on_at l.line.out q ≡ true
  first_on x there Idle e = absurd (true≢false (sym (has_at l.line.cpus 0 x there) ∙ stands_at test_and_set n l h x Idle (in_cell test_and_set n l h 0 x there) e))
  first_on x there (Ticket (Served t)) e = refl
  first_on x there q e = absurd (stands_at test_and_set n l h x q (in_cell test_and_set n l h 0 x there) e)

  someone : (i : ℕ) → i < n → (out : Bool) → l.line.out ≡ out → OneOnAt l.line.cpus (λ j. on_at l.line.out (l.line.stage j)) i
  someone i below false home = (i, inr refl, at_home i below home (l.line.stage i) refl)
  someone i below true away =
      let x = head (l.line.cpus) (h.busy away) in
      (x.0, inl (has_at l.line.cpus 0 x.0 x.1), first_on x.0 x.1 (l.line.stage x.0) refl)
    where
      head : (cpus : List ℕ) → 0 < length cpus → (x : ℕ) × (get_elem? cpus 0 ≡ some x)
      head [] any = absurd (omega (arith, any))
      head (x ∷ cpus) any = (x, refl)

pub makes_progress : LockProgress test_and_set 2
makes_progress = record {
  left = left;
  some_left = some_left;
  few_left = few_left;
  gets_on = λ l i. on_at l.line.out (l.line.stage i);
  others = λ l i x ne. others_by l i x ne l.line.out (l.line.stage i);
  nearer = λ n l i h below whole on unended. nearer_by l i l.line.out (l.line.stage i) on unended;
  in_vain = λ l i off. in_vain_by l i l.line.out (l.line.stage i) off;
  ended = λ l i e. ended_by l i l.line.out (l.line.stage i) e;
  stays_or = λ n l i j h below j_below ne on. stays_by n l h i j below ne (l.line.stage j) refl on;
  someone = λ n l i h below. someone n l h i below l.line.out refl;
}

-- ---- and it isn't fair

-- CPU 0 has the object, and CPU 1 wants it
abbrev held : TestAndSetState
held = record { line = record { cpus = 0 ∷ []; out = true; stage = λ x. cond (x == 0) (Ticket (Served 0)) Idle }; extra = tt }

held_is : IsState test_and_set 2 held
held_is = record {
  distinct = (omega arith, refl, tt);
  busy = λ out. omega arith;
  stood = stood;
  extra = tt;
}
  where
    stood : (x : ℕ) → x < 2 → StandsAt (0 ∷ []) true x (held.line.stage x)
    stood zero below = record { there = refl; object = refl }
    stood (suc zero) below = refl
    stood (suc (suc x)) below = absurd (omega (arith, below))

-- by fairness CPU 1 makes progress, as it isn't in line; but its turn changes nothing
pub is_unfair : (p : LockProgress test_and_set 2) → LockFairness test_and_set 2 p → ⊥
is_unfair p fair =
    let on = fair.outside 2 held 1 held_is (omega arith) refl in
    let nearer = p.nearer 2 held 1 held_is (omega arith) refl on refl in
    omega (arith, nearer)

-- both CPUs are idle, and the object is at home
record AtRest (l : TestAndSetState) : Type 0 where
  home : l.line.out ≡ false
  none : l.line.stage 0 ≡ Idle
  other : l.line.stage 1 ≡ Idle

one_not : (let n : ℕ = 1 in n) ≢ 0
one_not e = absurd (omega (arith, e))

-- so in each round CPU 0 gets the object, and CPU 1 never does
passed : (n : ℕ) (l : TestAndSetState) → AtRest l → done_by test_and_set l (rounds n) ≡ passed_in n
passed zero l h = refl
passed (suc n) l h =
    let served : Stage = Ticket (Served 0) in
    let taken : TestAndSetState = record l { line = alone_with_it l.line 0 served } in
    let gone : TestAndSetState = record taken { line = leaving taken.line 0 } in
    let at_first : (test_and_set.turn l 0) ≡ (taken, steps.Look true) = ap (λ b. turn_at l 0 b (l.line.stage 0)) h.home ∙ ap (turn_at l 0 false) h.none in
    let at_second : (test_and_set.turn taken 1) ≡ (taken, steps.Look false) = ap (turn_at taken 1 true) (moved_else l.line.stage 0 served 1 one_not ∙ h.other) in
    let at_third : (test_and_set.turn taken 0) ≡ (gone, steps.Serve) = ap (turn_at taken 0 true) (moved_same l.line.stage 0 served) in
    let again : AtRest gone = record {
      home = refl;
      none = moved_same taken.line.stage 0 Idle;
      other = moved_else taken.line.stage 0 Idle 1 one_not ∙ (moved_else l.line.stage 0 served 1 one_not ∙ h.other);
    } in
    let rest = passed n gone again in
    ap (λ p. let q = test_and_set.turn p.0 1 in let r = test_and_set.turn q.0 0 in (0, p.1) ∷ (1, q.1) ∷ (0, r.1) ∷ done_by test_and_set r.0 (rounds n)) at_first
    ∙ (ap (λ p. (0, steps.Look true) ∷ (1, p.1) ∷ (0, (test_and_set.turn p.0 0).1) ∷ done_by test_and_set (test_and_set.turn p.0 0).0 (rounds n)) at_second
    ∙ (ap (λ p. (0, steps.Look true) ∷ (1, steps.Look false) ∷ (0, p.1) ∷ done_by test_and_set p.0 (rounds n)) at_third
    ∙ ap (λ l. (0, steps.Look true) ∷ (1, steps.Look false) ∷ (0, steps.Serve) ∷ l) rest))

pub passed_from_opening : (first n : ℕ) → done_by test_and_set (opening_state test_and_set first) (rounds n) ≡ passed_in n
passed_from_opening first n = passed n (opening_state test_and_set first) (record { home = refl; none = refl; other = refl })
