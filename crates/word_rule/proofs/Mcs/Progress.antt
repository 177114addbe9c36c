-- At an MCS lock nobody is stuck: a step is in vain only where one looks that isn't the first, and where a leaving holder looks for
-- a follower that hasn't linked itself yet. That one then gets on.
use Rattle.std.proofs.{Common.{◌≡◌, ◌≢◌, ◌⊎◌, inl, inr, ⊎_elim, ℕ, suc, ◌<◌, ◌≤◌, Bool, true, false, true≢false, cond, List, [], ◌∷◌, ◌++◌, refl, sym, ap, ◌∙◌, subst, arith, Option, Some, None}, lemmas.Bool.{cases_Bool, false_from_ne_true}}
use mathlib.{Core.Logic.dite, Core.Option.{some, some-injective}}
use native.Mathlib.Decide.{ℕ_discrete}
use lib.ListN.{get_elem?}
use Rattle.event_log.specs.Distinct.{has}
use Rattle.word_rule.specs.{declared.machine.step_done.StepDone.StepDone, declared.lock_kind.Stage.Stage, declared.lock_kind.Stage.TheVariants.{Idle, Mcs, Trying}, declared.lock_kind.McsStage.TheVariants.{Ready, Behind, Armed, Waiting, Holding, Alone, Leaving, Passing}, Line.{Line, is_first, is_named, last, moved, second}, LockDefinition.IsState, Locks.holding, Mcs.Acquire.enter, Mcs.Definition.{mcs_lock, mcs_turn}, Mcs.Release.see, Mcs.State.{McsLock, follower, if_linked, is_linked}, Machine.Rounds.most_steps_of, StepKinds.ends_hold}
use Rattle.word_rule.proofs.{LineChanges.{never, changed, first_stays, Joined, Left, Same}, Lists.{at_first, first_at, has_at, two_are}, LockInterface.is_trying, LockProgress.{FirstOn, LockFairness, LockProgress, one_on}, LockStates.{in_cell, stands_at}, Mcs.Laws.{Looked, Emptied, mcs_laws}, Moves.{moved_same, moved_else}}
use Rattle.sound_run.specs.declared.lock_kind.LockKind.TheVariants as kinds
use Rattle.word_rule.proofs.LineEnds as ends

-- a clear, an enter, an arm, a link, a look that gets the object, a see, an empty, a see that finds a follower, and a pass
abbrev left : Stage → ℕ
left Idle = 9
left (Mcs Ready) = 8
left (Mcs (Behind p)) = 7
left (Mcs (Armed p)) = 6
left (Mcs Waiting) = 5
left (Mcs Holding) = 4
left (Mcs Alone) = 3
left (Mcs Leaving) = 2
left q = 1

some_left : (q : Stage) → 0 < left q
some_left Idle = omega arith
some_left (Mcs Ready) = omega arith
some_left (Mcs (Behind p)) = omega arith
some_left (Mcs (Armed p)) = omega arith
some_left (Mcs Waiting) = omega arith
some_left (Mcs Holding) = omega arith
some_left (Mcs Alone) = omega arith
some_left (Mcs Leaving) = omega arith
some_left q = omega arith

few_left : (q : Stage) → left q ≤ most_steps_of kinds.Mcs
few_left Idle = omega arith
few_left (Mcs Ready) = omega arith
few_left (Mcs (Behind p)) = omega arith
few_left (Mcs (Armed p)) = omega arith
few_left (Mcs Waiting) = omega arith
few_left (Mcs Holding) = omega arith
few_left (Mcs Alone) = omega arith
few_left (Mcs Leaving) = omega arith
few_left q = omega arith

-- whether the second has linked itself
abbrev linked_at : Line → Option ℕ → Bool
linked_at l None = false
linked_at l (Some y) = is_linked (l.stage y)

-- whether a turn from there gets the CPU on
abbrev on_at : Line → ℕ → Stage → Bool
on_at l i (Mcs Waiting) = is_first i l.cpus
on_at l i (Mcs Leaving) = linked_at l (second l.cpus)
on_at l i q = true

linked_is : (q : Stage) → is_linked q ≡ true → q ≡ Mcs Waiting
linked_is (Mcs Waiting) e = refl
linked_is q e = never e

module _ (l : McsLock) (i : ℕ) where
  near : (q : Stage) (k : ℕ) → left q < k → left (moved l.line.stage i q i) < k
  near q k lt = subst (λ z. left z < k) (sym (moved_same l.line.stage i q)) lt

  enter_near : (o : Option ℕ) → left ((enter l i o).0.line.stage i) < 8
  enter_near None = near (Mcs Holding) 8 (omega arith)
  enter_near (Some p) = near (Mcs (Behind p)) 8 (omega arith)

  look_near : (b : Bool) → b ≡ true → left ((Looked l i b).0.line.stage i) < 5
  look_near true e = near (Mcs Holding) 5 (omega arith)
  look_near false e = never e

  see_near : (o : Option ℕ) → left ((see l i (Mcs Alone) o).0.line.stage i) < 4
  see_near None = near (Mcs Alone) 4 (omega arith)
  see_near (Some j) = near (Mcs (Passing j)) 4 (omega arith)

  empty_near : (b : Bool) → ends_hold (Emptied l i b).1 ≡ false → left ((Emptied l i b).0.line.stage i) < 3
  empty_near true not = never (sym not)
  empty_near false not = near (Mcs Leaving) 3 (omega arith)

  again_near : (o : Option ℕ) → linked_at l.line o ≡ true → left ((see l i (Mcs Leaving) (if_linked l.line o)).0.line.stage i) < 2
  again_near None on = never on
  again_near (Some y) on = by (is_linked (l.line.stage y)) on
    where
      by : (b : Bool) → b ≡ true → left ((see l i (Mcs Leaving) (cond b (Some y) None)).0.line.stage i) < 2
      by true e = near (Mcs (Passing y)) 2 (omega arith)
      by false e = never e

  -- a step in vain: where the CPU stands then, and that it ends no hold
  abbrev InVain : McsLock × StepDone → Stage → Type 0
  InVain r q = (r.0.line.stage i ≡ q) × (ends_hold r.1 ≡ false)

  look_vain : (b : Bool) → b ≡ false → InVain (Looked l i b) (l.line.stage i)
  look_vain true e = never (sym e)
  look_vain false e = (refl, refl)

  again_vain : (o : Option ℕ) → linked_at l.line o ≡ false → InVain (see l i (Mcs Leaving) (if_linked l.line o)) (Mcs Leaving)
  again_vain None off = (moved_same l.line.stage i (Mcs Leaving), refl)
  again_vain (Some y) off = by (is_linked (l.line.stage y)) off
    where
      by : (b : Bool) → b ≡ false → InVain (see l i (Mcs Leaving) (cond b (Some y) None)) (Mcs Leaving)
      by true e = never (sym e)
      by false e = (moved_same l.line.stage i (Mcs Leaving), refl)

  in_vain_by : (q : Stage) → l.line.stage i ≡ q → on_at l.line i q ≡ false → InVain (mcs_turn l i q) q
  in_vain_by (Mcs Waiting) e off = let v = look_vain (is_first i l.line.cpus) off in (v.0 ∙ e, v.1)
  in_vain_by (Mcs Leaving) e off = again_vain (second l.line.cpus) off
  in_vain_by q e off = never (sym off)

  -- the others stay where they stood
  module _ (x : ℕ) (ne : x ≢ i) where
    abbrev Still : McsLock × StepDone → Type 0
    Still r = r.0.line.stage x ≡ l.line.stage x

    else_at : (q : Stage) → moved l.line.stage i q x ≡ l.line.stage x
    else_at q = moved_else l.line.stage i q x ne

    enter_else : (o : Option ℕ) → Still (enter l i o)
    enter_else None = else_at (Mcs Holding)
    enter_else (Some p) = else_at (Mcs (Behind p))

    look_else : (b : Bool) → Still (Looked l i b)
    look_else true = else_at (Mcs Holding)
    look_else false = refl

    see_else : (q : Stage) (o : Option ℕ) → Still (see l i q o)
    see_else q None = else_at q
    see_else q (Some j) = else_at (Mcs (Passing j))

    empty_else : (b : Bool) → Still (Emptied l i b)
    empty_else true = else_at Idle
    empty_else false = else_at (Mcs Leaving)

    others_by : (q : Stage) → Still (mcs_turn l i q)
    others_by Idle = else_at (Mcs Ready)
    others_by (Mcs Ready) = enter_else (last l.line.cpus)
    others_by (Mcs (Behind p)) = else_at (Mcs (Armed p))
    others_by (Mcs (Armed p)) = else_at (Mcs Waiting)
    others_by (Mcs Waiting) = look_else (is_first i l.line.cpus)
    others_by (Mcs Holding) = see_else (Mcs Alone) (follower l.line)
    others_by (Mcs Alone) = empty_else (is_named i (last l.line.cpus))
    others_by (Mcs Leaving) = see_else (Mcs Leaving) (follower l.line)
    others_by (Mcs (Passing j)) = else_at Idle
    others_by q = refl

  -- who ends a hold
  enter_ends : {X : Type 0} (o : Option ℕ) → ends_hold (enter l i o).1 ≡ true → X
  enter_ends None e = never e
  enter_ends (Some p) e = never e

  look_ends : {X : Type 0} (b : Bool) → ends_hold (Looked l i b).1 ≡ true → X
  look_ends true e = never e
  look_ends false e = never e

  see_ends : {X : Type 0} (q : Stage) (o : Option ℕ) → ends_hold (see l i q o).1 ≡ true → X
  see_ends q None e = never e
  see_ends q (Some j) e = never e

  empty_ends : (b : Bool) → ends_hold (Emptied l i b).1 ≡ true → (Emptied l i b).0.line.stage i ≡ Idle
  empty_ends true e = moved_same l.line.stage i Idle
  empty_ends false e = never e

  ended_by : (q : Stage) → ends_hold (mcs_turn l i q).1 ≡ true → (holding q ≡ true) × ((mcs_turn l i q).0.line.stage i ≡ Idle)
  ended_by (Mcs Ready) e = enter_ends (last l.line.cpus) e
  ended_by (Mcs Waiting) e = look_ends (is_first i l.line.cpus) e
  ended_by (Mcs Holding) e = see_ends (Mcs Alone) (follower l.line) e
  ended_by (Mcs Alone) e = (refl, empty_ends (is_named i (last l.line.cpus)) e)
  ended_by (Mcs Leaving) e = see_ends (Mcs Leaving) (follower l.line) e
  ended_by (Mcs (Passing j)) e = (refl, moved_same l.line.stage i Idle)
  ended_by q e = never e

module _ (n : ℕ) (l : McsLock) (i : ℕ) (h : IsState mcs_lock n l) (below : i < n) where
  nearer_by : (q : Stage) → l.line.stage i ≡ q → is_trying q ≡ false → on_at l.line i q ≡ true → ends_hold (mcs_turn l i q).1 ≡ false → left ((mcs_turn l i q).0.line.stage i) < left q
  nearer_by Idle e not on unended = near l i (Mcs Ready) 9 (omega arith)
  nearer_by (Mcs Ready) e not on unended = enter_near l i (last l.line.cpus)
  nearer_by (Mcs (Behind p)) e not on unended = near l i (Mcs (Armed p)) 7 (omega arith)
  nearer_by (Mcs (Armed p)) e not on unended = near l i (Mcs Waiting) 6 (omega arith)
  nearer_by (Mcs Waiting) e not on unended = look_near l i (is_first i l.line.cpus) on
  nearer_by (Mcs Holding) e not on unended = see_near l i (follower l.line)
  nearer_by (Mcs Alone) e not on unended = empty_near l i (is_named i (last l.line.cpus)) unended
  nearer_by (Mcs Leaving) e not on unended = again_near l i (second l.line.cpus) on
  nearer_by (Mcs (Passing j)) e not on unended = never (sym unended)
  nearer_by Trying e not on unended = never (sym not)
  nearer_by q e not on unended = absurd (stands_at mcs_lock n l h i q below e)

  outside_by : (q : Stage) → l.line.stage i ≡ q → has i l.line.cpus ≡ false → on_at l.line i q ≡ true
  outside_by (Mcs Waiting) e absent =
      let in_line : has i l.line.cpus ≡ true = ⊎_elim {0, 0, 0}
      (λ t. let f = t.1 in has_at l.line.cpus (suc f.at) i f.there)
      (λ f. has_at l.line.cpus 0 i f.there)
      (stands_at mcs_lock n l h i (Mcs Waiting) below e) in
      absurd (true≢false (sym in_line ∙ absent))
  outside_by (Mcs Leaving) e absent = let s = stands_at mcs_lock n l h i (Mcs Leaving) below e in absurd (true≢false (sym (has_at l.line.cpus 0 i s.0.there) ∙ absent))
  outside_by q e absent = refl

  module _ (j : ℕ) (j_below : j < n) (ne : j ≢ i) where
    abbrev new : Line
    new = (mcs_lock.turn l i).0.line

    line_after : Joined (mcs_lock.turn l i).1 i l.line.cpus new.cpus ⊎ (Left (mcs_lock.turn l i).1 i l.line.cpus new.cpus ⊎ Same (mcs_lock.turn l i).1 i l.line.cpus new.cpus)
    line_after = changed (mcs_lock.turn l i).1 i l.line.cpus new.cpus (let g = mcs_laws.goes n l i h below in g.line)

    -- the one behind the first stays there, and linked
    second_stays : (y : ℕ) (rest : List ℕ) → l.line.cpus ≡ j ∷ y ∷ rest → second new.cpus ≡ Some y
    second_stays y rest is = by line_after
      where
        by : Joined (mcs_lock.turn l i).1 i l.line.cpus new.cpus ⊎ (Left (mcs_lock.turn l i).1 i l.line.cpus new.cpus ⊎ Same (mcs_lock.turn l i).1 i l.line.cpus new.cpus) → second new.cpus ≡ Some y
        by (inl t) = ap second (t.0 ∙ ap (λ c. c ++ i ∷ []) is)
        by (inr (inl t)) = absurd (ne (some-injective j i (ap (λ c. get_elem? c 0) (sym is ∙ t.0))))
        by (inr (inr t)) = ap second (t.0 ∙ is)

    linked_stays : (y : ℕ) (rest : List ℕ) → l.line.cpus ≡ j ∷ y ∷ rest → is_linked (l.line.stage y) ≡ true → is_linked (new.stage y) ≡ true
    linked_stays y rest is linked = dite (ℕ_discrete y i)
        (λ same.
        let waits : l.line.stage i ≡ Mcs Waiting = sym (ap l.line.stage same) ∙ linked_is (l.line.stage y) linked in
        let behind : is_first i l.line.cpus ≡ false = false_from_ne_true (is_first i l.line.cpus) (λ f. ne (some-injective j i (sym (ap (λ c. get_elem? c 0) is) ∙ first_at i l.line.cpus f))) in
        let v = in_vain_by l i (l.line.stage i) refl (ap (on_at l.line i) waits ∙ behind) in
        ap is_linked (ap new.stage same ∙ (v.0 ∙ sym (ap l.line.stage same))) ∙ linked)
        (λ other. ap is_linked (others_by l i y other (l.line.stage i)) ∙ linked)

    stays_by : (q : Stage) → l.line.stage j ≡ q → on_at l.line j q ≡ true → on_at new j q ≡ true
    stays_by (Mcs Waiting) e on = first_stays (mcs_lock.turn l i).1 i j l.line.cpus new.cpus (let g = mcs_laws.goes n l i h below in g.line) ne on
    stays_by (Mcs Leaving) e on =
        let s = stands_at mcs_lock n l h j (Mcs Leaving) j_below e in
        let t = ends.another mcs_lock n l h j s.0.there s.1 in
        let r = two_are l.line.cpus j t.0 s.0.there t.1 in
        let linked : is_linked (l.line.stage t.0) ≡ true = subst (λ c. linked_at l.line (second c) ≡ true) r.1 on in
        ap (linked_at new) (second_stays t.0 r.0 r.1) ∙ linked_stays t.0 r.0 r.1 linked
    stays_by q e on = refl

module _ (n : ℕ) (l : McsLock) (x : ℕ) (h : IsState mcs_lock n l) (there : get_elem? l.line.cpus 0 ≡ some x) where
  -- one in the second place gets on if it hasn't linked itself
  second_on : (y : ℕ) → get_elem? l.line.cpus 1 ≡ some y → y ≢ x → is_linked (l.line.stage y) ≡ false → (q : Stage) → l.line.stage y ≡ q → on_at l.line y q ≡ true
  second_on y at ne off (Mcs Waiting) e = never (sym (sym (ap is_linked e) ∙ off))
  second_on y at ne off (Mcs Leaving) e = let s = stands_at mcs_lock n l h y (Mcs Leaving) (in_cell mcs_lock n l h 1 y at) e in absurd (ne (some-injective y x (sym s.0.there ∙ there)))
  second_on y at ne off q e = refl

  abbrev Someone : Type 0
  Someone = (on_at l.line x (l.line.stage x) ≡ true) ⊎ ((y : ℕ) × (get_elem? l.line.cpus 1 ≡ some y) × (on_at l.line y (l.line.stage y) ≡ true))

  first_by : (q : Stage) → l.line.stage x ≡ q → (on_at l.line x q ≡ true) ⊎ ((y : ℕ) × (get_elem? l.line.cpus 1 ≡ some y) × (on_at l.line y (l.line.stage y) ≡ true))
  first_by (Mcs Waiting) e = inl (at_first x l.line.cpus there)
  first_by (Mcs Leaving) e =
      let s = stands_at mcs_lock n l h x (Mcs Leaving) (in_cell mcs_lock n l h 0 x there) e in
      let t = ends.another mcs_lock n l h x there s.1 in
      let r = two_are l.line.cpus x t.0 there t.1 in
      ⊎_elim (λ on. inl on)
      (λ off. inr (t.0, t.1, second_on t.0 t.1 t.2 (subst (λ c. linked_at l.line (second c) ≡ false) r.1 off) (l.line.stage t.0) refl))
      (cases_Bool (linked_at l.line (second l.line.cpus)))
  first_by q e = inl refl

module _ (n : ℕ) (l : McsLock) (h : IsState mcs_lock n l) where
  stays : (i j : ℕ) → i < n → j < n → j ≢ i → on_at l.line j (l.line.stage j) ≡ true → on_at (mcs_lock.turn l i).0.line j ((mcs_lock.turn l i).0.line.stage j) ≡ true
  stays i j below j_below ne on = subst (λ q. on_at (mcs_lock.turn l i).0.line j q ≡ true) (sym (others_by l i j ne (l.line.stage i))) (stays_by n l i h below j j_below ne (l.line.stage j) refl on)

  outside : (x : ℕ) → x < n → has x l.line.cpus ≡ false → on_at l.line x (l.line.stage x) ≡ true
  outside x below absent = outside_by n l x h below (l.line.stage x) refl absent

  first : (x : ℕ) → get_elem? l.line.cpus 0 ≡ some x → FirstOn l.line.cpus (λ j. on_at l.line j (l.line.stage j)) x
  first x there = first_by n l x h there (l.line.stage x) refl

pub mcs_progress : LockProgress mcs_lock (most_steps_of kinds.Mcs)
mcs_progress = record {
  left = left;
  some_left = some_left;
  few_left = few_left;
  gets_on = λ l i. on_at l.line i (l.line.stage i);
  others = λ l i x ne. others_by l i x ne (l.line.stage i);
  nearer = λ n l i h below not on unended. nearer_by n l i h below (l.line.stage i) refl not on unended;
  in_vain = λ l i off. in_vain_by l i (l.line.stage i) refl off;
  ended = λ l i e. ended_by l i (l.line.stage i) e;
  stays_or = λ n l i j h below j_below ne on. inl (stays n l h i j below j_below ne on);
  someone = λ n l i h below. one_on l.line.cpus (λ j. on_at l.line j (l.line.stage j)) i (outside n l h i below) (first n l h);
}

pub mcs_fairness : LockFairness mcs_lock (most_steps_of kinds.Mcs) mcs_progress
unfolding mcs_progress
mcs_fairness = record {
  stays = λ n l i j h below j_below ne on. stays n l h i j below j_below ne on;
  outside = λ n l x h below absent. outside n l h x below absent;
  first = λ n l x h there. first n l h x there;
}
