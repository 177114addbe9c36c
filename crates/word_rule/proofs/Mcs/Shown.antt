-- What the step machine keeps of an MCS lock shows it after each turn.
use Rattle.std.proofs.Common.{◌≡◌, ◌≢◌, ℕ, ◌+◌, ◌*◌, ◌<◌, ◌≤◌, true, false, List, length, get_or, set, refl, sym, ap, ◌∙◌, subst, Some, None}
use mathlib.Core.Logic.{dite}
use native.Mathlib.Decide.{ℕ_discrete}
use Rattle.word_rule.specs.{declared.machine.step_done.StepDone.StepDone, declared.lock_kind.Stage.Stage, declared.lock_kind.Stage.TheVariants.{Idle, Mcs}, declared.lock_kind.McsStage.TheVariants.{Ready, Behind, Armed, Waiting, Holding, Alone, Leaving, Passing}, Line.{moved, going, leaving, taking}, LockDefinition.IsTied, Locks.holding, Mcs.Acquire.{arm, clear, enter, link}, Mcs.Definition.{mcs_lock, mcs_turn}, Mcs.Release.{pass, see}, Mcs.State.{McsLock, follower}, Rule.LockStates.RepresentsState}
use Rattle.word_rule.proofs.ShownTurns.{After, at, became, same}
use Rattle.word_rule.specs.declared.machine.step_done.StepDone.TheVariants as steps
use Rattle.word_rule.proofs.Mcs.States as queue
use Rattle.word_rule.proofs.Mcs.Turns as mcs

module _ (n : ℕ) (ws : List ℕ) (stages : List Stage) (l : McsLock) (h : RepresentsState mcs_lock n ws stages l) (i : ℕ) (below : i < n) where
  abbrev AfterMcs : List ℕ → List Stage → StepDone → Type 0
  AfterMcs = After mcs_lock n ws stages l h i below

  abbrev stands : (q : Stage) → get_or stages i Idle ≡ q → l.line.stage i ≡ q
  stands = at mcs_lock n ws stages l h i below

  mcs_at : (q : Stage) → get_or stages i Idle ≡ q → mcs_lock.turn l i ≡ mcs_turn l i q
  mcs_at q e = mcs.turned l i q (stands q e)

  -- i has moved, and this was its step
  moves : (ws' : List ℕ) (p q : Stage) (r : McsLock × StepDone) → get_or stages i Idle ≡ p → mcs_turn l i p ≡ r → IsTied mcs_lock n ws' r.0 → r.0.line.stage ≡ moved l.line.stage i q → AfterMcs ws' (set stages i q) r.1
  moves ws' p q r e is tied stage = became mcs_lock n ws stages l h i below ws' q q r (mcs_at p e ∙ is) tied stage refl

  pub cleared : get_or stages i Idle ≡ Idle → AfterMcs (set ws (1 + i) 0) (set stages i (Mcs Ready)) steps.Clear
  cleared e = moves _ Idle (Mcs Ready) (clear l i, steps.Clear) e refl (mcs.clears n ws l h.tied i below (stands Idle e)) refl

  pub entered : get_or stages i Idle ≡ Mcs Ready → get_or ws 0 0 ≡ 0 → AfterMcs (set ws 0 (i + 1)) (set stages i (Mcs Holding)) (steps.Enter true)
  entered e none = let f = mcs.tail_none n ws l h.tied none in moves _ (Mcs Ready) (Mcs Holding) (enter l i None) e (ap (enter l i) f) (mcs.enters_first n ws l h.tied i below (stands (Mcs Ready) e) f) refl

  pub entered_behind : (p : ℕ) → get_or stages i Idle ≡ Mcs Ready → get_or ws 0 0 ≡ p + 1 → AfterMcs (set ws 0 (i + 1)) (set stages i (Mcs (Behind p))) (steps.Enter false)
  entered_behind p e some_one = let f = mcs.tail_some n ws l h.tied p some_one in moves _ (Mcs Ready) (Mcs (Behind p)) (enter l i (Some p)) e (ap (enter l i) f) (mcs.enters_behind n ws l h.tied i below p (stands (Mcs Ready) e) f) refl

  pub armed : (p : ℕ) → get_or stages i Idle ≡ Mcs (Behind p) → AfterMcs (set ws (1 + n + i) 1) (set stages i (Mcs (Armed p))) steps.Arm
  armed p e = moves _ (Mcs (Behind p)) (Mcs (Armed p)) (arm l i p, steps.Arm) e refl (mcs.arms n ws l h.tied i below p (stands (Mcs (Behind p)) e)) refl

  pub linked : (p : ℕ) → get_or stages i Idle ≡ Mcs (Armed p) → AfterMcs (set ws (1 + p) (i + 1)) (set stages i (Mcs Waiting)) steps.Link
  linked p e = moves _ (Mcs (Armed p)) (Mcs Waiting) (link l i p, steps.Link) e refl (mcs.links n ws l h.tied i below p (stands (Mcs (Armed p)) e)) refl

  pub got : get_or stages i Idle ≡ Mcs Waiting → get_or ws (1 + n + i) 0 ≡ 0 → AfterMcs ws (set stages i (Mcs Holding)) (steps.Look true)
  got e zero_now =
      let p = stands (Mcs Waiting) e in
      let f = mcs.free_first n ws l h.tied i below p zero_now in
      moves ws (Mcs Waiting) (Mcs Holding) (record l { line = taking l.line i (Mcs Holding) }, steps.Look true) e (mcs.hits l i f) (mcs.gets n ws l h.tied i below p f) refl

  pub waited : get_or stages i Idle ≡ Mcs Waiting → get_or ws (1 + n + i) 0 ≢ 0 → AfterMcs ws stages (steps.Look false)
  waited e some_one = same mcs_lock n ws stages l h i below (steps.Look false) (mcs_at (Mcs Waiting) e ∙ mcs.misses l i (mcs.locked_behind n ws l h.tied i below (stands (Mcs Waiting) e) some_one))

  pub emptied : get_or stages i Idle ≡ Mcs Alone → get_or ws 0 0 ≡ i + 1 → AfterMcs (set ws 0 0) (set stages i Idle) (steps.Empty true)
  emptied e word =
      moves _ (Mcs Alone) Idle (record l { line = leaving l.line i }, steps.Empty true) e (mcs.ends_queue l i (mcs.last_is n ws l h.tied i below word))
      (mcs.empties n ws l h.tied i below (stands (Mcs Alone) e) (mcs.tail_some n ws l h.tied i word)) refl

  pub stayed : get_or stages i Idle ≡ Mcs Alone → get_or ws 0 0 ≢ i + 1 → AfterMcs ws (set stages i (Mcs Leaving)) (steps.Empty false)
  stayed e other =
      moves ws (Mcs Alone) (Mcs Leaving) (record l { line = going l.line i (Mcs Leaving) }, steps.Empty false) e (mcs.stays_queued l i (mcs.not_named n ws l h.tied i below other))
      (mcs.stays_on n ws l h.tied i below (stands (Mcs Alone) e) (mcs.last_else n ws l h.tied i below other)) refl

  pub passed : (j : ℕ) → get_or stages i Idle ≡ Mcs (Passing j) → AfterMcs (set ws (1 + n + j) 0) (set stages i Idle) steps.Pass
  passed j e = moves _ (Mcs (Passing j)) Idle (pass l i, steps.Pass) e refl (mcs.passes n ws l h.tied i below j (stands (Mcs (Passing j)) e)) refl

  -- the bounds that the code needs
  pub wide : length ws ≡ 1 + 2 * n
  wide = mcs.wide n ws l h.tied

  pub tail_small : (old : ℕ) → old ≡ get_or ws 0 0 → old ≤ n
  tail_small old e = rw e (mcs.tail_small n ws l h.tied)

  pub next_small : (q : Stage) → get_or stages i Idle ≡ q → holding q ≡ true → get_or ws (1 + i) 0 ≤ n
  next_small q e has_it = mcs.next_small n ws l h.tied i below (ap holding (stands q e) ∙ has_it)

  pub armed_below : (p : ℕ) → get_or stages i Idle ≡ Mcs (Armed p) → p < n
  armed_below p e = mcs.ahead_below n ws l h.tied i below p (stands (Mcs (Armed p)) e)

  pub passing_below : (j : ℕ) → get_or stages i Idle ≡ Mcs (Passing j) → j < n
  passing_below j e = queue.passing_below n l h.tied.state i below j (stands (Mcs (Passing j)) e)

  -- the holder sees its follower or nobody
  seen_by : (p q otherwise : Stage) → get_or stages i Idle ≡ p → holding p ≡ true → mcs_turn l i p ≡ see l i otherwise (follower l.line)
      → ((j : ℕ) → follower l.line ≡ Some j → IsTied mcs_lock n ws (record l { line = going l.line i (Mcs (Passing j)) })) → IsTied mcs_lock n ws (record l { line = going l.line i otherwise }) → (s : StepDone)
      → (get_or ws (1 + i) 0 ≡ 0 → (s ≡ steps.See false) × (q ≡ otherwise)) → ((j : ℕ) → get_or ws (1 + i) 0 ≡ j + 1 → (s ≡ steps.See true) × (q ≡ Mcs (Passing j))) → AfterMcs ws (set stages i q) s
  seen_by p q otherwise e has_it is one none s is_none is_one =
      let holds = ap holding (stands p e) ∙ has_it in
      dite (ℕ_discrete (get_or ws (1 + i) 0) 0)
      (λ word. let f = is_none word in
      subst (λ (z : StepDone × Stage). AfterMcs ws (set stages i z.1) z.0) (λ k. (sym f.0 k, sym f.1 k)) (moves ws p otherwise (see l i otherwise None) e (is ∙ ap (see l i otherwise) (mcs.sees_nobody n ws l h.tied i below holds word)) none refl))
      (λ ne. let t = mcs.sees_one n ws l h.tied i below holds ne in let f = is_one t.0 t.2 in
      subst (λ (z : StepDone × Stage). AfterMcs ws (set stages i z.1) z.0) (λ k. (sym f.0 k, sym f.1 k)) (moves ws p (Mcs (Passing t.0)) (see l i otherwise (Some t.0)) e (is ∙ ap (see l i otherwise) t.1) (one t.0 t.1) refl))

  pub sees : (q : Stage) (s : StepDone) → get_or stages i Idle ≡ Mcs Holding → (get_or ws (1 + i) 0 ≡ 0 → (s ≡ steps.See false) × (q ≡ Mcs Alone)) → ((j : ℕ) → get_or ws (1 + i) 0 ≡ j + 1 → (s ≡ steps.See true) × (q ≡ Mcs (Passing j))) → AfterMcs ws (set stages i q) s
  sees q s e = seen_by (Mcs Holding) q (Mcs Alone) e refl refl (λ j. mcs.saw n ws l h.tied i below j (stands (Mcs Holding) e)) (mcs.sees_none n ws l h.tied i below (stands (Mcs Holding) e)) s

  pub sees_again : (q : Stage) (s : StepDone) → get_or stages i Idle ≡ Mcs Leaving → (get_or ws (1 + i) 0 ≡ 0 → (s ≡ steps.See false) × (q ≡ Mcs Leaving)) → ((j : ℕ) → get_or ws (1 + i) 0 ≡ j + 1 → (s ≡ steps.See true) × (q ≡ Mcs (Passing j))) → AfterMcs ws (set stages i q) s
  sees_again q s e = seen_by (Mcs Leaving) q (Mcs Leaving) e refl refl (λ j. mcs.saw_again n ws l h.tied i below j (stands (Mcs Leaving) e)) (mcs.still_none n ws l h.tied i below (stands (Mcs Leaving) e)) s
