-- What is kept of a lock shows it after each step, too.
use Rattle.std.proofs.Common.{◌≡◌, ℕ, ◌<◌, List, get_or, set, sym, ap, ◌∙◌, subst, arith, get_or-set_other, get_or-set_same, length-set}
use mathlib.Core.Logic.{dite}
use native.Mathlib.Decide.{ℕ_discrete}
use Rattle.word_rule.specs.{declared.machine.step_done.StepDone.StepDone, declared.lock_kind.Stage.Stage, declared.lock_kind.Stage.TheVariants.Idle, Line.moved, LockDefinition.{IsTied, LockDefinition, LockState}, Rule.LockStates.RepresentsState}
use Rattle.word_rule.proofs.Moves.{moved_same, moved_else}

module _ (d : LockDefinition) (n : ℕ) (ws : List ℕ) (stages : List Stage) (l : LockState d.Extra) (h : RepresentsState d n ws stages l) (i : ℕ) (below : i < n) where
  -- the step was the lock's, and these words and places show the lock after it
  abbrev pub After : List ℕ → List Stage → StepDone → Type 0
  After ws' stages' s = (s ≡ (d.turn l i).1) × RepresentsState d n ws' stages' (d.turn l i).0

  pub at : (q : Stage) → get_or stages i Idle ≡ q → l.line.stage i ≡ q
  at q e = sym (h.stages_are i below) ∙ e

  -- i stands there now
  with_stage : (q : Stage) (x : ℕ) → x < n → get_or (set stages i q) x Idle ≡ moved l.line.stage i q x
  with_stage q x x_below = dite (ℕ_discrete x i)
      (λ is. subst (λ (y : ℕ). get_or (set stages i q) y Idle ≡ moved l.line.stage i q y) (sym is) (get_or-set_same stages i q Idle (omega (arith, h.size, below)) ∙ sym (moved_same l.line.stage i q)))
      (λ ne. get_or-set_other stages i x q Idle ne ∙ (h.stages_are x x_below ∙ sym (moved_else l.line.stage i q x ne)))

  -- i has moved
  pub became : (ws' : List ℕ) (q q' : Stage) (r : LockState d.Extra × StepDone) → d.turn l i ≡ r → IsTied d n ws' r.0 → r.0.line.stage ≡ moved l.line.stage i q' → q ≡ q' → After ws' (set stages i q) r.1
  became ws' q q' r is tied stage same = (
    ap (λ (z : LockState d.Extra × StepDone). z.1) (sym is),
    subst (λ (z : LockState d.Extra × StepDone). RepresentsState d n ws' (set stages i q) z.0) (sym is) record {
      tied = tied;
      size = length-set stages i q ∙ h.size;
      stages_are = λ x x_below. with_stage q x x_below ∙ (ap (λ z. moved l.line.stage i z x) same ∙ sym (ap (λ f. f x) stage));
    },
  )

  -- nothing has changed
  pub same : (s : StepDone) → d.turn l i ≡ (l, s) → After ws stages s
  same s is = (ap (λ (z : LockState d.Extra × StepDone). z.1) (sym is), subst (λ (z : LockState d.Extra × StepDone). RepresentsState d n ws stages z.0) (sym is) h)
