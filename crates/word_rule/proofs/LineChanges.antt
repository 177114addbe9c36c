-- A step joins a CPU to the end of a line, or takes it from the front, or leaves the line; who is first stays so.
use Rattle.std.proofs.{Common.{◌≡◌, ◌≢◌, ◌⊎◌, inl, inr, ℕ, ◌==◌, true, false, true≢false, List, [], ◌∷◌, ◌++◌, eqb-true, refl, sym, ap, ◌∙◌}, lemmas.Bool.or_right}
use lib.ListN.{get_elem?}
use mathlib.Core.Option.{some}
use Rattle.event_log.specs.Distinct.{has}
use Rattle.word_rule.specs.{declared.machine.step_done.StepDone.StepDone, Line.is_first, StepKinds.ends_hold}
use Rattle.word_rule.proofs.LineAfter.{LineAfter}
use Rattle.word_rule.specs.declared.machine.step_done.StepDone.TheVariants as steps

pub never : {X : Type 0} → false ≡ true → X
never e = absurd (true≢false (sym e))

-- i has joined the end, or has left the front by the end of its hold, or the line is the same
abbrev pub Joined : StepDone → ℕ → List ℕ → List ℕ → Type 0
Joined s i old new = (new ≡ old ++ i ∷ []) × (ends_hold s ≡ false)

abbrev pub Left : StepDone → ℕ → List ℕ → List ℕ → Type 0
Left s i old new = (old ≡ i ∷ new) × (ends_hold s ≡ true)

abbrev pub Same : StepDone → ℕ → List ℕ → List ℕ → Type 0
Same s i old new = (new ≡ old) × (ends_hold s ≡ false)

pub changed : (s : StepDone) (i : ℕ) (old new : List ℕ) → LineAfter s i old new → Joined s i old new ⊎ (Left s i old new ⊎ Same s i old new)
changed steps.Draw i old new a = inl (a, refl)
changed (steps.Enter b) i old new a = inl (a, refl)
changed steps.Serve i old new a = inr (inl (a, refl))
changed (steps.Empty true) i old new a = inr (inl (a, refl))
changed steps.Pass i old new a = inr (inl (a, refl))
changed (steps.Empty false) i old new a = inr (inr (a, refl))
changed steps.Idle i old new a = inr (inr (a, refl))
changed (steps.Look b) i old new a = inr (inr (a, refl))
changed steps.Clear i old new a = inr (inr (a, refl))
changed steps.Arm i old new a = inr (inr (a, refl))
changed steps.Link i old new a = inr (inr (a, refl))
changed (steps.See b) i old new a = inr (inr (a, refl))

pub first_longer : (j i : ℕ) (cpus : List ℕ) → is_first j cpus ≡ true → is_first j (cpus ++ i ∷ []) ≡ true
first_longer j i [] e = never e
first_longer j i (y ∷ ys) e = e

-- who is first stays so where another does a step
pub first_stays : (s : StepDone) (i j : ℕ) (old new : List ℕ) → LineAfter s i old new → j ≢ i → is_first j old ≡ true → is_first j new ≡ true
first_stays s i j old new a ne e = by (changed s i old new a)
  where
    by : Joined s i old new ⊎ (Left s i old new ⊎ Same s i old new) → is_first j new ≡ true
    by (inl t) = ap (is_first j) t.0 ∙ first_longer j i old e
    by (inr (inl t)) = absurd (ne (sym (eqb-true i j (sym (ap (is_first j) t.0) ∙ e))))
    by (inr (inr t)) = ap (is_first j) t.0 ∙ e

pub has_more : (x y : ℕ) (xs : List ℕ) → has x xs ≡ true → has x (y ∷ xs) ≡ true
has_more x y xs e = or_right (y == x) (has x xs) e

-- where one is in line, someone is first
pub head_of : (cpus : List ℕ) (x : ℕ) → has x cpus ≡ true → (y : ℕ) × (get_elem? cpus 0 ≡ some y)
head_of [] x e = never e
head_of (y ∷ ys) x e = (y, refl)
