-- What each kind of step does to the line of a lock.
use Rattle.std.proofs.{Common.{◌≡◌, ℕ, Bool, true, false, ◌&&◌, cond, List, [], ◌∷◌, ◌++◌, sym, ap, ◌∙◌, append_assoc}, lemmas.Bool.false≢true}
use Rattle.word_rule.specs.{declared.machine.step_done.StepDone.StepDone, StepKinds.{ends_hold, arrives}}
use Rattle.word_rule.specs.declared.machine.step_done.StepDone.TheVariants as steps

-- What a step of CPU i does to the line: who arrives joins its end, and who ends a hold leaves from its front.
abbrev pub LineAfter : StepDone → ℕ → List ℕ → List ℕ → Type 0
LineAfter steps.Draw i old new = new ≡ old ++ i ∷ []
LineAfter (steps.Enter b) i old new = new ≡ old ++ i ∷ []
LineAfter steps.Serve i old new = old ≡ i ∷ new
LineAfter (steps.Empty true) i old new = old ≡ i ∷ new
LineAfter steps.Pass i old new = old ≡ i ∷ new
LineAfter (steps.Empty false) i old new = new ≡ old
LineAfter steps.Idle i old new = new ≡ old
LineAfter (steps.Look b) i old new = new ≡ old
LineAfter steps.Clear i old new = new ≡ old
LineAfter steps.Arm i old new = new ≡ old
LineAfter steps.Link i old new = new ≡ old
LineAfter (steps.See b) i old new = new ≡ old

-- one step at the front of a run
pub order_here : (s : StepDone) (i : ℕ) (old new ended arrived line : List ℕ) → LineAfter s i old new → ended ++ line ≡ new ++ arrived
    → cond (ends_hold s && true) (i ∷ ended) ended ++ line ≡ old ++ cond (arrives s && true) (i ∷ arrived) arrived
order_here steps.Draw i old new ended arrived line a e = e ∙ ap (λ l. l ++ arrived) a ∙ append_assoc old (i ∷ []) arrived
order_here (steps.Enter b) i old new ended arrived line a e = e ∙ ap (λ l. l ++ arrived) a ∙ append_assoc old (i ∷ []) arrived
order_here steps.Serve i old new ended arrived line a e = ap (λ l. i ∷ l) e ∙ ap (λ l. l ++ arrived) (sym a)
order_here (steps.Empty true) i old new ended arrived line a e = ap (λ l. i ∷ l) e ∙ ap (λ l. l ++ arrived) (sym a)
order_here steps.Pass i old new ended arrived line a e = ap (λ l. i ∷ l) e ∙ ap (λ l. l ++ arrived) (sym a)
order_here (steps.Empty false) i old new ended arrived line a e = e ∙ ap (λ l. l ++ arrived) a
order_here steps.Idle i old new ended arrived line a e = e ∙ ap (λ l. l ++ arrived) a
order_here (steps.Look b) i old new ended arrived line a e = e ∙ ap (λ l. l ++ arrived) a
order_here steps.Clear i old new ended arrived line a e = e ∙ ap (λ l. l ++ arrived) a
order_here steps.Arm i old new ended arrived line a e = e ∙ ap (λ l. l ++ arrived) a
order_here steps.Link i old new ended arrived line a e = e ∙ ap (λ l. l ++ arrived) a
order_here (steps.See b) i old new ended arrived line a e = e ∙ ap (λ l. l ++ arrived) a

pub order_there : (x y : Bool) (i : ℕ) (old new ended arrived line : List ℕ) → new ≡ old → ended ++ line ≡ new ++ arrived
    → cond (x && false) (i ∷ ended) ended ++ line ≡ old ++ cond (y && false) (i ∷ arrived) arrived
order_there true true i old new ended arrived line a e = e ∙ ap (λ l. l ++ arrived) a
order_there true false i old new ended arrived line a e = e ∙ ap (λ l. l ++ arrived) a
order_there false true i old new ended arrived line a e = e ∙ ap (λ l. l ++ arrived) a
order_there false false i old new ended arrived line a e = e ∙ ap (λ l. l ++ arrived) a

-- who arrives makes the line longer
pub arrived_longer : (s : StepDone) (i : ℕ) (old new : List ℕ) → arrives s ≡ true → LineAfter s i old new → new ≡ old ++ i ∷ []
arrived_longer steps.Draw i old new e a = a
arrived_longer (steps.Enter b) i old new e a = a
arrived_longer steps.Serve i old new e a = absurd (false≢true e)
arrived_longer (steps.Empty b) i old new e a = absurd (false≢true e)
arrived_longer steps.Pass i old new e a = absurd (false≢true e)
arrived_longer steps.Idle i old new e a = absurd (false≢true e)
arrived_longer (steps.Look b) i old new e a = absurd (false≢true e)
arrived_longer steps.Clear i old new e a = absurd (false≢true e)
arrived_longer steps.Arm i old new e a = absurd (false≢true e)
arrived_longer steps.Link i old new e a = absurd (false≢true e)
arrived_longer (steps.See b) i old new e a = absurd (false≢true e)
