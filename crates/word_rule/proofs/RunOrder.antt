-- Who ends a hold does so in the order of arrival, in each run of a lock.
use Rattle.std.proofs.Common.{◌≡◌, ℕ, ◌<◌, ◌&&◌, true, false, Bool, cond, List, [], ◌∷◌, ◌++◌, sym, ap, ◌∙◌, subst, append-nil}
use Rattle.std.specs.List.{AllByRecursion}
use Rattle.event_log.specs.{declared.event.Event.Event, Log.Begins}
use Rattle.event_log.proofs.Beginnings.{begins_append}
use Rattle.word_rule.specs.{declared.machine.step_done.StepDone.StepDone, declared.view.TraceStep.TraceStep, Cell.Cell, LockRuns.{lock_after, AreTurns, HasRun, arrivals_in, endings_in}, Locks.{IsLock, Lock, opening_lock, turn}, StepKinds.{arrives, ends_hold}}
use Rattle.word_rule.proofs.{LockLaws.begins, LineAfter.{LineAfter, order_here}, RunLists.all_inside, TurnsKeep.locks_keep}

-- the first of the steps, if there is one
abbrev pub first_of : StepDone → List StepDone → StepDone
first_of d [] = d
first_of d (s ∷ ss) = s

abbrev pub behind_of : List StepDone → List StepDone
behind_of [] = []
behind_of (s ∷ ss) = ss

one_more : (s : StepDone) (i : ℕ) (old new ended arrived line : List ℕ) → LineAfter s i old new → ended ++ line ≡ new ++ arrived → cond (ends_hold s) (i ∷ ended) ended ++ line ≡ old ++ cond (arrives s) (i ∷ arrived) arrived
one_more s i old new ended arrived line a e = by (ends_hold s) (arrives s) (order_here s i old new ended arrived line a e)
  where
    by : (x y : Bool) → cond (x && true) (i ∷ ended) ended ++ line ≡ old ++ cond (y && true) (i ∷ arrived) arrived → cond x (i ∷ ended) ended ++ line ≡ old ++ cond y (i ∷ arrived) arrived
    by true true e = e
    by true false e = e
    by false true e = e
    by false false e = e

module _ {E : Type 0} (n : ℕ) where
  -- those who have ended a hold, and then the line, are the line before, and then those who have arrived
  pub in_order : (run : List (TraceStep E)) (l : Lock) → IsLock n l → AllByRecursion (λ m. m.cpu < n) run → AreTurns run l → endings_in run ++ (lock_after run l).line.cpus ≡ l.line.cpus ++ arrivals_in run
  in_order [] l h inside are = sym (append-nil l.line.cpus)
  in_order (m ∷ ms) l h inside are =
      let t = locks_keep.turned n l m.cpu h inside.0 in
      let step : m.step ≡ (turn l m.cpu).1 = ap (first_of (turn l m.cpu).1) are in
      let rest : AreTurns ms (turn l m.cpu).0 = ap behind_of are in
      one_more m.step m.cpu l.line.cpus (turn l m.cpu).0.line.cpus (endings_in ms) (arrivals_in ms) (lock_after ms (turn l m.cpu).0).line.cpus (subst (λ (z : StepDone). LineAfter z m.cpu l.line.cpus (turn l m.cpu).0.line.cpus) (sym step) t.1) (in_order ms (turn l m.cpu).0 t.0 inside.1 rest)

module _ {O P C R : Type 0} (h : Cell O P C R) (log : List (Event O P C R)) (run : List (TraceStep (Event O P C R))) (ran : HasRun h log run) where
  -- the line that the run leaves, behind those who have ended a hold
  pub line_left : endings_in run ++ (lock_after run (opening_lock h.kind 0)).line.cpus ≡ arrivals_in run
  line_left = in_order h.numbers run (opening_lock h.kind 0) (begins h.numbers 0 h.kind ran.fits) (all_inside h.numbers run ran.each) (ran.turns 0)

  pub ends_in_order : Begins (endings_in run) (arrivals_in run)
  ends_in_order = subst (Begins (endings_in run)) line_left (begins_append (endings_in run) (lock_after run (opening_lock h.kind 0)).line.cpus)

  -- with nobody in line, all who have arrived have ended a hold
  pub all_ended : (lock_after run (opening_lock h.kind 0)).line.cpus ≡ [] → endings_in run ≡ arrivals_in run
  all_ended none = sym (append-nil (endings_in run)) ∙ (ap (λ l. endings_in run ++ l) (sym none) ∙ line_left)
