-- A run goes on by a step that is the CPU's turn at the lock that it has made.
use Rattle.std.proofs.Common.{◌≡◌, ℕ, ◌<◌, false, List, [], ◌∷◌, ◌++◌, map, refl, sym, ap, ◌∙◌, subst, append_assoc, append-nil}
use Rattle.event_log.specs.declared.event.Event.{Event}
use Rattle.event_log.proofs.Each.{all_push}
use Rattle.word_rule.specs.{declared.machine.step_done.StepDone.StepDone, declared.view.TraceStep.TraceStep, Cell.Cell, LockRuns.{events_in, lock_after, turns_after, AreTurns, IsTraceStep, HasRun}, Locks.{Fits, Lock, served, opening_lock, erase, turn}, OneHold.{leaving, silently}, Rule.CellInvariant.IsMade, Rule.Definition.GoesOn}
use Rattle.word_rule.proofs.{LockInterface.{is_trying, NoneTries}, LockLaws.{count_alike, turn_erased, turn_whole}, RunLists.{events_append, silent_own}}

module _ {E : Type 0} where
  pub after_push : (run : List (TraceStep E)) (m : TraceStep E) (l : Lock) → lock_after (run ++ m ∷ []) l ≡ (turn (lock_after run l) m.cpu).0
  after_push [] m l = refl
  after_push (x ∷ xs) m l = after_push xs m (turn l x.cpu).0

  pub turns_push : (run : List (TraceStep E)) (m : TraceStep E) (l : Lock) → AreTurns run l → m.step ≡ (turn (lock_after run l) m.cpu).1 → AreTurns (run ++ m ∷ []) l
  turns_push run m l are is = by run l are is
    where
      more : (run : List (TraceStep E)) (l : Lock) → turns_after (run ++ m ∷ []) l ≡ turns_after run l ++ (turn (lock_after run l) m.cpu).1 ∷ []
      more [] l = refl
      more (x ∷ xs) l = ap (λ z. (turn l x.cpu).1 ∷ z) (more xs (turn l x.cpu).0)

      steps : (run : List (TraceStep E)) → map (λ x. x.step) (run ++ m ∷ []) ≡ map (λ x. x.step) run ++ m.step ∷ []
      steps [] = refl
      steps (x ∷ xs) = ap (λ z. x.step ∷ z) (steps xs)

      by : (run : List (TraceStep E)) (l : Lock) → AreTurns run l → m.step ≡ (turn (lock_after run l) m.cpu).1 → AreTurns (run ++ m ∷ []) l
      by run l are is = steps run ∙ ((λ k. are k ++ is k ∷ []) ∙ sym (more run l))

  -- no CPU of a run has prepared a try
  pub never_trying : (run : List (TraceStep E)) (l : Lock) → NoneTries l.line.stage → NoneTries (lock_after run l).line.stage
  never_trying [] l h = h
  never_trying (m ∷ ms) l h = never_trying ms (turn l m.cpu).0 (turn_whole l m.cpu h)

module _ {O P C R : Type 0} (h : Cell O P C R) where
  -- the lock, and the one that the run comes to: one that has prepared no try does the same step at both
  one_turn : (l : Lock) (run : List (TraceStep (Event O P C R))) (p first : ℕ) → IsMade h l run → is_trying (l.line.stage p) ≡ false
      → let l' : Lock = lock_after run (opening_lock h.kind first) in ((turn l p).1 ≡ (turn l' p).1) × (erase (turn l p).0 ≡ erase (turn l' p).0)
  one_turn l run p first made not = turn_erased l (lock_after run (opening_lock h.kind first)) p (made.erased first) not (never_trying run (opening_lock h.kind first) (λ x. refl) p)

  -- one step more, by one that has prepared no try
  pub made_push : (l : Lock) (run : List (TraceStep (Event O P C R))) (p : ℕ) (events : List (Event O P C R)) → IsMade h l run → is_trying (l.line.stage p) ≡ false → IsMade h (turn l p).0 (run ++ leaving p (turn l p).1 events ∷ [])
  made_push l run p events made not =
      let m : TraceStep (Event O P C R) = leaving p (turn l p).1 events in
      let l' : Lock = lock_after run (opening_lock h.kind h.first) in
      record {
        erased = λ first. (one_turn l run p first made not).1 ∙ ap erase (sym (after_push run m (opening_lock h.kind first)));
        counts = count_alike l l' p (ap (λ z. z.kind) (made.erased h.first)) (one_turn l run p h.first made not).0 made.counts ∙ ap served (sym (after_push run m (opening_lock h.kind h.first)));
      }

  pub run_push : (l : Lock) (log : List (Event O P C R)) (run : List (TraceStep (Event O P C R))) (p : ℕ) (events : List (Event O P C R)) → IsMade h l run → HasRun h log run → is_trying (l.line.stage p) ≡ false → IsTraceStep h.numbers (leaving p (turn l p).1 events)
      → HasRun h (log ++ events) (run ++ leaving p (turn l p).1 events ∷ [])
  run_push l log run p events made ran not is =
      let m : TraceStep (Event O P C R) = leaving p (turn l p).1 events in
      record {
        turns = λ first. turns_push run m (opening_lock h.kind first) (ran.turns first) (one_turn l run p first made not).0;
        left = ap (λ z. z ++ events) ran.left ∙ (append_assoc h.opening (events_in run) events ∙ ap (λ z. h.opening ++ z) (sym (events_append run (m ∷ []) ∙ ap (λ z. events_in run ++ z) (append-nil events))));
        each = all_push (IsTraceStep h.numbers) run m ran.each is;
        fits = ran.fits;
      }

  -- a step that leaves no event
  pub silent_push : (l : Lock) (log : List (Event O P C R)) (run : List (TraceStep (Event O P C R))) (p : ℕ) → IsMade h l run → HasRun h log run → is_trying (l.line.stage p) ≡ false → p < h.numbers → HasRun h log (run ++ leaving p (turn l p).1 [] ∷ [])
  silent_push l log run p made ran not below = subst (λ z. HasRun h z (run ++ leaving p (turn l p).1 [] ∷ [])) (append-nil log) (run_push l log run p [] made ran not record { inside = below; own = tt; silent = λ _. refl })

  -- before the first step
  pub no_run : Fits h.kind h.numbers → HasRun h h.opening []
  no_run fits = record { turns = λ first. refl; left = sym (append-nil h.opening); each = tt; fits = fits }

-- how the run goes on, by what the step says
module _ {E : Type 0} (cpu : ℕ) (run : List (TraceStep E)) where
  silent_steps : (done : List StepDone) → map (λ m. m.step) (silently {E = E} cpu done) ≡ done
  silent_steps [] = refl
  silent_steps (s ∷ ss) = ap (λ z. s ∷ z) (silent_steps ss)

  pub goes_nowhere : GoesOn cpu [] run run
  goes_nowhere = record { added = []; is = sym (append-nil run); steps = refl; mine = tt }

  pub goes_silently : (done : List StepDone) → GoesOn cpu done run (run ++ silently cpu done)
  goes_silently done = record { added = silently cpu done; is = refl; steps = silent_steps done; mine = silent_own E cpu done }

  pub goes_leaving : (step : StepDone) (events : List E) → GoesOn cpu (step ∷ []) run (run ++ leaving cpu step events ∷ [])
  goes_leaving step events = record { added = leaving cpu step events ∷ []; is = refl; steps = refl; mine = (refl, tt) }

  -- what was asked of a step, once it is known what it does
  pub does_so : (next : Lock × List StepDone) (l : Lock) (done : List StepDone) (after : List (TraceStep E)) → next ≡ (l, done) → GoesOn cpu done run after → (l ≡ next.0) × GoesOn cpu next.1 run after
  does_so next l done after is goes = subst (λ (z : Lock × List StepDone). (l ≡ z.0) × GoesOn cpu z.1 run after) (sym is) (refl, goes)

  pub turns_so : (l l' : Lock) (step : StepDone) (after : List (TraceStep E)) → turn l cpu ≡ (l', step) → GoesOn cpu (step ∷ []) run after → (l' ≡ (turn l cpu).0) × GoesOn cpu ((turn l cpu).1 ∷ []) run after
  turns_so l l' step after is goes = does_so ((turn l cpu).0, (turn l cpu).1 ∷ []) l' (step ∷ []) after (ap (λ (z : Lock × StepDone). (z.0, z.1 ∷ [])) is) goes
