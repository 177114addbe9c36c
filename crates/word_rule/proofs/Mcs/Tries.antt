-- A try at an MCS lock that gets the object is a clear and an enter; one that doesn't changes nobody's place in the queue.
use Rattle.std.proofs.Common.{◌≡◌, ◌≢◌, ℕ, Bool, true, false, cond, List, [], ◌∷◌, refl, sym, ap, ◌∙◌, None}
use Rattle.word_rule.specs.{declared.machine.step_done.StepDone.StepDone, declared.lock_kind.Stage.TheVariants.{Idle, Mcs, Trying}, declared.lock_kind.McsStage.TheVariants.{Ready, Holding}, Line.{moved, is_empty, last, going}, Mcs.Acquire.{clear, enter}, Mcs.Definition.mcs_lock, Mcs.State.{McsLock, naming}, Mcs.Try.{prepare, try_queue}}
use Rattle.word_rule.proofs.{LockInterface.Tries, Mcs.Stands.naming_else, Mcs.Turns.{tried_by, tries_first, turned}, Moves.{moved_same, moved_else, moved_twice, not_empty}}
use Rattle.word_rule.specs.declared.machine.step_done.StepDone.TheVariants as steps

module _ (l : McsLock) (i : ℕ) where
  pub clears_and_enters : l.line.stage i ≡ Idle → l.line.cpus ≡ []
      → try_queue (prepare l i) i ≡ ((mcs_lock.turn (mcs_lock.turn l i).0 i).0, (mcs_lock.turn l i).1 ∷ (mcs_lock.turn (mcs_lock.turn l i).0 i).1 ∷ [])
  clears_and_enters idle none =
      let l' : McsLock = clear l i in
      let cleared : mcs_lock.turn l i ≡ (l', steps.Clear) = turned l i Idle idle in
      let entered : mcs_lock.turn l' i ≡ enter l' i None = turned l' i (Mcs Ready) (moved_same l.line.stage i (Mcs Ready)) ∙ ap (enter l' i) (ap last none) in
      let stages : moved (moved l.line.stage i (Mcs Ready)) i (Mcs Holding) ≡ moved (moved l.line.stage i Trying) i (Mcs Holding) = moved_twice l.line.stage i (Mcs Ready) (Mcs Holding) ∙ sym (moved_twice l.line.stage i Trying (Mcs Holding)) in
      let alone : (enter l' i None).0 ≡ tried_by (prepare l i) i = λ k. record { line = record { cpus = i ∷ []; out = true; stage = stages k }; extra = naming l.extra i None } in
      tries_first (prepare l i) i (ap last none) ∙ sym (ap (λ (z : McsLock × StepDone). ((mcs_lock.turn z.0 i).0, z.1 ∷ (mcs_lock.turn z.0 i).1 ∷ [])) cleared ∙ (ap (λ (z : McsLock × StepDone). (z.0, steps.Clear ∷ z.1 ∷ [])) entered ∙ ap (λ (z : McsLock). (z, steps.Clear ∷ steps.Enter true ∷ [])) alone))

  abbrev Tried : Bool → McsLock × List StepDone
  Tried b = cond b (tried_by l i, steps.Clear ∷ steps.Enter true ∷ []) (record l { line = going l.line i Idle }, [])

  pub tries : Tries mcs_lock l i (try_queue l i)
  tries = record {
    busy = λ some_one. let same = ap Tried (not_empty l.line.cpus some_one) in (ap (λ z. z.0.line.cpus) same, ap (λ z. z.0.line.out) same, ap (λ z. z.1) same);
    others = λ x ne. by x ne (is_empty l.line.cpus);
  }
    where
      by : (x : ℕ) → x ≢ i → (b : Bool) → (Tried b).0.line.stage x ≡ l.line.stage x
      by x ne true = moved_else l.line.stage i (Mcs Holding) x ne
      by x ne false = moved_else l.line.stage i Idle x ne

  -- no try, and no preparing of one, changes the `next` of another
  pub names_still : (x : ℕ) → x ≢ i → ((try_queue l i).0.extra x ≡ l.extra x) × ((prepare l i).extra x ≡ l.extra x)
  names_still x ne = (by (is_empty l.line.cpus), naming_else l.extra i None x ne)
    where
      by : (b : Bool) → (Tried b).0.extra x ≡ l.extra x
      by true = refl
      by false = refl
