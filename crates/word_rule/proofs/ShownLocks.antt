-- What is kept of a lock is what is kept of a state of its definition.
use Rattle.std.proofs.Common.{◌≡◌, ℕ, List, refl, sym, subst}
use Rattle.sound_run.specs.declared.lock_kind.LockKind.{LockKind}
use Rattle.word_rule.specs.{declared.machine.step_done.StepDone.StepDone, declared.lock_kind.Stage.Stage, LockDefinition.{IsTied, LockState}, Locks.{Lock, definition_of, lock_of, turn}, Rule.LockStates.{IsLockOf, RepresentsLock, RepresentsState}}
use Rattle.word_rule.proofs.LockLaws.{at_kind}

module _ (kind : LockKind) (n : ℕ) where
  pub tied_lock : (ws : List ℕ) (s : LockState (definition_of kind).Extra) → IsTied (definition_of kind) n ws s → IsLockOf kind n ws (lock_of kind s)
  tied_lock ws s h = record { kind_is = refl; state = h.state; words = h.words }

  pub lock_shown : (ws : List ℕ) (stages : List Stage) (s : LockState (definition_of kind).Extra) → RepresentsState (definition_of kind) n ws stages s → RepresentsLock n kind ws stages (lock_of kind s)
  lock_shown ws stages s h = record { tied = tied_lock ws s h.tied; size = h.size; stages_are = h.stages_are }

  pub state_shown : (ws : List ℕ) (stages : List Stage) (s : LockState (definition_of kind).Extra) → RepresentsLock n kind ws stages (lock_of kind s) → RepresentsState (definition_of kind) n ws stages s
  state_shown ws stages s h = record { tied = record { state = h.tied.state; words = h.tied.words }; size = h.size; stages_are = h.stages_are }

  pub some_state : (ws : List ℕ) (stages : List Stage) (l : Lock) → RepresentsLock n kind ws stages l → (s : LockState (definition_of kind).Extra) × RepresentsState (definition_of kind) n ws stages s
  some_state ws stages l h = at_kind kind (λ l. RepresentsLock n kind ws stages l → (s : LockState (definition_of kind).Extra) × RepresentsState (definition_of kind) n ws stages s) (λ s h. (s, state_shown ws stages s h)) l h.tied.kind_is h

  -- what a turn does to each state, it does to each lock
  pub turn_shown : (ws ws' : List ℕ) (stages stages' : List Stage) (i : ℕ) (step : StepDone)
      → ((s : LockState (definition_of kind).Extra) → RepresentsState (definition_of kind) n ws stages s → (step ≡ ((definition_of kind).turn s i).1) × RepresentsState (definition_of kind) n ws' stages' ((definition_of kind).turn s i).0)
      → (l : Lock) → RepresentsLock n kind ws stages l → (step ≡ (turn l i).1) × RepresentsLock n kind ws' stages' (turn l i).0
  turn_shown ws ws' stages stages' i step each l h = at_kind kind (λ l. RepresentsLock n kind ws stages l → (step ≡ (turn l i).1) × RepresentsLock n kind ws' stages' (turn l i).0)
      (λ s h. let t = each s (state_shown ws stages s h) in (t.0, lock_shown ws' stages' ((definition_of kind).turn s i).0 t.1)) l h.tied.kind_is h

-- the same where what is kept lies in slices: they had the words us and the places ps, and have vs and qs now
module _ (kind k : LockKind) (is : k ≡ kind) (n m : ℕ) (ws us : List ℕ) (stages ps : List Stage) (words_are : us ≡ ws) (stages_are : ps ≡ stages) (long : m ≡ n) where
  pub some_kept : (l : Lock) → RepresentsLock n k ws stages l → (s : LockState (definition_of kind).Extra) × RepresentsState (definition_of kind) m us ps s
  some_kept l h =
      let t = some_state kind n ws stages l (subst (λ z. RepresentsLock n z ws stages l) is h) in
      subst (λ (z : ℕ × List ℕ × List Stage). (s : LockState (definition_of kind).Extra) × RepresentsState (definition_of kind) z.0 z.1 z.2 s) (λ j. (sym long j, sym words_are j, sym stages_are j)) t

  pub turn_kept : (vs ws' : List ℕ) (qs stages' : List Stage) (i : ℕ) (step : StepDone) → ws' ≡ vs → stages' ≡ qs
      → ((s : LockState (definition_of kind).Extra) → RepresentsState (definition_of kind) m us ps s → (step ≡ ((definition_of kind).turn s i).1) × RepresentsState (definition_of kind) m vs qs ((definition_of kind).turn s i).0)
      → (l : Lock) → RepresentsLock n k ws stages l → (step ≡ (turn l i).1) × RepresentsLock n k ws' stages' (turn l i).0
  turn_kept vs ws' qs stages' i step now_words now_stages each =
      let each' = subst (λ (z : ℕ × List ℕ × List Stage × List ℕ × List Stage). (s : LockState (definition_of kind).Extra) → RepresentsState (definition_of kind) z.0 z.1 z.2 s → (step ≡ ((definition_of kind).turn s i).1) × RepresentsState (definition_of kind) z.0 z.3 z.4 ((definition_of kind).turn s i).0)
      (λ j. (long j, words_are j, stages_are j, sym now_words j, sym now_stages j)) each in
      subst (λ z. (l : Lock) → RepresentsLock n z ws stages l → (step ≡ (turn l i).1) × RepresentsLock n z ws' stages' (turn l i).0) (sym is) (turn_shown kind n ws ws' stages stages' i step each')
