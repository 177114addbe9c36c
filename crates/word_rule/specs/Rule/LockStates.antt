-- What is true of a lock at all times, and what keeps it.
use Rattle.std.specs.Prelude.{◌≡◌, ℕ, ◌<◌, List, length, slice_index_or}
use Rattle.sound_run.specs.declared.lock_kind.LockKind.{LockKind}
use Rattle.word_rule.specs.{declared.lock_kind.Stage.Stage, declared.machine.step_done.StepDone.StepDone, declared.lock_kind.Stage.TheVariants.Idle, LockDefinition.{IsTied, LockDefinition, LockState}, Locks.{Lock, IsLock, lock_words}}

-- these are the words of that lock, which is of that kind and for n CPUs
pub record IsLockOf (kind : LockKind) (n : ℕ) (ws : List ℕ) (l : Lock) : Type 0 where
  pub kind_is : l.kind ≡ kind
  pub state : IsLock n l
  pub words : ws ≡ lock_words n l

-- these are the words of that state, and the places at which its n CPUs stand
pub record RepresentsState (d : LockDefinition) (n : ℕ) (ws : List ℕ) (stages : List Stage) (l : LockState d.Extra) : Type 0 where
  pub tied : IsTied d n ws l
  pub size : length stages ≡ n
  pub stages_are : (k : ℕ) → k < n → slice_index_or stages k Idle ≡ l.line.stage k

module _ (d : LockDefinition) (n : ℕ) where
  -- some state has these words and places
  abbrev pub ShowsState : List ℕ → List Stage → Type 0
  ShowsState ws stages = (l : LockState d.Extra) × RepresentsState d n ws stages l

  -- of each state with these words and places, those are the words and places after the turn of CPU i, which was this step
  abbrev pub TurnsTo : List ℕ → List Stage → ℕ → StepDone → List ℕ → List Stage → Type 0
  TurnsTo ws stages i step ws' stages' = (l : LockState d.Extra) → RepresentsState d n ws stages l → (step ≡ (d.turn l i).1) × RepresentsState d n ws' stages' (d.turn l i).0

-- these are the words of the lock, and the places at which its n CPUs stand
pub record RepresentsLock (n : ℕ) (kind : LockKind) (ws : List ℕ) (stages : List Stage) (l : Lock) : Type 0 where
  pub tied : IsLockOf kind n ws l
  pub size : length stages ≡ n
  pub stages_are : (k : ℕ) → k < n → slice_index_or stages k Idle ≡ l.line.stage k
