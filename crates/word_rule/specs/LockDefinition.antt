-- What a lock is: the record that each lock gives one value of.
use Rattle.std.specs.Prelude.{◌≡◌, ℕ, ◌<◌, Bool, true, List, length}
use Rattle.event_log.specs.Distinct.{AreDistinctBelow}
use Rattle.word_rule.specs.{declared.machine.step_done.StepDone.StepDone, declared.lock_kind.Stage.Stage, Line.{Line, empty_line}}

-- a lock: its line, and what it has beside
pub record LockState (Extra : Type 0) : Type 0 where
  pub line : Line
  pub extra : Extra

pub record LockDefinition : Type 1 where
  -- what it has beside its line
  pub Extra : Type 0
  -- the same before the first step, by the number with which the lock begins: a ticket lock's first ticket
  pub opening : ℕ → Extra
  -- a CPU's next step: the lock afterwards, and what the step was
  pub turn : LockState Extra → ℕ → LockState Extra × StepDone
  -- a CPU's try, by the number that it has read before: the lock afterwards, and the steps that it has done
  pub attempt : LockState Extra → ℕ → ℕ → LockState Extra × List StepDone
  -- what prepares a CPU's try
  pub prepare : LockState Extra → ℕ → LockState Extra
  -- its words, for n CPUs
  pub words : ℕ → LockState Extra → List ℕ
  -- whether it is for so many CPUs
  pub fits : ℕ → Bool
  -- for n CPUs, the CPU x stands there: of the line its CPUs, whether the object is out, x, what the lock has beside
  pub Stands : ℕ → List ℕ → Bool → ℕ → Extra → Stage → Type 0
  -- what is true beside, for n CPUs
  pub KeepsExtra : ℕ → Extra → List ℕ → Type 0
  -- the lock without the parts that may differ between a cell's lock and the one that its run makes. A step of a CPU that has
  -- prepared no try goes by none of these parts
  pub erase : LockState Extra → LockState Extra
  -- the number that its words go by beside the line, and that a try reads: a ticket lock's ticket that is served, else 0
  pub served : Extra → ℕ
  -- whether one that stands there has the object
  pub holding : Stage → Bool
  -- where a holder stands, which can still do calls, by what the lock keeps for it
  pub holder : ℕ → Stage

-- a state of the lock for n CPUs: a line of distinct CPUs, and places that agree with it
pub record IsState (d : LockDefinition) (n : ℕ) (l : LockState d.Extra) : Type 0 where
  pub distinct : AreDistinctBelow n l.line.cpus
  pub busy : l.line.out ≡ true → 0 < length l.line.cpus
  pub stood : (x : ℕ) → x < n → d.Stands n l.line.cpus l.line.out x l.extra (l.line.stage x)
  pub extra : d.KeepsExtra n l.extra l.line.cpus

-- these are the words of such a state
pub record IsTied (d : LockDefinition) (n : ℕ) (ws : List ℕ) (l : LockState d.Extra) : Type 0 where
  pub state : IsState d n l
  pub words : ws ≡ d.words n l

-- the lock before its first step: nobody is in line, and the object is at home
abbrev pub opening_state : (d : LockDefinition) → ℕ → LockState d.Extra
opening_state d first = record { line = empty_line; extra = d.opening first }
