-- Which locks there are, and what all else takes of a lock.
use Rattle.std.specs.Prelude.{◌≡◌, ℕ, ◌||◌, Bool, true, List}
use Rattle.sound_run.specs.declared.lock_kind.LockKind.{LockKind}
use Rattle.word_rule.specs.{declared.machine.step_done.StepDone.StepDone, declared.lock_kind.Stage.Stage, Line.Line, LockDefinition.{LockDefinition, LockState, IsState, opening_state}, Mcs.Definition.mcs_lock, Ticket.Definition.ticket_lock}
use Rattle.sound_run.specs.declared.lock_kind.LockKind.TheVariants as kinds

-- one line for each lock
abbrev pub definition_of : LockKind → LockDefinition
definition_of kinds.Ticket = ticket_lock
definition_of kinds.Mcs = mcs_lock

-- whether a caller that stands there has the object, at some lock
abbrev pub holding : Stage → Bool
holding q = ticket_lock.holding q || mcs_lock.holding q

-- a lock of some kind: its line, and what that kind has beside
pub record Lock : Type 0 where
  pub kind : LockKind
  pub line : Line
  pub extra : (definition_of kind).Extra

-- the lock as its definition takes it
abbrev pub state_of : (l : Lock) → LockState (definition_of l.kind).Extra
state_of l = record { line = l.line; extra = l.extra }

-- the lock of that kind with this state
abbrev pub lock_of : (kind : LockKind) → LockState (definition_of kind).Extra → Lock
lock_of kind s = record { kind = kind; line = s.line; extra = s.extra }

-- a lock before its first step
abbrev pub opening_lock : LockKind → ℕ → Lock
opening_lock kind first = lock_of kind (opening_state (definition_of kind) first)

-- a CPU's next step on the lock
abbrev pub turn : Lock → ℕ → Lock × StepDone
turn l i = let t = (definition_of l.kind).turn (state_of l) i in (lock_of l.kind t.0, t.1)

-- a CPU's try at the lock, by the number that it has read before: the lock afterwards, and the steps that it has done
abbrev pub attempt : Lock → ℕ → ℕ → Lock × List StepDone
attempt l i seen = let t = (definition_of l.kind).attempt (state_of l) i seen in (lock_of l.kind t.0, t.1)

-- what prepares a CPU's try
abbrev pub prepare : Lock → ℕ → Lock
prepare l i = lock_of l.kind ((definition_of l.kind).prepare (state_of l) i)

-- the words of a lock for n CPUs
abbrev pub lock_words : ℕ → Lock → List ℕ
lock_words n l = (definition_of l.kind).words n (state_of l)

-- the lock without the parts that may differ between a cell's lock and the one that its run makes
abbrev pub erase : Lock → Lock
erase l = lock_of l.kind ((definition_of l.kind).erase (state_of l))

-- the number that its words go by beside the line: a ticket lock's ticket that is served, else 0
abbrev pub served : Lock → ℕ
served l = (definition_of l.kind).served l.extra

-- whether a lock of that kind is for so many CPUs
abbrev pub Fits : LockKind → ℕ → Type 0
Fits kind n = (definition_of kind).fits n ≡ true

-- where a holder stands, which can still do calls, at such a lock, by what this keeps for it
abbrev pub holder : LockKind → ℕ → Stage
holder kind mark = (definition_of kind).holder mark

-- a state of a lock for n CPUs
abbrev pub IsLock : ℕ → Lock → Type 0
IsLock n l = IsState (definition_of l.kind) n (state_of l)
