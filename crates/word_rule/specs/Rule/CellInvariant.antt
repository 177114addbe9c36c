-- The rule of a cell's table: what is true at all times of the words, the object and all callers.
use Rattle.std.specs.Prelude.{◌≡◌, ◌≢◌, ℕ, ◌+◌, ◌<◌, true, false, List, [], ◌∷◌, Option, Some, slice_index}
use mathlib.Core.Option.{some}
use lib.ListN.{get_elem?}
use Rattle.atomic_table.specs.Table.{State}
use Rattle.event_log.specs.{declared.object.SeqObject.Ghosts, declared.event.Event.Event, Distinct.has, History.History}
use Rattle.sound_run.specs.declared.lock_kind.LockKind.{LockKind}
use Rattle.word_rule.specs.{declared.lock_kind.Stage.TheVariants.Idle, declared.view.TraceStep.TraceStep, declared.view.CallerView.CallerView, declared.view.View.View, Cell.{Cell, Grows, Lawful, stored}, Locks.{holding, Lock, opening_lock, lock_words, served, erase}, LockRuns.{Extends, HasRun, lock_after}, Rule.LockStates.IsLockOf}

-- the committed log, the run, the lock that the words are of, and whose each CPU number is: a seat, and a place among its
-- callers
pub record GhostState (O P C R : Type 0) : Type 0 where
  pub committed : List (Event O P C R)
  pub run : List (TraceStep (Event O P C R))
  pub lock : Lock
  pub owner : ℕ → ℕ × ℕ

-- P holds of each element, with its place from k on
abbrev pub EachFrom : {A : Type 0} → (ℕ → A → Type 0) → ℕ → List A → Type 0
EachFrom P k [] = Unit {0}
EachFrom P k (x ∷ xs) = P k x × EachFrom P (k + 1) xs

-- a caller at its seat
abbrev pub Caller : Type 0 → Type 0 → Type 0 → Type 0 → Type 0
Caller O P C R = CallerView (Event O P C R)

-- a seat's view
abbrev pub SeatView : Type 0 → Type 0 → Type 0 → Type 0 → Type 0
SeatView O P C R = View (Cell O P C R) (Event O P C R)

-- the callers of a seat: its own, and those that it has taken in
abbrev pub callers_in : {O P C R : Type 0} → SeatView O P C R → List (Caller O P C R)
callers_in v = v.main ∷ v.others

-- the words of a cell's table, the slot through which the object moves, and the views of all seats
abbrev pub Table : Type 0 → Type 0 → Type 0 → Type 0 → Type 0
Table O P C R = State (Option (History O P C R)) (SeatView O P C R)

module _ {O P C R : Type 0} (n : ℕ) (b : GhostState O P C R) where
  -- what the rule says of the caller k of the seat j, in a cell of n CPUs. One that owns every number finds the word that
  -- it has read
  pub record CallerInvariant (j k : ℕ) (c : Caller O P C R) : Type 0 where
    pub owns : (x : ℕ) → has x c.owned ≡ true → (b.owner x ≡ (j, k)) × (x < n)
    pub grows : Grows (λ x. has x c.owned) c.seen b.committed
    pub extends : Extends (λ x. has x c.owned) c.run [] b.run
    pub stands : has c.cpu c.owned ≡ true → b.lock.line.stage c.cpu ≡ c.stage
    pub whole : has c.cpu c.owned ≡ true → holding c.stage ≡ true → c.seen ≡ b.committed
    pub rests : (x : ℕ) → has x c.owned ≡ true → x ≢ c.cpu → b.lock.line.stage x ≡ Idle
    pub finds : (w : ℕ) → c.read ≡ Some w → ((x : ℕ) → x < n → has x c.owned ≡ true) → slice_index (lock_words n b.lock) 0 ≡ w

module _ {O P C R : Type 0} (h : Cell O P C R) (b : GhostState O P C R) where
  -- what the rule says of a seat
  pub record SeatInvariant (j : ℕ) (v : SeatView O P C R) : Type 0 where
    pub reported : EachFrom (λ _ x. x ≡ h) 0 v.reported
    pub main : CallerInvariant h.numbers b j 0 v.main
    pub others : EachFrom (CallerInvariant h.numbers b j) 1 v.others

-- the lock that the run makes of the cell's lock before its first step: it is that one but for what `erase` leaves out, and would
-- be with any first ticket; and its words go by the served ticket that the run comes to from the cell's first one
pub record IsMade {O P C R : Type 0} (h : Cell O P C R) (l : Lock) (run : List (TraceStep (Event O P C R))) : Type 0 where
  pub erased : (first : ℕ) → erase l ≡ erase (lock_after run (opening_lock h.kind first))
  pub counts : served l ≡ served (lock_after run (opening_lock h.kind h.first))

-- the rule, for such a lock: the words are those of a state of it, which is the one that the run makes; the run left the committed
-- log, of which the object at home is the replay
pub record CellInvariant {O P C R : Type 0} (meaning : Ghosts O P C R) (kind : LockKind) (h : Cell O P C R) (s : Table O P C R) : Type 0 where
  pub state : GhostState O P C R
  pub tied : IsLockOf kind h.numbers s.words state.lock
  pub ran : HasRun h state.committed state.run
  pub made : IsMade h state.lock state.run
  pub valid : Lawful meaning h state.committed
  pub at_home : state.lock.line.out ≡ false → get_elem? s.homes 0 ≡ some (some (Some (stored meaning h state.committed)))
  pub each : (j : ℕ) (v : SeatView O P C R) → get_elem? s.views j ≡ some v → SeatInvariant h state j v
