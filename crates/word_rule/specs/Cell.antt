-- Cells, and what their passes and holds know.
use Rattle.std.specs.{Prelude.{◌≡◌, ℕ, ◌<◌, ◌≤◌, Bool, true, ◌==◌, ◌||◌, List, length, drop, Some}, List.{AllByRecursion, slice_get}}
use Rattle.event_log.specs.{declared.object.SeqObject.Ghosts, declared.event.Event.Event, declared.event.Steps.Steps, Log.{Begins, Legal, after, replay, of}, History.{History, with_event}}
use Rattle.sound_run.specs.declared.lock_kind.LockKind.{LockKind}

-- what was fixed when a cell was opened; a ticket lock serves the first ticket first; its CPUs are the numbers below `numbers`
pub record Cell (O P C R : Type 0) : Type 0 where
  pub kind : LockKind
  pub first : ℕ
  pub params : P
  pub limit : ℕ
  pub numbers : ℕ
  pub opening : List (Event O P C R)

-- a caller of a cell: the CPU numbers that it owns, and the one that it acts as
pub record Caller (O P C R : Type 0) : Type 0 where
  pub cell : Cell O P C R
  pub owned : ℕ → Bool
  pub acting : ℕ

-- a caller without the object, and the log that it has seen
pub record PassView (O P C R : Type 0) : Type 0 where
  pub caller : Caller O P C R
  pub seen : List (Event O P C R)

-- a caller that holds the object, and the stored history
pub record HoldView (O P C R : Type 0) : Type 0 where
  pub caller : Caller O P C R
  pub history : History O P C R

module _ {O P C R : Type 0} (meaning : Ghosts O P C R) where
  -- the history behind an event more, which the acting CPU did with these steps
  abbrev pub after_steps : HoldView O P C R → Steps O P C R → History O P C R
  after_steps h s = with_event h.history (record { cpu = h.caller.acting; steps = s }) (after meaning h.history.state s.list.items)

-- P holds of each element, with its index
abbrev pub EachAt : {A : Type 0} → (ℕ → A → Type 0) → List A → Type 0
EachAt {A} P xs = (k : ℕ) (x : A) → slice_get xs k ≡ Some x → P k x

module _ {O P C R : Type 0} where
  -- the cell behind such a lock, with that first ticket, that is made of this history for n CPUs
  abbrev pub cell_of : LockKind → ℕ → ℕ → History O P C R → Cell O P C R
  cell_of k f n h = record { kind = k; first = f; params = h.params; limit = h.limit; numbers = n; opening = h.log }

  -- the view of pass k of a cell that was just opened
  abbrev pub opening_pass : Cell O P C R → ℕ → PassView O P C R
  opening_pass h k = record { caller = record { cell = h; owned = (λ j. j == k); acting = k }; seen = h.opening }

  -- the view of pass i of a cell behind such a lock, with that first ticket, that was made of this history for n CPUs
  abbrev pub first_pass : LockKind → ℕ → History O P C R → ℕ → ℕ → PassView O P C R
  first_pass k f h n i = opening_pass (cell_of k f n h) i

  -- log b begins with log a, and has the same events of the owned numbers
  pub record Grows (owned : ℕ → Bool) (a b : List (Event O P C R)) : Type 0 where
    pub begins : Begins a b
    pub own : (k : ℕ) → owned k ≡ true → of k b ≡ of k a

  -- the numbers are of the cell, and the caller acts as the least
  pub record IsCaller (caller : Caller O P C R) : Type 0 where
    pub acts : caller.owned caller.acting ≡ true
    pub least : (k : ℕ) → caller.owned k ≡ true → caller.acting ≤ k
    pub below : (k : ℕ) → caller.owned k ≡ true → k < caller.cell.numbers

  -- the caller owns every number of its cell
  pub record OwnsAll (caller : Caller O P C R) : Type 0 where
    pub each : (k : ℕ) → k < caller.cell.numbers → caller.owned k ≡ true

  -- two callers own every number of the second's cell together
  abbrev pub OwnTogether : Caller O P C R → Caller O P C R → Type 0
  OwnTogether a b = (k : ℕ) → k < b.cell.numbers → (a.owned k || b.owned k) ≡ true

module _ {O P C R : Type 0} (meaning : Ghosts O P C R) where
  -- a log that the cell may have: it begins with the opening log, is legal and within the limit, and all further events
  -- are of the cell's CPUs
  pub record Lawful (cell : Cell O P C R) (log : List (Event O P C R)) : Type 0 where
    pub begins : Begins cell.opening log
    pub legal : Legal meaning cell.params log
    pub within : length log ≤ cell.limit
    pub numbered : AllByRecursion (λ e. e.cpu < cell.numbers) (drop (length cell.opening) log)

  -- what the cell stores once that log was done
  abbrev pub stored : Cell O P C R → List (Event O P C R) → History O P C R
  stored cell log = record { params = cell.params; limit = cell.limit; log = log; state = replay meaning cell.params log }

  -- the numbers are the cell's, and a lawful log was seen
  pub record IsPassView (view : PassView O P C R) : Type 0 where
    pub caller : IsCaller view.caller
    pub valid : Lawful view.caller.cell view.seen

  -- the numbers are the cell's, and the stored log is lawful, with its replay
  pub record IsHoldView (view : HoldView O P C R) : Type 0 where
    pub caller : IsCaller view.caller
    pub valid : Lawful view.caller.cell view.history.log
    pub replayed : view.history ≡ stored view.caller.cell view.history.log
