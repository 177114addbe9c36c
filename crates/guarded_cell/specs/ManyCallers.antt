-- Any number of callers of one cell, each with its own list of calls: the log and the lock's run at the end.
use Rattle.std.specs.Prelude.{◌≡◌, ℕ, ◌<◌, ◌≤◌, true, List, [], ◌∷◌, ◌++◌, map, length, take, drop, slice_get, Some, unwrap_or}
use Rattle.event_log.specs.{declared.object.SeqObject.Ghosts, declared.event.Event.Event, Log.Begins, History.History}
use Rattle.word_rule.specs.{declared.view.TraceStep.TraceStep, Cell.{Cell, PassView, Lawful, stored}, LockRuns.{HasRun, arrivals_in, endings_in}, Replay.{IsReplay, todo_of}}
use Rattle.guarded_cell.specs.{Calls.{asked_by, HasEachCall}, Held.{HasHeldFor, holds_of}}

module _ {O P C R : Type 0} (meaning : Ghosts O P C R) where
  -- a caller has done the first `done` of its calls, and its pass was joined into the last one: the last pass has seen these calls, and
  -- its run has a hold for each of them. All calls are done, unless the log is full
  pub record HasJoined (first : PassView O P C R) (first_run : List (TraceStep (Event O P C R))) (calls : List C) (done : ℕ)
      (last : PassView O P C R) (last_run : List (TraceStep (Event O P C R))) : Type 0 where
    pub cell : last.caller.cell ≡ first.caller.cell
    pub owned : (k : ℕ) → first.caller.owned k ≡ true → last.caller.owned k ≡ true
    pub called : HasEachCall first (take done calls) last.seen
    pub count : done ≤ length calls
    pub full : done < length calls → length last.seen ≡ first.caller.cell.limit
    pub held : HasHeldFor meaning first.caller first_run calls done last_run

  -- every caller has, with the list of calls and the count at its index
  pub record AllHaveJoined {S : Type 0} (view : S → PassView O P C R) (run_of : S → List (TraceStep (Event O P C R))) (passes : List S)
      (scripts : List (List C)) (done : List ℕ) (last : S) : Type 0 where
    pub counts : length done ≡ length passes
    pub each : (x : ℕ) (p : S) (calls : List C) (n : ℕ) → slice_get passes x ≡ Some p → slice_get scripts x ≡ Some calls
        → slice_get done x ≡ Some n → HasJoined (view p) (run_of p) calls n (view last) (run_of last)

-- the holds of CPU k: one for each call that was done and, if that isn't all of them, one more, which found the log full
abbrev pub holds_at : {C : Type 0} → List (List C) → List ℕ → ℕ → List (List C)
holds_at scripts done k = holds_of (unwrap_or (slice_get scripts k) []) (unwrap_or (slice_get done k) 0)

module _ {O P C R : Type 0} where
  -- since the cell was opened CPU k has done the first `done` of its calls, each as one event, once and in order, and nothing else: all of
  -- its calls, unless the log is full
  pub record AreCalledBy (cell : Cell O P C R) (k : ℕ) (calls : List C) (done : ℕ) (log : List (Event O P C R)) : Type 0 where
    pub mine : asked_by k log ≡ asked_by k cell.opening ++ map (λ c. c ∷ []) (take done calls)
    pub count : done ≤ length calls
    pub full : done < length calls → length log ≡ cell.limit

module _ {O P C R : Type 0} (meaning : Ghosts O P C R) where
  -- the callers of a cell, CPU k with the list of calls at index k, ended the cell: one lawful log, which begins with the log at opening
  -- and has each caller's calls and no others, and the object's state after it
  pub record AreCarriedOut (cell : Cell O P C R) (scripts : List (List C)) (done : List ℕ) (h : History O P C R) : Type 0 where
    pub valid : Lawful meaning cell h.log
    pub replayed : h ≡ stored meaning cell h.log
    pub counts : length done ≡ length scripts
    pub each : (k : ℕ) (calls : List C) (n : ℕ) → slice_get scripts k ≡ Some calls → slice_get done k ≡ Some n
        → AreCalledBy cell k calls n h.log

  -- a run of the lock has left the log: every CPU that arrived in line has ended its hold, in the order of arrival, and the events are in
  -- that order too. The step machine does the same run and leaves the same log, with the callers' calls as scripts and the run as schedule
  pub record HasOrderedRun (cell : Cell O P C R) (scripts : List (List C)) (done : List ℕ) (log : List (Event O P C R)) : Type 0 where
    pub run : List (TraceStep (Event O P C R))
    pub ran : HasRun cell log run
    pub in_order : endings_in run ≡ arrivals_in run
    pub events : Begins (map (λ (e : Event O P C R). e.cpu) (drop (length cell.opening) log)) (arrivals_in run)
    pub replayed : (ticket : ℕ) → IsReplay meaning cell (λ k. map todo_of (holds_at scripts done k)) (λ _. []) ticket log run
