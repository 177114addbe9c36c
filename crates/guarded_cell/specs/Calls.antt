-- What callers leave in the log by their calls, whatever order they come in.
use Rattle.std.specs.Prelude.{◌≡◌, ◌≢◌, ℕ, ◌<◌, ◌≤◌, true, List, [], ◌∷◌, ◌++◌, map, length, take}
use Rattle.event_log.specs.{declared.object.SeqObject.Ghosts, declared.event.Event.Event, Log.{Begins, of, calls_of}, History.History}
use Rattle.word_rule.specs.Cell.{PassView, Lawful, stored}

module _ {O P C R : Type 0} where
  -- the calls of each of that CPU's events in the log, in order
  abbrev pub asked_by : ℕ → List (Event O P C R) → List (List C)
  asked_by cpu log = map (λ e. calls_of e.steps.list.items) (of cpu log)

  -- the log begins with all that the caller had seen; since then the CPU that it acts as has these calls, each as one
  -- event, once and in order, and its other CPUs have none
  pub record HasEachCall (before : PassView O P C R) (calls : List C) (log : List (Event O P C R)) : Type 0 where
    pub begins : Begins before.seen log
    pub mine : asked_by before.caller.acting log ≡ asked_by before.caller.acting before.seen ++ map (λ c. c ∷ []) calls
    pub others : (k : ℕ) → before.caller.owned k ≡ true → k ≢ before.caller.acting → of k log ≡ of k before.seen

  -- the same caller, which has called the first so many of its calls: all, unless it saw a full log
  pub record HasDoneCalls (before : PassView O P C R) (calls : List C) (done : ℕ) (after : PassView O P C R) : Type 0 where
    pub caller : after.caller ≡ before.caller
    pub called : HasEachCall before (take done calls) after.seen
    pub count : done ≤ length calls
    pub full : done < length calls → length after.seen ≡ before.caller.cell.limit

module _ {O P C R : Type 0} (meaning : Ghosts O P C R) where
  -- what a cell leaves that two callers ended: a lawful log with the calls of each, and its replay
  pub record IsEnded (first : PassView O P C R) (firsts : List C) (second : PassView O P C R) (seconds : List C) (h : History O P C R) : Type 0 where
    pub valid : Lawful meaning first.caller.cell h.log
    pub replayed : h ≡ stored meaning first.caller.cell h.log
    pub first_calls : HasEachCall first firsts h.log
    pub second_calls : HasEachCall second seconds h.log
