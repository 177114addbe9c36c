-- What whole calls add to the run of a cell's lock.
use Rattle.std.specs.Prelude.{◌≡◌, ℕ, ◌+◌, List, [], ◌∷◌, map, take, Result, Ok, Err}
use Rattle.event_log.specs.{declared.object.SeqObject.Ghosts, declared.event.Event.Event, declared.event.Steps.Steps, declared.logged.NoRoom.NoRoom, Log.one_step}
use Rattle.word_rule.specs.{declared.view.TraceStep.TraceStep, Answered.events_by, Cell.Caller, Holds.HasHeldEach, LockRuns.{Extends, HasRun, arrivals_in, endings_in}, OneHold.{HasHeld, HasHeldAtOnce}}
use Rattle.guarded_cell.specs.declared.tries.Declined.{Declined}
use Rattle.guarded_cell.specs.declared.tries.Declined.TheVariants as declined

module _ {O P C R : Type 0} where
  -- the events that a call of that CPU left, and that calls in one event left: none where the log was full
  abbrev pub left_by_call : ℕ → C → Result R NoRoom → List (Event O P C R)
  left_by_call cpu call (Ok reply) = events_by cpu (one_step call reply ∷ [])
  left_by_call cpu call (Err full) = []

  abbrev pub left_by_batch : ℕ → Result (Steps O P C R) NoRoom → List (Event O P C R)
  left_by_batch cpu (Ok steps) = events_by cpu (steps ∷ [])
  left_by_batch cpu (Err full) = []

  -- the caller had the object once, with so many looks: for a call, for calls in one event, and for these events
  abbrev pub HasCalled : Caller O P C R → List (TraceStep (Event O P C R)) → ℕ → C → Result R NoRoom → List (TraceStep (Event O P C R)) → Type 0
  HasCalled caller before looks call reported after = HasHeld caller before looks (left_by_call caller.acting call reported) after

  -- the caller held the object once, and left the event of its calls
  abbrev pub HasBatched : Caller O P C R → List (TraceStep (Event O P C R)) → ℕ → Result (Steps O P C R) NoRoom → List (TraceStep (Event O P C R)) → Type 0
  HasBatched caller before looks reported after = HasHeld caller before looks (left_by_batch caller.acting reported) after

  -- the caller held the object once, and left an event for each group that was done
  abbrev pub HasDoneGroups : Caller O P C R → List (TraceStep (Event O P C R)) → ℕ → List (Steps O P C R) → List (TraceStep (Event O P C R)) → Type 0
  HasDoneGroups caller before looks done after = HasHeld caller before looks (events_by caller.acting done) after

  -- the caller had the object once, with at most one look, for one event
  abbrev pub HasTried : Caller O P C R → List (TraceStep (Event O P C R)) → Steps O P C R → List (TraceStep (Event O P C R)) → Type 0
  HasTried caller before steps after = HasHeldAtOnce caller before (events_by caller.acting (steps ∷ [])) after

  -- a try did nothing, or found the log full in one hold, got by at most one look
  abbrev pub HasDeclined : Declined → Caller O P C R → List (TraceStep (Event O P C R)) → List (TraceStep (Event O P C R)) → Type 0
  HasDeclined declined.Busy caller before after = Extends caller.owned before [] after
  HasDeclined declined.NoRoom caller before after = HasHeldAtOnce caller before [] after

-- the holds of calls of which so many were done: one for each call, in order, and where that isn't all one more, for the call that
-- found the log full
abbrev pub holds_of : {C : Type 0} → List C → ℕ → List (List C)
holds_of calls done = map (λ c. c ∷ []) (take (done + 1) calls)

module _ {O P C R : Type 0} (meaning : Ghosts O P C R) where
  -- the caller had the object once for each call, of which so many were done
  abbrev pub HasHeldFor : Caller O P C R → List (TraceStep (Event O P C R)) → List C → ℕ → List (TraceStep (Event O P C R)) → Type 0
  HasHeldFor caller before calls done after = HasHeldEach meaning caller before (holds_of calls done) after

  -- what the end of a cell leaves of two callers: a run of the lock that left the log, with the holds of each; all who have arrived
  -- have ended their holds, in the order of arrival
  pub record EndedInOrder (log : List (Event O P C R)) (first : Caller O P C R) (first_run : List (TraceStep (Event O P C R))) (first_holds : List (List C)) (second : Caller O P C R) (second_run : List (TraceStep (Event O P C R))) (second_holds : List (List C)) : Type 0 where
    pub run : List (TraceStep (Event O P C R))
    pub ran : HasRun first.cell log run
    pub one_cell : second.cell ≡ first.cell
    pub in_order : endings_in run ≡ arrivals_in run
    pub first_held : HasHeldEach meaning first first_run first_holds run
    pub second_held : HasHeldEach meaning second second_run second_holds run
