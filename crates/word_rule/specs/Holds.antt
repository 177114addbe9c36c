-- Holds in which calls are done, one hold for each list of calls: what each leaves in the log.
use Rattle.std.specs.Prelude.{◌≡◌, ◌⊎◌, ℕ, List, [], ◌∷◌, ◌++◌, length}
use Rattle.event_log.specs.{declared.object.SeqObject.Ghosts, declared.event.Event.Event, Log.Fulfils}
use Rattle.word_rule.specs.{declared.view.TraceStep.TraceStep, Cell.Caller, LockRuns.{Extends, events_in}, OneHold.HasHeld}

module _ {O P C R : Type 0} (meaning : Ghosts O P C R) where
  -- what a hold of these calls leaves in a log that has come so far: their steps as one event, or none where the log is full
  abbrev pub Leaves : ℕ → List (Event O P C R) → List C → List (Event O P C R) → Type 0
  Leaves limit log calls events = ((e : Event O P C R) × (events ≡ e ∷ []) × Fulfils meaning calls e.steps.list.items) ⊎ ((events ≡ []) × (length log ≡ limit))

  -- the caller has had the object once for each of these lists of calls, one after another, and has left that; it has done nothing else
  abbrev pub HasHeldEach : Caller O P C R → List (TraceStep (Event O P C R)) → List (List C) → List (TraceStep (Event O P C R)) → Type 0
  HasHeldEach caller before [] after = Extends caller.owned before [] after
  HasHeldEach caller before (calls ∷ more) after = (looks : ℕ) × (between : List (TraceStep (Event O P C R))) × (events : List (Event O P C R)) × (held : HasHeld caller before looks events between)
      × Leaves caller.cell.limit (caller.cell.opening ++ events_in held.extends.before) calls events × HasHeldEach caller between more after
