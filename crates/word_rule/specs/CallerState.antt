-- Where a caller stands at a cell, and what each kind of step does with it.
use Rattle.std.specs.Prelude.{◌≡◌, ℕ, ◌<◌, true, false, List, [], ◌++◌, Option, Some, None}
use Rattle.event_log.specs.{declared.object.SeqObject.Ghosts, declared.event.Event.Event, History.History}
use Rattle.word_rule.specs.{declared.machine.step_done.StepDone.StepDone, declared.lock_kind.Stage.Stage, declared.view.TraceStep.TraceStep, Cell.{Caller, Grows, Lawful, OwnsAll, stored}, Locks.holding, LockRuns.{Extends, ExtendsUntil}, OneHold.{leaving, silently}}

-- a caller, where it stands, the log and the run that it has seen, and the stored history while it has the object
pub record CallerState (O P C R : Type 0) : Type 0 where
  pub caller : Caller O P C R
  pub stage : Stage
  pub seen : List (Event O P C R)
  pub run : List (TraceStep (Event O P C R))
  pub has : Option (History O P C R)

module _ {O P C R : Type 0} where
  -- p is a CPU of the caller's cell, and none of its own numbers
  pub record IsOther (caller : Caller O P C R) (p : ℕ) : Type 0 where
    pub other : caller.owned p ≡ false
    pub inside : p < caller.cell.numbers

module _ {O P C R : Type 0} (meaning : Ghosts O P C R) where
  -- the caller goes from p to q by these steps, and may see more, but no event while it has the object; who has the object
  -- stays, and what is stored
  pub record Moves (p q : Stage) (done : List StepDone) (before after : CallerState O P C R) : Type 0 where
    pub caller : after.caller ≡ before.caller
    pub from : before.stage ≡ p
    pub to : after.stage ≡ q
    pub grows : Grows before.caller.owned before.seen after.seen
    pub still : holding p ≡ true → after.seen ≡ before.seen
    pub extends : Extends before.caller.owned before.run (silently before.caller.acting done) after.run
    pub valid : Lawful meaning before.caller.cell after.seen
    pub has : after.has ≡ before.has

  -- the object comes to the caller by these steps, with the log that it sees now
  pub record Takes (p q : Stage) (done : List StepDone) (before after : CallerState O P C R) : Type 0 where
    pub caller : after.caller ≡ before.caller
    pub from : before.stage ≡ p
    pub to : after.stage ≡ q
    pub grows : Grows before.caller.owned before.seen after.seen
    pub extends : Extends before.caller.owned before.run (silently before.caller.acting done) after.run
    pub valid : Lawful meaning before.caller.cell after.seen
    pub had : before.has ≡ None
    pub has : after.has ≡ Some (stored meaning before.caller.cell after.seen)

  -- the object goes home by this step, the last of the run that the caller has seen now, and it has seen the stored log, to
  -- which it had added these events
  pub record Gives (p q : Stage) (step : StepDone) (before after : CallerState O P C R) : Type 0 where
    pub caller : after.caller ≡ before.caller
    pub from : before.stage ≡ p
    pub to : after.stage ≡ q
    pub valid : Lawful meaning before.caller.cell after.seen
    pub events : List (Event O P C R)
    pub added : after.seen ≡ before.seen ++ events
    pub extends : ExtendsUntil before.caller.owned before.run [] (leaving before.caller.acting step events) after.run
    pub had : before.has ≡ Some (stored meaning before.caller.cell after.seen)
    pub has : after.has ≡ None

  -- a step that another CPU has made so, and that nobody makes who owns every number
  pub record NeedsAnother (step : CallerState O P C R → CallerState O P C R → Type 0) (before after : CallerState O P C R) : Type 0 where
    pub made : step before after
    pub another : OwnsAll before.caller → ⊥
