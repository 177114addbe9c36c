-- What a caller in line does from there on, until it has the object.
use Rattle.std.specs.Prelude.{◌≡◌, ℕ, List, [], ◌∷◌, ◌++◌, true}
use Rattle.event_log.specs.declared.event.Event.{Event}
use Rattle.word_rule.specs.{declared.machine.step_done.StepDone.StepDone, declared.view.TraceStep.TraceStep, CallerState.CallerState, LockRuns.{Extends, events_in}, OneHold.{gets_object, how_many, looks_in, silently}, StepKinds.{arrives, ends_hold}}
use Rattle.word_rule.specs.declared.machine.step_done.StepDone.TheVariants as steps

module _ {O P C R : Type 0} where
  -- one in line gets the object by a look, after steps by which it doesn't get it, nor arrives or ends a hold; the looks of the
  -- steps that it had done before in vain are counted too
  pub record IsQueued (before : CallerState O P C R) (vain : List StepDone) (looks : ℕ) (found : List (Event O P C R)) (after : List (TraceStep (Event O P C R))) : Type 0 where
    pub done : List StepDone
    pub arrived : how_many arrives done ≡ 0
    pub got : how_many gets_object done ≡ 0
    pub unended : how_many ends_hold done ≡ 0
    pub looked : looks ≡ looks_in (vain ++ (done ++ steps.Look true ∷ []))
    pub left : found ≡ before.caller.cell.opening ++ events_in after
    pub extends : Extends before.caller.owned before.run (silently before.caller.acting (done ++ steps.Look true ∷ [])) after
