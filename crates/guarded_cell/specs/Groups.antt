-- What a hold adds to a log.
use Rattle.std.specs.Prelude.{◌≡◌, List, ◌++◌}
use Rattle.event_log.specs.declared.event.Steps.{Steps}
use Rattle.word_rule.specs.{Cell.HoldView, Answered.events_by}

module _ {O P C R : Type 0} where
  -- the holder has added an event for each of the steps, in order
  pub record HasAdded (before : HoldView O P C R) (done : List (Steps O P C R)) (after : HoldView O P C R) : Type 0 where
    pub caller : after.caller ≡ before.caller
    pub log : after.history.log ≡ before.history.log ++ events_by before.caller.acting done
