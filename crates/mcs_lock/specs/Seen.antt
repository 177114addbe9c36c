-- What one that leaves does until it sees who is behind it.
use Rattle.std.specs.Prelude.{◌≡◌, List}
use Rattle.word_rule.specs.{declared.machine.step_done.StepDone.StepDone, CallerState.CallerState, LockRuns.Extends, OneHold.{how_many, silently}, StepKinds.{arrives, ends_hold, is_look}}

module _ {O P C R : Type 0} where
  -- one that leaves sees its follower, and no event more, by steps that are no arrival, look or end of a hold
  pub record IsSeen (before after : CallerState O P C R) : Type 0 where
    pub done : List StepDone
    pub arrived : how_many arrives done ≡ 0
    pub blind : how_many is_look done ≡ 0
    pub unended : how_many ends_hold done ≡ 0
    pub caller : after.caller ≡ before.caller
    pub extends : Extends before.caller.owned before.run (silently before.caller.acting done) after.run
    pub still : after.seen ≡ before.seen
    pub has : after.has ≡ before.has
