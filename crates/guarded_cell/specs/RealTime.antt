-- The order of calls in real time: a call that returned before another began, where the second caller has seen the first one's log.
use Rattle.std.specs.Prelude.{◌≡◌, List, ◌∷◌, ◌++◌}
use Rattle.event_log.specs.{declared.object.SeqObject.Ghosts, declared.event.Event.Event, declared.event.Steps.Steps, Log.Begins}
use Rattle.word_rule.specs.{Cell.PassView, Answered.IsAnswered}

-- a is in the list, and b after it
pub record Precedes {E : Type 0} (a b : E) (list : List E) : Type 0 where
  pub front : List E
  pub middle : List E
  pub rest : List E
  pub is : list ≡ front ++ a ∷ (middle ++ b ∷ rest)

module _ {O P C R : Type 0} where
  -- the event of a caller's calls
  abbrev pub event_of : PassView O P C R → Steps O P C R → Event O P C R
  event_of before steps = record { cpu = before.caller.acting; steps = steps }

module _ {O P C R : Type 0} (meaning : Ghosts O P C R) where
  -- the first caller's calls were answered. Then the second caller, which had seen the first one's log at that time, made its calls,
  -- and they were answered. The log begins with the one that the second caller saw at its end
  pub record ReturnedBefore (first first_after : PassView O P C R) (firsts : List C) (first_steps : Steps O P C R)
      (second second_after : PassView O P C R) (seconds : List C) (second_steps : Steps O P C R) (log : List (Event O P C R)) : Type 0 where
    pub answered : IsAnswered meaning first firsts first_steps first_after
    pub told : Begins first_after.seen second.seen
    pub then : IsAnswered meaning second seconds second_steps second_after
    pub further : Begins second_after.seen log
