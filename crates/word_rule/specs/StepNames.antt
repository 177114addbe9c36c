-- What steps are called.
use Rattle.std.specs.Prelude.{ℕ, true, false, List, [], codes}
use Rattle.word_rule.specs.declared.machine.step_done.StepDone.{StepDone}
use Rattle.word_rule.specs.declared.machine.step_done.StepDone.TheVariants as steps

-- a step's name
abbrev pub name_of : StepDone → List ℕ
name_of steps.Idle = codes "idle"
name_of steps.Draw = codes "draw"
name_of (steps.Look got) = codes "look"
name_of steps.Serve = codes "serve"
name_of steps.Clear = codes "clear"
name_of (steps.Enter got) = codes "enter"
name_of steps.Arm = codes "arm"
name_of steps.Link = codes "link"
name_of (steps.See found) = codes "see"
name_of (steps.Empty emptied) = codes "empty"
name_of steps.Pass = codes "pass"

-- what came of a step that can come out in two ways; of another step nothing
abbrev pub outcome_of : StepDone → List ℕ
outcome_of (steps.Look true) = codes "got the object"
outcome_of (steps.Look false) = codes "in vain"
outcome_of (steps.Enter true) = codes "got the object"
outcome_of (steps.Enter false) = codes "behind another"
outcome_of (steps.See true) = codes "a follower"
outcome_of (steps.See false) = codes "nobody"
outcome_of (steps.Empty true) = codes "the lock is free"
outcome_of (steps.Empty false) = codes "another has entered"
outcome_of _ = []
