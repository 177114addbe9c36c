-- What kinds of step there are.
use Rattle.std.specs.Prelude.{Bool, true, false}
use Rattle.word_rule.specs.declared.machine.step_done.StepDone.{StepDone}
use Rattle.word_rule.specs.declared.machine.step_done.StepDone.TheVariants as steps

-- the steps that end a hold
abbrev pub ends_hold : StepDone → Bool
ends_hold steps.Serve = true
ends_hold (steps.Empty emptied) = emptied
ends_hold steps.Pass = true
ends_hold _ = false

-- the steps by which a CPU joins a line
abbrev pub arrives : StepDone → Bool
arrives steps.Draw = true
arrives (steps.Enter got) = true
arrives _ = false

-- whether the step is a look
abbrev pub is_look : StepDone → Bool
is_look (steps.Look got) = true
is_look _ = false
