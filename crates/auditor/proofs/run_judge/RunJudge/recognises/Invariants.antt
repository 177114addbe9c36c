use Rattle.auditor.specs.ReceivedRun.{done_entry}
use Rattle.auditor.proofs.run_judge.RunJudge.recognises.Given as goal

abbrev pub ghost-receive_recognised : goal.ghost-receive_recognised
ghost-receive_recognised g a = done_entry a.object a.looks (g.R.StepRows.asked_in a.tail.now) a.steps.now.items
