use Rattle.std.proofs.{Common.inr, lemmas.Result.{IfErr-weaker, IfOk-weaker}}
use Rattle.mc2_command.proofs.Answered.{with_words}
use Rattle.mc2_command.proofs.commands.answered.Goals as goal

pub returns-clause-answer : goal.returns-clause-answer
returns-clause-answer g c = IfOk-weaker c.answer_to.result _ _ (λ a h. with_words _ _ c.in_ok-arguments.arguments _ _ c.in_ok-arguments.ensures.asked h) c.answer_to.ensures.answer

pub returns-clause-refused : goal.returns-clause-refused
returns-clause-refused g c = IfErr-weaker c.answer_to.result _ _ (λ f h. inr (c.in_ok-arguments.arguments, c.in_ok-arguments.ensures.asked, h)) c.answer_to.ensures.refused
