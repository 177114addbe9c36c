use Rattle.std.proofs.Common.{inl, refl, sym, subst}
use Rattle.program.proofs.Refused.{refused}
use Rattle.mc2_command.specs.{Answers.AnswersWith, Printed.printed}
use Rattle.mc2_command.proofs.commands.perform.Goals as goal

pub returns-in-Ok-clause-done : goal.returns-in-Ok-clause-done
returns-in-Ok-clause-done g c =
    let text = printed c.in_ok-answer.answer in
    let held = g.I.Inputs.held c.args.inputs.now in
    (text, subst (λ status. AnswersWith held c.args.words.now status text) (sym c.status.ensures) c.in_ok-answer.ensures.answer, c.in-Ok.ensures.ok)

pub returns-in_err-answer-clause-refused : goal.returns-in_err-answer-clause-refused
returns-in_err-answer-clause-refused g c = refused _ c.from_residual.result _ c.from_residual.ensures.1 (inl (c.in_err-answer.ensures.refused, refl))
