use Rattle.std.proofs.Common.{refl, sym, ap, ◌∙◌, subst}
use Rattle.auditor.specs.{ReceivedRun.{ReceivedRun, IsStepsOf, done_entry, entry_received}, StepModels.model_by}
use Rattle.auditor.proofs.JudgeStateSoFar.{noted_at}
use Rattle.auditor.proofs.run_judge.RunJudge.recognises.Goals as goal

pub invariant_of-self : goal.invariant_of-self
invariant_of-self g c =
    noted_at (model_by g.O.SeqObject g.J.StepJudge.right g.J.StepJudge.behind) g.J.StepJudge.shows (sym c.receive_recognised.ensures) refl refl refl refl (c.in-Some.ensures.known.2 c.args.looks)

pub returns-in-Some-clause-known : goal.returns-in-Some-clause-known
returns-in-Some-clause-known g c = λ yes.
    let steps = c.in-Some.steps.items in
    let asked = g.R.StepRows.asked_in c.args.tail.now in (
      asked,
      steps,
      c.in-Some.ensures.known.0,
      c.receive_recognised.ensures ∙ ap (λ (d : ReceivedRun _ _ _ _ _). entry_received d (done_entry c.args.object c.args.looks asked steps)) c.self.view_is,
      subst (λ (d : ReceivedRun _ _ _ _ _). IsStepsOf d.logs c.args.object steps) c.self.view_is c.in-Some.ensures.known.1,
    )
