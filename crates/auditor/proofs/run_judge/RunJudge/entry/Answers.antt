use Rattle.std.proofs.Common.{refl, sym, ap, ◌∙◌}
use Rattle.auditor.specs.{ReceivedRun.{ReceivedRun, entry_received}, StepModels.model_by}
use Rattle.auditor.proofs.JudgeStateSoFar.{noted_at}
use Rattle.auditor.proofs.run_judge.RunJudge.entry.Goals as goal

pub invariant_of-self : goal.invariant_of-self
invariant_of-self g c = noted_at (model_by g.O.SeqObject g.J.StepJudge.right g.J.StepJudge.behind) g.J.StepJudge.shows (sym c.receive_entry.ensures) refl refl refl refl c.entry.ensures

pub returns : goal.returns
returns g c = c.receive_entry.ensures ∙ ap (λ (d : ReceivedRun _ _ _ _ _). entry_received d c.args.entry.now) c.self.view_is
