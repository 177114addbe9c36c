use Rattle.std.proofs.Common.{refl, sym, subst}
use Rattle.std.specs.Vec.{vec_capacity}
use Rattle.auditor.specs.{ReceivedRun.ReceivedRun, SoFar.HasLogs, StepModels.model_by}
use Rattle.auditor.proofs.JudgeStateSoFar.{noted_at, noted_transcript}
use Rattle.auditor.proofs.run_judge.RunJudge.begin_transcript.Goals as goal

pub invariant_of-self : goal.invariant_of-self
invariant_of-self g c =
    let i = c.self.inside in
    noted_at (model_by g.O.SeqObject g.J.StepJudge.right g.J.StepJudge.behind) g.J.StepJudge.shows (sym c.receive_transcript.ensures) refl refl refl refl (noted_transcript (model_by g.O.SeqObject g.J.StepJudge.right g.J.StepJudge.behind) g.J.StepJudge.shows i.received i.state.fault i.state.replay i.state.logs.items (vec_capacity i.state.logs) c.args.count (subst (λ (d : ReceivedRun _ _ _ _ _). HasLogs d) (sym c.self.view_is) c.requires) c.self.invariant)
