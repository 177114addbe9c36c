use Rattle.std.proofs.Common.{◌<◌, length, refl, sym, ap, subst, ◌∙◌}
use Rattle.auditor.specs.{ReceivedRun.{ReceivedRun, transcript_ended}, SoFar.IsInTranscripts, StepModels.model_by}
use Rattle.auditor.proofs.JudgeStateSoFar.{noted_at}
use Rattle.auditor.proofs.run_judge.RunJudge.end_transcript.Goals as goal

pub end_transcript-requires-clause-transcripts : goal.end_transcript-requires-clause-transcripts
end_transcript-requires-clause-transcripts g c = subst (λ (d : ReceivedRun _ _ _ _ _). IsInTranscripts d) (sym c.self.view_is) c.requires

pub receive_transcript_end-requires : goal.receive_transcript_end-requires
receive_transcript_end-requires g c = subst (λ (d : ReceivedRun _ _ _ _ _). length d.transcripts < d.cpus) (sym c.self.view_is) c.requires.cpus

pub invariant_of-self : goal.invariant_of-self
invariant_of-self g c = noted_at (model_by g.O.SeqObject g.J.StepJudge.right g.J.StepJudge.behind) g.J.StepJudge.shows (sym c.receive_transcript_end.ensures) refl refl refl refl c.end_transcript.ensures

pub returns : goal.returns
returns g c = c.receive_transcript_end.ensures ∙ ap (λ (d : ReceivedRun _ _ _ _ _). transcript_ended d) c.self.view_is
