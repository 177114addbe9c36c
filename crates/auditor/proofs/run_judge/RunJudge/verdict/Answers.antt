use Rattle.std.proofs.Common.{◌≡◌, [], length, sym, subst}
use Rattle.std.specs.Prelude.{◌↔◌}
use Rattle.auditor.specs.{ByModels.SoundBy, Faults.IsFirstFaultBy, ReceivedRun.{ReceivedRun, run_of}, Passes.IsRunOver, SoFar.HasLogs, StepModels.model_by}
use Rattle.auditor.proofs.{JudgedRuns.{sound_exactly, fault_exactly}, FaultOrder.one_first, Verdicts.no_fault}
use Rattle.auditor.specs.declared.fault.Verdict.TheVariants as verdict
use Rattle.auditor.proofs.run_judge.RunJudge.verdict.Goals as goal

pub verdict-requires-clause-logs : goal.verdict-requires-clause-logs
verdict-requires-clause-logs g c = subst (λ (d : ReceivedRun _ _ _ _ _). HasLogs d) (sym c.self.view_is) c.requires.logs

pub verdict-requires-clause-transcripts : goal.verdict-requires-clause-transcripts
verdict-requires-clause-transcripts g c = subst (λ (d : ReceivedRun _ _ _ _ _). length d.transcripts ≡ d.cpus) (sym c.self.view_is) c.requires.transcripts

pub verdict-requires-clause-entries : goal.verdict-requires-clause-entries
verdict-requires-clause-entries g c = subst (λ (d : ReceivedRun _ _ _ _ _). d.entries ≡ []) (sym c.self.view_is) c.requires.entries

pub verdict-requires-clause-run : goal.verdict-requires-clause-run
verdict-requires-clause-run g c = subst (λ (d : ReceivedRun _ _ _ _ _). IsRunOver d.opened (run_of d)) (sym c.self.view_is) c.requires.run

pub returns-clause-sound : goal.returns-clause-sound
returns-clause-sound g c =
    let d = c.self.inside.received in
    subst (λ (e : ReceivedRun _ _ _ _ _). (c.verdict.result ≡ verdict.Sound) ↔ SoundBy (model_by g.O.SeqObject g.J.StepJudge.right g.J.StepJudge.behind) e.opened (run_of e)) c.self.view_is
    (sound_exactly (model_by g.O.SeqObject g.J.StepJudge.right g.J.StepJudge.behind) d.opened (run_of d) (no_fault (model_by g.O.SeqObject g.J.StepJudge.right g.J.StepJudge.behind) d.opened (run_of d)) (one_first (model_by g.O.SeqObject g.J.StepJudge.right g.J.StepJudge.behind) d.opened (run_of d)) c.verdict.result c.verdict.ensures)

pub returns-clause-fault : goal.returns-clause-fault
returns-clause-fault g c = λ f.
    let d = c.self.inside.received in
    subst (λ (e : ReceivedRun _ _ _ _ _). (c.verdict.result ≡ verdict.Unsound f) ↔ IsFirstFaultBy (model_by g.O.SeqObject g.J.StepJudge.right g.J.StepJudge.behind) e.opened (run_of e) f) c.self.view_is
    (fault_exactly (model_by g.O.SeqObject g.J.StepJudge.right g.J.StepJudge.behind) d.opened (run_of d) (no_fault (model_by g.O.SeqObject g.J.StepJudge.right g.J.StepJudge.behind) d.opened (run_of d)) (one_first (model_by g.O.SeqObject g.J.StepJudge.right g.J.StepJudge.behind) d.opened (run_of d)) f c.verdict.result c.verdict.ensures)
