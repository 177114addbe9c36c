use Rattle.std.proofs.Common.{◌≡◌, [], length, sym, subst}
use Rattle.auditor.specs.{ReceivedRun.{ReceivedRun, run_of}, Passes.IsRunOver, SoFar.HasLogs}
use Rattle.auditor.proofs.run_judge.RunJudge.into_run.Goals as goal

pub into_run-requires-clause-logs : goal.into_run-requires-clause-logs
into_run-requires-clause-logs g c = subst (λ (d : ReceivedRun _ _ _ _ _). HasLogs d) (sym c.self.view_is) c.requires.logs

pub into_run-requires-clause-transcripts : goal.into_run-requires-clause-transcripts
into_run-requires-clause-transcripts g c = subst (λ (d : ReceivedRun _ _ _ _ _). length d.transcripts ≡ d.cpus) (sym c.self.view_is) c.requires.transcripts

pub into_run-requires-clause-entries : goal.into_run-requires-clause-entries
into_run-requires-clause-entries g c = subst (λ (d : ReceivedRun _ _ _ _ _). d.entries ≡ []) (sym c.self.view_is) c.requires.entries

pub into_run-requires-clause-run : goal.into_run-requires-clause-run
into_run-requires-clause-run g c = subst (λ (d : ReceivedRun _ _ _ _ _). IsRunOver d.opened (run_of d)) (sym c.self.view_is) c.requires.run
