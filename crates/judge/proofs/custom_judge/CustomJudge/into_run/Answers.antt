use Rattle.std.proofs.Common.{get_or}
use Rattle.std.specs.Prelude.{IfOk, IfErr}
use Rattle.auditor.specs.{ByModels.SoundBy, Faults.IsFirstFaultBy}
use Rattle.custom_records.specs.CustomForm.{no_head}
use Rattle.judge.proofs.{CountedLogs.by_count, WholeCustom.{whole_logs, whole_cpus, whole_run, of_record}}
use Rattle.judge.proofs.custom_judge.CustomJudge.into_run.Goals as goal

pub into_run-requires-clause-logs : goal.into_run-requires-clause-logs
into_run-requires-clause-logs c =
    let i = c.self.inside in
    whole_logs (get_or i.head.items 0 no_head) i.begun i.right.items i.limits.items i.log i.left i.without i.judged c.self.invariant c.args.self c.self.view_is c.requires.whole c.requires.fit

pub into_run-requires-clause-transcripts : goal.into_run-requires-clause-transcripts
into_run-requires-clause-transcripts c =
    let i = c.self.inside in
    whole_cpus (get_or i.head.items 0 no_head) i.begun i.right.items i.limits.items i.log i.left i.without i.judged c.self.invariant c.args.self c.self.view_is c.requires.whole c.requires.fit

pub into_run-requires-clause-run : goal.into_run-requires-clause-run
into_run-requires-clause-run c =
    let i = c.self.inside in
    whole_run (get_or i.head.items 0 no_head) i.begun i.right.items i.limits.items i.log i.left i.without i.judged c.self.invariant c.args.self c.self.view_is c.requires.whole c.requires.fit

pub returns-clause-sound : goal.returns-clause-sound
returns-clause-sound c =
    let i = c.self.inside in
    of_record (get_or i.head.items 0 no_head) i.begun i.right.items i.limits.items i.log i.left i.without i.judged c.self.invariant c.args.self c.self.view_is c.requires.whole c.requires.fit (λ ts run. IfOk c.into_run.result (λ r. SoundBy by_count ts run)) c.into_run.ensures.sound

pub returns-clause-fault : goal.returns-clause-fault
returns-clause-fault c =
    let i = c.self.inside in
    of_record (get_or i.head.items 0 no_head) i.begun i.right.items i.limits.items i.log i.left i.without i.judged c.self.invariant c.args.self c.self.view_is c.requires.whole c.requires.fit (λ ts run. IfErr c.into_run.result (IsFirstFaultBy by_count ts run)) c.into_run.ensures.fault
