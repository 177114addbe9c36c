use Rattle.std.proofs.Common.{get_or, arith}
use Rattle.custom_records.specs.CustomForm.{no_head}
use Rattle.judge.proofs.WholeCustom.{whole_logs, whole_cpus, whole_run, verdict_by, log_exactly, more_exactly, none_exactly}
use Rattle.judge.proofs.custom_judge.CustomJudge.verdict.Goals as goal

pub returns-in-Some-clause-mistold : goal.returns-in-Some-clause-mistold
returns-in-Some-clause-mistold c =
    let i = c.self.inside in
    log_exactly (get_or i.head.items 0 no_head) i.begun i.right.items i.limits.items i.log i.left i.without i.judged c.self.invariant c.args.self.now c.self.view_is c.requires.whole c.requires.fit c.in-Some.object c.in-Some.is

pub returns-then-len-clause-mistold : goal.returns-then-len-clause-mistold
returns-then-len-clause-mistold c =
    let i = c.self.inside in
    let a = c.len.ensures in
    let b = c.len-2.ensures in
    let d = c.len-then-len.ensures in
    let lt = c.if-len.true in
    more_exactly (get_or i.head.items 0 no_head) i.begun i.right.items i.limits.items i.log i.left i.without i.judged c.self.invariant c.args.self.now c.self.view_is c.requires.whole c.requires.fit c.in_default.is c.len-then-len.result (omega (arith, d)) (omega (arith, a, b, d, lt))

pub verdict-requires-clause-logs : goal.verdict-requires-clause-logs
verdict-requires-clause-logs c =
    let i = c.self.inside in
    whole_logs (get_or i.head.items 0 no_head) i.begun i.right.items i.limits.items i.log i.left i.without i.judged c.self.invariant c.args.self.now c.self.view_is c.requires.whole c.requires.fit

pub verdict-requires-clause-transcripts : goal.verdict-requires-clause-transcripts
verdict-requires-clause-transcripts c =
    let i = c.self.inside in
    whole_cpus (get_or i.head.items 0 no_head) i.begun i.right.items i.limits.items i.log i.left i.without i.judged c.self.invariant c.args.self.now c.self.view_is c.requires.whole c.requires.fit

pub verdict-requires-clause-run : goal.verdict-requires-clause-run
verdict-requires-clause-run c =
    let i = c.self.inside in
    whole_run (get_or i.head.items 0 no_head) i.begun i.right.items i.limits.items i.log i.left i.without i.judged c.self.invariant c.args.self.now c.self.view_is c.requires.whole c.requires.fit

pub returns-clause-mistold : goal.returns-clause-mistold
returns-clause-mistold c =
    let i = c.self.inside in
    let a = c.len.ensures in
    let b = c.len-2.ensures in
    let le = c.if-len.false in
    none_exactly (get_or i.head.items 0 no_head) i.begun i.right.items i.limits.items i.log i.left i.without i.judged c.self.invariant c.args.self.now c.self.view_is c.requires.whole c.requires.fit c.in_default.is (omega (arith, a, b, le)) c.verdict.result

pub returns-clause-verdict : goal.returns-clause-verdict
returns-clause-verdict c =
    let i = c.self.inside in
    verdict_by (get_or i.head.items 0 no_head) i.begun i.right.items i.limits.items i.log i.left i.without i.judged c.self.invariant c.args.self.now c.self.view_is c.requires.whole c.requires.fit c.verdict.result c.verdict.ensures.sound c.verdict.ensures.fault
