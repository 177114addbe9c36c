use Rattle.std.proofs.Common.{ap, ◌∙◌, arith}
use Rattle.sound_run.proofs.Slices.{read_get}
use Rattle.auditor.specs.{ReceivedRun.ReceivedRun, Terms.terms_at}
use Rattle.auditor.proofs.Feeding.{events_begin, events_next, events_end, still_in_log, more_events, no_more_events}
use Rattle.auditor.proofs.judge.feed_log.Goals as goal

pub loop-event-init : goal.loop-event-init
loop-event-init g c = events_begin c.args.judged.now (terms_at c.args.opened.now (g.J.StepJudge.shows c.args.judge)) c.args.log.now c.begin_log.new.self c.requires.before.events c.in_ok-begin_log.ensures.ok

pub feed_event-requires : goal.feed_event-requires
feed_event-requires g c =
    let old = c.args.judged.now in
    let opened = (terms_at c.args.opened.now (g.J.StepJudge.shows c.args.judge)) in
    let log = c.args.log.now in
    let j = c.loop-event.judged in
    let i = c.loop-event.event-index in
    let e = c.event-item.result in
    let own = c.requires.events i e (read_get log i e c.loop-event-test.true c.event-item.is) in
    let cpu = own.0 in
    let same = ap (λ (k : ReceivedRun _ _ _ _ _). k.cpus) c.loop-event.invariant in
    (g.met.O.SeqObject.event_fits, (still_in_log old opened log j i c.loop-event.invariant c.requires.before, (more_events old opened log j i c.loop-event.invariant c.loop-event-test.true, (omega (arith, cpu, same), own.1))))

pub loop-event-preserved : goal.loop-event-preserved
loop-event-preserved g c = events_next c.args.judged.now (terms_at c.args.opened.now (g.J.StepJudge.shows c.args.judge)) c.args.log.now c.loop-event.judged c.feed_event.new.judged c.loop-event.event-index c.event-item.result c.loop-event.invariant c.loop-event-test.true c.event-item.is c.in_ok-feed_event.ensures

pub end_log-requires-clause-log : goal.end_log-requires-clause-log
end_log-requires-clause-log g c = still_in_log c.args.judged.now (terms_at c.args.opened.now (g.J.StepJudge.shows c.args.judge)) c.args.log.now c.loop-event.judged c.loop-event.event-index c.loop-event.invariant c.requires.before

pub end_log-requires-clause-count : goal.end_log-requires-clause-count
end_log-requires-clause-count g c = no_more_events c.args.judged.now (terms_at c.args.opened.now (g.J.StepJudge.shows c.args.judge)) c.args.log.now c.loop-event.judged c.loop-event.event-index c.loop-event.invariant c.loop-event-test.false

pub end_log-requires-clause-objects : goal.end_log-requires-clause-objects
end_log-requires-clause-objects g c =
    let a = ap (λ (k : ReceivedRun _ _ _ _ _). k.objects) c.loop-event.invariant in
    let b = ap (λ (k : ReceivedRun _ _ _ _ _). k.logs) c.loop-event.invariant in
    let d = c.requires.before.logs in
    rw b (omega (arith, a, d))

pub end_log-requires-clause-transcripts : goal.end_log-requires-clause-transcripts
end_log-requires-clause-transcripts g c = ap (λ (k : ReceivedRun _ _ _ _ _). k.transcripts) c.loop-event.invariant ∙ c.requires.before.transcripts

pub end_log-requires-clause-entries : goal.end_log-requires-clause-entries
end_log-requires-clause-entries g c = ap (λ (k : ReceivedRun _ _ _ _ _). k.entries) c.loop-event.invariant ∙ c.requires.before.entries

pub returns : goal.returns
returns g c = events_end c.args.judged.now (terms_at c.args.opened.now (g.J.StepJudge.shows c.args.judge)) c.args.log.now c.loop-event.judged c.end_log.new.self c.loop-event.event-index c.loop-event.invariant c.loop-event-test.false c.in_ok-end_log.ensures.ok
