use Rattle.std.proofs.Common.{arith}
use Rattle.sound_run.proofs.Slices.{read_get}
use Rattle.auditor.proofs.Feeding.{entries_begin, entries_next, entries_end, still_in, more_entries, same_objects}
use Rattle.auditor.proofs.judge.feed_transcript.Goals as goal

pub loop-entry-init : goal.loop-entry-init
loop-entry-init g c = entries_begin c.args.judged.now c.args.transcript.now c.begin_transcript.new.self c.requires.entries c.begin_transcript.ensures

pub entry-requires : goal.entry-requires
entry-requires g c =
    let old = c.args.judged.now in
    let entries = c.args.transcript.now in
    let j = c.loop-entry.judged in
    let i = c.loop-entry.entry-index in
    let e = c.entry-item.result in
    let lt = c.requires.objects i e (read_get entries i e c.loop-entry-test.true c.entry-item.is) in
    let same = same_objects old entries j i c.loop-entry.invariant in
    (g.met.O.SeqObject.entry_fits, (still_in old entries j i c.loop-entry.invariant c.requires.transcripts, (more_entries old entries j i c.loop-entry.invariant c.loop-entry-test.true, omega (arith, lt, same))))

pub loop-entry-preserved : goal.loop-entry-preserved
loop-entry-preserved g c = entries_next c.args.judged.now c.args.transcript.now c.loop-entry.judged c.entry.new.self c.loop-entry.entry-index c.entry-item.result c.loop-entry.invariant c.loop-entry-test.true c.entry-item.is c.entry.ensures

pub end_transcript-requires : goal.end_transcript-requires
end_transcript-requires g c = still_in c.args.judged.now c.args.transcript.now c.loop-entry.judged c.loop-entry.entry-index c.loop-entry.invariant c.requires.transcripts

pub returns : goal.returns
returns g c = entries_end c.args.judged.now c.args.transcript.now c.loop-entry.judged c.end_transcript.new.self c.loop-entry.entry-index c.loop-entry.invariant c.loop-entry-test.false c.end_transcript.ensures
