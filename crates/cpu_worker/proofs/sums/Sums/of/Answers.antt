use Rattle.std.proofs.Common.{◌∙◌, ap}
use Rattle.cpu_worker.specs.Report.{entries_on, joined, sums_of}
use Rattle.cpu_worker.proofs.Reports.{room_for_transcript, transcript_joined}
use Rattle.cpu_worker.proofs.sums.Sums.of.Goals as goal

pub add_on-requires-clause-entries : goal.add_on-requires-clause-entries
add_on-requires-clause-entries c =
    let room = room_for_transcript c.args.place c.args.transcripts.now c.loop-transcript.transcript-index c.transcript-item.result c.loop-transcript-test.true c.transcript-item.is c.requires in
    rw (c.loop-transcript.invariant, c.as_slice.ensures) room.entries

pub add_on-requires-clause-noroom : goal.add_on-requires-clause-noroom
add_on-requires-clause-noroom c =
    let room = room_for_transcript c.args.place c.args.transcripts.now c.loop-transcript.transcript-index c.transcript-item.result c.loop-transcript-test.true c.transcript-item.is c.requires in
    rw (c.loop-transcript.invariant, c.as_slice.ensures) room.noroom

pub loop-transcript-preserved : goal.loop-transcript-preserved
loop-transcript-preserved c =
    let added = rw c.as_slice.ensures at c.add_on.ensures in
    added
    ∙ (ap (λ s. joined s (sums_of (entries_on c.args.place c.transcript-item.result))) c.loop-transcript.invariant
    ∙ transcript_joined c.args.place c.args.transcripts.now c.loop-transcript.transcript-index c.transcript-item.result c.loop-transcript-test.true c.transcript-item.is)
