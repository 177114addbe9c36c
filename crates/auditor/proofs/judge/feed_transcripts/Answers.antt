use Rattle.std.proofs.Common.{◌≡◌, ℕ, ◌<◌, List, length, get_or, sym, ap, ◌∙◌, arith}
use Rattle.auditor.proofs.{Feeding.{transcripts_next, transcripts_end, in_transcripts, no_entries, entries_on}, JudgeTerms.run_over}
use Rattle.auditor.specs.{Terms.starts, Transcripts.opened_by}
use Rattle.auditor.proofs.judge.feed_transcripts.Goals as goal

-- a list that is read from one that is all of them
read_from : {X : Type 0} (lists all : List (List X)) (i : ℕ) (item list : List X) → lists ≡ all → i < length lists → item ≡ get_or lists i item → list ≡ item → list ≡ get_or all i list
read_from lists all i item list same lt is here = here ∙ (is ∙ ((λ j. get_or (same j) i (sym here j))))

pub loop-entries-init : goal.loop-entries-init
loop-entries-init g c = c.requires.logs

pub feed_transcript-requires : goal.feed_transcript-requires
feed_transcript-requires g c =
    let objects = c.args.opened_objects.now in
    let terms = starts g.O.SeqObject (opened_by objects) in
    let over = run_over g.O.SeqObject objects c.args.run.now c.requires.run in
    let run = c.args.run.now in
    let j = c.loop-entries.judged in
    let i = c.loop-entries.entries-index in
    let entries = c.as_slice.result.now in
    let m = ap length c.as_slice-transcripts.ensures in
    let lt : i < length run.transcripts = omega (arith, m) in
    let here = read_from c.as_slice-transcripts.result.now run.transcripts i c.entries-item.result entries c.as_slice-transcripts.ensures c.loop-entries-test.true c.entries-item.is c.as_slice.ensures in
    (g.met.O.SeqObject.entry_fits, (in_transcripts terms run over j i c.loop-entries.invariant lt, (no_entries terms run over j i c.loop-entries.invariant, entries_on terms run over j i entries c.loop-entries.invariant lt here)))

pub loop-entries-preserved : goal.loop-entries-preserved
loop-entries-preserved g c =
    let m = ap length c.as_slice-transcripts.ensures in
    let here = read_from c.as_slice-transcripts.result.now c.args.run.now.transcripts c.loop-entries.entries-index c.entries-item.result c.as_slice.result.now c.as_slice-transcripts.ensures c.loop-entries-test.true c.entries-item.is c.as_slice.ensures in
    transcripts_next (starts g.O.SeqObject (opened_by c.args.opened_objects.now)) c.args.run.now (run_over g.O.SeqObject c.args.opened_objects.now c.args.run.now c.requires.run) c.loop-entries.judged c.loop-entries.entries-index c.feed_transcript.new.judged c.as_slice.result.now c.loop-entries.invariant (omega (arith, m)) here c.feed_transcript.ensures

pub returns : goal.returns
returns g c = let m = ap length c.as_slice-transcripts.ensures in transcripts_end (starts g.O.SeqObject (opened_by c.args.opened_objects.now)) c.args.run.now (run_over g.O.SeqObject c.args.opened_objects.now c.args.run.now c.requires.run) c.loop-entries.judged c.loop-entries.entries-index c.loop-entries.invariant (omega (arith, m))
