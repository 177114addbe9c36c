use Rattle.std.proofs.Common.{◌≡◌, ℕ, ◌<◌, List, length, get_or, sym, ap, ◌∙◌, arith}
use Rattle.sound_run.proofs.Slices.{read_get}
use Rattle.auditor.proofs.{Feeding.{logs_next, logs_end, before_log, events_on}, JudgeTerms.{run_over, start_read}}
use Rattle.auditor.specs.{Terms.{start, starts}, Transcripts.{judged_by, opened_by}}
use Rattle.auditor.proofs.judge.feed_logs.Goals as goal

-- a list that is read from one that is all of them
read_from : {X : Type 0} (lists all : List (List X)) (i : ℕ) (item list : List X) → lists ≡ all → i < length lists → item ≡ get_or lists i item → list ≡ item → list ≡ get_or all i list
read_from lists all i item list same lt is here = here ∙ (is ∙ ((λ j. get_or (same j) i (sym here j))))

pub bounds-opened_objects-object : goal.bounds-opened_objects-object
bounds-opened_objects-object g c = let n = c.requires.run.counted in let m = ap length c.as_slice-logs.ensures in omega (arith, n, m)

pub offset_bounds-opened_objects-object : goal.offset_bounds-opened_objects-object
offset_bounds-opened_objects-object g c = let n = c.requires.run.counted in let m = ap length c.as_slice-logs.ensures in omega (arith, n, m)

pub loop-object-init : goal.loop-object-init
loop-object-init g c = c.requires.nothing

pub feed_object-requires : goal.feed_object-requires
feed_object-requires g c =
    let objects = c.args.opened_objects.now in
    let terms = starts g.O.SeqObject (opened_by objects) in
    let over = run_over g.O.SeqObject objects c.args.run.now c.requires.run in
    let run = c.args.run.now in
    let j = c.loop-object.judged in
    let i = c.loop-object.object in
    let t = c.index-opened_objects-object.result in
    let log = c.as_slice.result.now in
    let n = c.requires.run.counted in
    let m = ap length c.as_slice-logs.ensures in
    let lt : i < length run.logs = omega (arith, m) in
    let here = read_from c.as_slice-logs.result.now run.logs i c.index-logs-object.result log c.as_slice-logs.ensures c.loop-object-test.true c.index-logs-object.is c.as_slice.ensures in
    (g.met.O.SeqObject.event_fits, (c.requires.run.able i t (read_get objects i t (omega (arith, n, m)) c.index-opened_objects-object.is), (before_log terms run over j i c.loop-object.invariant lt, events_on terms run over j i log c.loop-object.invariant lt here)))

pub loop-object-preserved : goal.loop-object-preserved
loop-object-preserved g c =
    let m = ap length c.as_slice-logs.ensures in
    let here = read_from c.as_slice-logs.result.now c.args.run.now.logs c.loop-object.object c.index-logs-object.result c.as_slice.result.now c.as_slice-logs.ensures c.loop-object-test.true c.index-logs-object.is c.as_slice.ensures in
    logs_next (starts g.O.SeqObject (opened_by c.args.opened_objects.now)) c.args.run.now (run_over g.O.SeqObject c.args.opened_objects.now c.args.run.now c.requires.run) c.loop-object.judged c.loop-object.object c.feed_object.new.judged (start g.O.SeqObject (judged_by c.index-opened_objects-object.result)) c.as_slice.result.now c.loop-object.invariant (omega (arith, m)) (start_read g.O.SeqObject c.args.opened_objects.now c.loop-object.object c.index-opened_objects-object.result c.index-opened_objects-object.is) here c.in_ok-feed_object.ensures

pub returns : goal.returns
returns g c = let m = ap length c.as_slice-logs.ensures in logs_end (starts g.O.SeqObject (opened_by c.args.opened_objects.now)) c.args.run.now (run_over g.O.SeqObject c.args.opened_objects.now c.args.run.now c.requires.run) c.loop-object.judged c.loop-object.object c.loop-object.invariant (omega (arith, m))
