use Rattle.std.proofs.Common.{map, sym, arith}
use Rattle.sound_run.proofs.Slices.{read_get, map_get}
use Rattle.auditor.specs.declared.kept_log.KeptLog.{KeptLog}
use Rattle.auditor.proofs.{JudgedRuns.index_map, LeftEvents.{taken_more, left_here}}
use Rattle.auditor.proofs.unclaimed_events.first_left.Goals as goal

pub returns-then-kept-len : goal.returns-then-kept-len
returns-then-kept-len g c =
    let logs = c.args.logs.now in
    let x = c.loop-object.object in
    let kept = c.index-logs-object.result in
    let at = read_get logs x kept c.loop-object-test.true c.index-logs-object.is in
    let end = index_map (λ (k : KeptLog _ _ _ _ _). k.end) logs x kept at in
    let n = c.len.ensures in
    left_here (map (λ (k : KeptLog _ _ _ _ _). k.log) logs) (map (λ (k : KeptLog _ _ _ _ _). k.end) logs) x kept.log (map_get (λ (k : KeptLog _ _ _ _ _). k.log) logs x kept at) c.loop-object.invariant kept.end (sym end) (omega (arith, n))

pub loop-object-preserved : goal.loop-object-preserved
loop-object-preserved g c =
    let logs = c.args.logs.now in
    let x = c.loop-object.object in
    let kept = c.index-logs-object.result in
    let at = read_get logs x kept c.loop-object-test.true c.index-logs-object.is in
    let end = index_map (λ (k : KeptLog _ _ _ _ _). k.end) logs x kept at in
    let n = c.len.ensures in
    taken_more (map (λ (k : KeptLog _ _ _ _ _). k.log) logs) (map (λ (k : KeptLog _ _ _ _ _). k.end) logs) x kept.log (map_get (λ (k : KeptLog _ _ _ _ _). k.log) logs x kept at) c.loop-object.invariant (omega (arith, n, end))
