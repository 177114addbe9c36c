use Rattle.std.proofs.Common.{true≢false, get_or, sym, ◌∙◌, arith}
use Rattle.log_merge.specs.Shapes.{shape_of}
use Rattle.log_merge.proofs.{Lent.ended, Shaped.{none_of, shaped, comes_past, comes_by, blocked_by}}
use Rattle.log_merge.proofs.next_entry.next_of.Goals as goal

pub bounds-placed-object : goal.bounds-placed-object
bounds-placed-object g c =
    let its = shaped _ c.in-Some.entry c.in-Some.ensures in
    let on = c.requires.ready.objects c.args.cpu (get_or c.args.at.now c.args.cpu 0) its.entry its.there in
    let logs = c.requires.ready.logs in
    omega (arith, on, logs, its.object)

pub returns-in_default : goal.returns-in_default
returns-in_default g c = ended _ _ (none_of shape_of _ c.in_default.ensures)

pub returns-in_default-event_cpu : goal.returns-in_default-event_cpu
returns-in_default-event_cpu g c = comes_past (g.S.RunShape.run c.args.shape.now) c.args.at.now c.args.placed.now c.args.cpu c.in-Some.entry c.in-Some.ensures c.requires.ready c.in_default-event_cpu.ensures

pub returns-in-false : goal.returns-in-false
returns-in-false g c =
    blocked_by (g.S.RunShape.run c.args.shape.now) c.args.at.now c.args.placed.now c.args.cpu c.in-Some.entry c.in-Some.ensures c.in-Some-event_cpu.by c.in-Some-event_cpu.ensures
    (λ steps own. true≢false (sym steps ∙ c.in-false.is))

pub returns-then-is_own : goal.returns-then-is_own
returns-then-is_own g c =
    comes_by (g.S.RunShape.run c.args.shape.now) c.args.at.now c.args.placed.now c.args.cpu c.in-Some.entry c.in-Some.ensures c.in-Some-event_cpu.by c.in-Some-event_cpu.ensures c.in-true.is c.if-is_own.true

pub returns-else-is_own : goal.returns-else-is_own
returns-else-is_own g c =
    blocked_by (g.S.RunShape.run c.args.shape.now) c.args.at.now c.args.placed.now c.args.cpu c.in-Some.entry c.in-Some.ensures c.in-Some-event_cpu.by c.in-Some-event_cpu.ensures
    (λ steps own. c.if-is_own.false own)
