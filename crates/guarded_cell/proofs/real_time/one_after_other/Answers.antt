use Rattle.std.proofs.Common.{subst}
use Rattle.event_log.specs.Log.{Begins}
use Rattle.guarded_cell.proofs.RealTime.{calls_in_turn}
use Rattle.guarded_cell.proofs.real_time.one_after_other.Goals as goal

pub returns-clause-order : goal.returns-clause-order
returns-clause-order g c =
    let view = g.C.LockCell.pass_view in
    let a = c.call-first in
    let m = c.meet-first in
    let b = c.call-second in
    calls_in_turn g.O.SeqObject (view c.args.passes.0) (view a.result.0) (view c.args.passes.1) (view m.result.1) (view b.result.0)
    c.args.earlier.now c.args.later.now a.result.1 b.result.1
    a.ensures.answered (subst (λ l. Begins (view a.result.0).seen l) m.ensures.one_log m.ensures.first_grows.begins)
    m.ensures.second_caller b.ensures.answered
