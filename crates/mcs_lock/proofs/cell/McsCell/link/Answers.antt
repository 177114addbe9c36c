use Rattle.std.proofs.Common.{subst, arith}
use Rattle.word_rule.specs.{declared.lock_kind.Stage.TheVariants.Mcs, declared.lock_kind.McsStage.TheVariants.Armed, Rule.Callers.IsWithout}
use Rattle.word_rule.proofs.{Acting.{goes_without, moves_without}, CallerFacts.{else_below, is_other}}
use Rattle.mcs_lock.proofs.McsActing.{link_now}
use Rattle.mcs_lock.proofs.cell.McsCell.link.Goals as goal

pub store-requires : goal.store-requires
store-requires g c = let s = c.args.self.now in let a = c.args.armed in let o = a.outside in let key = s.table.table.shared.key in let words = s.sized.0 in
    let w = subst (λ k. IsWithout g.O.SeqObject k o.cpu.number (Mcs (Armed a.ahead)) o.seat.me) c.requires.reported a.armed in
    let below = else_below key s.cpus a.ahead o.seat.me s.sized.1 w.at.reported a.other in
    (g.met.O.SeqObject.event_fits, (c.requires.table, omega (arith, c.next_index-next.ensures), rw c.next_index-next.ensures (link_now g.O.SeqObject key c.args.self.now.kind _ _ o.cpu.number a.ahead o.seat.me w)))

pub invariant_of-result : goal.invariant_of-result
invariant_of-result g c = let a = c.args.armed in let o = a.outside in record { waits = goes_without g.O.SeqObject o.key.value o.cpu.number _ _ _ o.seat.me c.store.new.seat.me a.armed c.store.ensures.2 }

pub returns-clause-step : goal.returns-clause-step
returns-clause-step g c = let a = c.args.armed in let o = a.outside in
    (a.ahead, is_other o.key.value o.seat.me a.ahead a.armed.at.reported a.other, moves_without g.O.SeqObject o.key.value o.cpu.number _ _ _ o.seat.me c.store.new.seat.me a.armed c.store.ensures.2)
