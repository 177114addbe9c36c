use Rattle.std.proofs.Common.{subst, arith}
use Rattle.word_rule.specs.{declared.lock_kind.Stage.TheVariants.Mcs, declared.lock_kind.McsStage.TheVariants.Behind, Rule.Callers.IsWithout}
use Rattle.word_rule.proofs.{Acting.{goes_without, moves_without}, CallerFacts.{below_without, is_other, else_now}}
use Rattle.mcs_lock.proofs.McsActing.{arm_now}
use Rattle.mcs_lock.proofs.cell.McsCell.arm.Goals as goal

pub store-requires : goal.store-requires
store-requires g c = let s = c.args.self.now in let a = c.args.behind in let o = a.outside in let key = s.table.table.shared.key in let words = s.sized.0 in
    let w = subst (λ k. IsWithout g.O.SeqObject k o.cpu.number (Mcs (Behind a.ahead)) o.seat.me) c.requires.reported a.behind in
    let below = below_without g.O.SeqObject key s.cpus o.cpu.number (Mcs (Behind a.ahead)) o.seat.me s.sized.1 w in
    (g.met.O.SeqObject.event_fits, (c.requires.table, omega (arith, c.locked_index-locked.ensures), rw c.locked_index-locked.ensures (arm_now g.O.SeqObject key c.args.self.now.kind _ _ o.cpu.number s.cpus a.ahead o.seat.me s.sized.1 w)))

pub invariant_of-result : goal.invariant_of-result
invariant_of-result g c = let a = c.args.behind in let o = a.outside in let went = c.store.ensures.2 a.ahead a.behind.at.stands in
    record { armed = goes_without g.O.SeqObject o.key.value o.cpu.number _ _ _ o.seat.me c.store.new.seat.me a.behind went; other = else_now g.O.SeqObject _ _ o.seat.me c.store.new.seat.me a.ahead went a.other }

pub returns-clause-step : goal.returns-clause-step
returns-clause-step g c = let a = c.args.behind in let o = a.outside in
    (a.ahead, is_other o.key.value o.seat.me a.ahead a.behind.at.reported a.other, moves_without g.O.SeqObject o.key.value o.cpu.number _ _ _ o.seat.me c.store.new.seat.me a.behind (c.store.ensures.2 a.ahead a.behind.at.stands))
