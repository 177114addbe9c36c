use Rattle.std.proofs.Common.{[], subst, arith}
use Rattle.word_rule.specs.{declared.lock_kind.Stage.TheVariants.{Idle, Trying}, Rule.Callers.{IsWithout, state_without}}
use Rattle.word_rule.proofs.Acting.{goes_without, moves_without}
use Rattle.mcs_lock.proofs.McsAtOnce.{from_rest, withdraw_now}
use Rattle.mcs_lock.proofs.cell.McsCell.wake.Goals as goal

pub withdraw-requires : goal.withdraw-requires
withdraw-requires g c = let s = c.args.self.now in let a = c.args.rested in let o = a.outside in let key = s.table.table.shared.key in let words = s.sized.0 in
    let w = subst (λ k. IsWithout g.O.SeqObject k o.cpu.number Trying o.seat.me) c.requires.reported a.rests in
    (g.met.O.SeqObject.event_fits, (c.requires.table, omega arith, withdraw_now g.O.SeqObject key c.args.self.now.kind _ _ o.cpu.number o.seat.me w))

pub invariant_of-result : goal.invariant_of-result
invariant_of-result g c = let a = c.args.rested in let o = a.outside in record { idle = goes_without g.O.SeqObject o.key.value o.cpu.number _ _ _ o.seat.me c.withdraw.new.seat.me a.rests c.withdraw.ensures.2 }

pub returns-clause-step : goal.returns-clause-step
returns-clause-step g c = let a = c.args.rested in let o = a.outside in
    from_rest g.O.SeqObject o.key.value o.seat.me Idle [] (state_without o.key.value Idle c.withdraw.new.seat.me) (moves_without g.O.SeqObject o.key.value o.cpu.number _ _ _ o.seat.me c.withdraw.new.seat.me a.rests c.withdraw.ensures.2)
