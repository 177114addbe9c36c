use Rattle.std.proofs.Common.{subst, arith}
use Rattle.word_rule.specs.{declared.lock_kind.Stage.TheVariants.Idle, Rule.Callers.IsWithout}
use Rattle.word_rule.proofs.{Acting.{goes_without, moves_without}, CallerFacts.below_without}
use Rattle.mcs_lock.proofs.McsActing.{prepare_now}
use Rattle.mcs_lock.proofs.cell.McsCell.prepare.Goals as goal

pub prepare-requires : goal.prepare-requires
prepare-requires g c = let s = c.args.self.now in let a = c.args.pass in let o = a.outside in let key = s.table.table.shared.key in let words = s.sized.0 in
    let w = subst (λ k. IsWithout g.O.SeqObject k o.cpu.number Idle o.seat.me) c.requires.reported a.idle in
    let below = below_without g.O.SeqObject key s.cpus o.cpu.number Idle o.seat.me s.sized.1 w in
    (g.met.O.SeqObject.event_fits, (c.requires.table, omega (arith, c.next_index.ensures), rw c.next_index.ensures (prepare_now g.O.SeqObject key c.args.self.now.kind _ _ o.cpu.number o.seat.me w)))

pub invariant_of-result : goal.invariant_of-result
invariant_of-result g c = let a = c.args.pass in let o = a.outside in record { tries = goes_without g.O.SeqObject o.key.value o.cpu.number _ _ _ o.seat.me c.prepare.new.seat.me a.idle c.prepare.ensures.2 }

pub returns-clause-step : goal.returns-clause-step
returns-clause-step g c = let a = c.args.pass in let o = a.outside in
    moves_without g.O.SeqObject o.key.value o.cpu.number _ _ _ o.seat.me c.prepare.new.seat.me a.idle c.prepare.ensures.2
