use Rattle.word_rule.proofs.Acting.{applied_one}
use Rattle.word_rule.proofs.hold.Hold.apply_one.Goals as goal

pub invariant_of-self : goal.invariant_of-self
invariant_of-self g c = let h = c.args.self.now in let o = h.inside.outside in let e = c.call.ensures in
    record { holds = applied_one g.O.SeqObject o.key.value o.cpu.number o.seat.me.0.main.stage h.inside.logged c.call.new.self o.seat.me c.args.call.now c.call.result h.holds e.kept (rw c.byte-cpu.ensures at e.after) e.full; there = h.there }
