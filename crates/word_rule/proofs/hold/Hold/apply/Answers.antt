use Rattle.word_rule.proofs.Acting.{applied}
use Rattle.word_rule.proofs.hold.Hold.apply.Goals as goal

pub invariant_of-self : goal.invariant_of-self
invariant_of-self g c = let h = c.args.self.now in let o = h.inside.outside in let e = c.apply.ensures in
    record { holds = applied g.O.SeqObject o.key.value o.cpu.number o.seat.me.0.main.stage h.inside.logged c.apply.new.self o.seat.me c.apply.result h.holds e.kept (rw c.byte-cpu.ensures at e.after) e.full; there = h.there }
