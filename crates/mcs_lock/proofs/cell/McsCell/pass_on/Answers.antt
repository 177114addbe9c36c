use Rattle.std.proofs.Common.{rules, subst, arith}
use Rattle.word_rule.specs.{declared.lock_kind.Stage.TheVariants.Mcs, declared.lock_kind.McsStage.TheVariants.Passing, Rule.Callers.IsWith}
use Rattle.word_rule.proofs.{Acting.{left, rests_now, gives_now}, CallerFacts.{else_below, is_other}}
use Rattle.mcs_lock.proofs.McsActing.{pass_now}
use Rattle.mcs_lock.proofs.cell.McsCell.pass_on.Goals as goal

pub store-requires : goal.store-requires
store-requires g c = let s = c.args.self.now in let a = c.args.passing in let o = a.inside.outside in let key = s.table.table.shared.key in let words = s.sized.0 in
    let w = subst (λ k. IsWith g.O.SeqObject k o.cpu.number (Mcs (Passing a.follower)) a.inside.logged o.seat.me) c.requires.reported a.passes in
    let below = else_below key s.cpus a.follower o.seat.me s.sized.1 w.at.reported a.other in
    (g.met.O.SeqObject.event_fits, (search rules, omega (arith, c.locked_index-locked.ensures), rw c.locked_index-locked.ensures (pass_now g.O.SeqObject key c.args.self.now.kind _ _ o.cpu.number s.cpus a.follower a.inside.logged o.seat.me c.put_back.new.seat.me s.sized.1 w s.table.sized c.put_back.ensures.2)))

pub invariant_of-result : goal.invariant_of-result
invariant_of-result g c = let a = c.args.passing in let o = a.inside.outside in
    record { idle = rests_now g.O.SeqObject o.key.value o.cpu.number _ _ _ a.inside.logged o.seat.me c.store.new.seat.me a.passes (left g.O.SeqObject _ _ o.seat.me c.put_back.new.seat.me c.store.new.seat.me a.inside.logged a.passes.at.carries c.put_back.ensures.2 c.store.ensures.2) }

pub returns-clause-step : goal.returns-clause-step
returns-clause-step g c = let a = c.args.passing in let o = a.inside.outside in
    (a.follower, is_other o.key.value o.seat.me a.follower a.passes.at.reported a.other, gives_now g.O.SeqObject o.key.value o.cpu.number _ _ _ a.inside.logged o.seat.me c.store.new.seat.me a.passes (left g.O.SeqObject _ _ o.seat.me c.put_back.new.seat.me c.store.new.seat.me a.inside.logged a.passes.at.carries c.put_back.ensures.2 c.store.ensures.2))
