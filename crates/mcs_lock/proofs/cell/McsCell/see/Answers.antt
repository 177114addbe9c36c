use Rattle.std.proofs.Common.{rules, ℕ, ◌-◌, ◌^◌, ◌<◌, true, false, [], ◌∷◌, ap, subst, ◌∙◌, arith}
use Rattle.word_rule.specs.{declared.lock_kind.Stage.TheVariants.Mcs, declared.lock_kind.McsStage.TheVariants.{Holding, Alone, Passing}, CallerState.Moves, Rule.Callers.{IsWith, state_with}, Locks.holder}
use Rattle.mcs_lock.proofs.McsActing.{see_now, named}
use Rattle.word_rule.proofs.{Acting.{goes_with, moves_with}, CallerFacts.{below_with, not_else, is_other, else_below, else_now}, Lenders.holder_holds}
use Rattle.word_rule.specs.declared.machine.step_done.StepDone.TheVariants as steps
use Rattle.mcs_lock.proofs.cell.McsCell.see.Goals as goal

pub load-found-requires : goal.load-found-requires
load-found-requires g c = let s = c.args.self.now in let a = c.args.hold in let o = a.inside.outside in let key = s.table.table.shared.key in let words = s.sized.0 in
    let at = a.there ∙ ap (λ k. holder k a.mark) (ap (λ k. k.kind) c.requires.reported ∙ s.kind) in
    let w = subst (λ q. IsWith g.O.SeqObject key o.cpu.number q a.inside.logged o.seat.me) at (subst (λ k. IsWith g.O.SeqObject k o.cpu.number o.seat.me.0.main.stage a.inside.logged o.seat.me) c.requires.reported a.holds) in
    let below = below_with g.O.SeqObject key s.cpus o.cpu.number (Mcs Holding) a.inside.logged o.seat.me s.sized.1 w in
    (g.met.O.SeqObject.event_fits, (c.requires.table, omega (arith, c.next_index-next.ensures), rw c.next_index-next.ensures (see_now g.O.SeqObject key c.args.self.now.kind _ _ o.cpu.number o.seat.me a.inside.logged w)))

pub invariant_of-result : goal.invariant_of-result
invariant_of-result g c = let a = c.args.hold in let o = a.inside.outside in
    record { alone = goes_with g.O.SeqObject o.key.value o.cpu.number _ _ _ a.inside.logged o.seat.me c.load-found.new.seat.me a.holds (holder_holds o.key.value.kind a.mark o.seat.me.0.main.stage a.there) (c.load-found.ensures.2.none c.if-found-eq0.true) }

pub overflow_cast-follower : goal.overflow_cast-follower
overflow_cast-follower g c = let s = c.args.self.now in let a = c.args.hold in let few = s.few in let t = c.load-found.ensures.2.found c.if-found-eq0.false in let word = t.word in
    let below = else_below s.table.table.shared.key s.cpus t.cpu a.inside.outside.seat.me s.sized.1 (a.holds.at.reported ∙ ap (λ k. k ∷ []) c.requires.reported) t.other in
    let small : c.load-found.result - 1 < 2 ^ 32 = omega arith in record { fits = small }

pub invariant_of-result-else-found-eq0 : goal.invariant_of-result-else-found-eq0
invariant_of-result-else-found-eq0 g c = let a = c.args.hold in let o = a.inside.outside in let some_one = c.if-found-eq0.false in let k : ℕ = c.load-found.result - 1 in
    let t = named g.O.SeqObject (λ p. Mcs (Passing p)) _ c.load-found.result k o.seat.me c.load-found.new.seat.me (c.load-found.ensures.2.found some_one) (omega arith) in record {
      passes = goes_with g.O.SeqObject o.key.value o.cpu.number o.seat.me.0.main.stage (Mcs (Passing k)) _ a.inside.logged o.seat.me c.load-found.new.seat.me a.holds (holder_holds o.key.value.kind a.mark o.seat.me.0.main.stage a.there) t.0;
      other = else_now g.O.SeqObject _ _ o.seat.me c.load-found.new.seat.me k t.0 t.1;
    }

pub returns-then-found-eq0-clause-none : goal.returns-then-found-eq0-clause-none
returns-then-found-eq0-clause-none g c = let a = c.args.hold in let o = a.inside.outside in let t = c.load-found.ensures.2 in let at = a.there ∙ ap (λ k. holder k a.mark) (ap (λ k. k.kind) c.requires.reported ∙ c.args.self.now.kind) in
    (search rules, subst (λ q. Moves g.O.SeqObject q (Mcs Alone) (steps.See false ∷ []) (state_with o.key.value o.seat.me.0.main.stage a.inside.logged o.seat.me) (state_with o.key.value (Mcs Alone) a.inside.logged c.load-found.new.seat.me)) at (moves_with g.O.SeqObject o.key.value o.cpu.number o.seat.me.0.main.stage (Mcs Alone) _ a.inside.logged o.seat.me c.load-found.new.seat.me a.holds (t.none c.if-found-eq0.true)))

pub returns-else-found-eq0-clause-found : goal.returns-else-found-eq0-clause-found
returns-else-found-eq0-clause-found g c = let a = c.args.hold in let o = a.inside.outside in let some_one = c.if-found-eq0.false in let k : ℕ = c.load-found.result - 1 in let s = c.load-found.ensures.2 in let at = a.there ∙ ap (λ k. holder k a.mark) (ap (λ k. k.kind) c.requires.reported ∙ c.args.self.now.kind) in
    let t = named g.O.SeqObject (λ p. Mcs (Passing p)) _ c.load-found.result k o.seat.me c.load-found.new.seat.me (s.found some_one) (omega arith) in (
      search rules,
      (
        k,
        is_other o.key.value o.seat.me k a.holds.at.reported t.1,
        record {
          made = subst (λ q. Moves g.O.SeqObject q (Mcs (Passing k)) (steps.See true ∷ []) (state_with o.key.value o.seat.me.0.main.stage a.inside.logged o.seat.me) (state_with o.key.value (Mcs (Passing k)) a.inside.logged c.load-found.new.seat.me)) at (moves_with g.O.SeqObject o.key.value o.cpu.number o.seat.me.0.main.stage (Mcs (Passing k)) _ a.inside.logged o.seat.me c.load-found.new.seat.me a.holds t.0);
          another = not_else o.key.value o.seat.me k a.holds.at.reported t.1;
        },
      ),
    )
