use Rattle.std.proofs.Common.{rules, refl, ◌∷◌, sym, ap, subst, ◌∙◌, arith, Some}
use Rattle.atomic_table.specs.Table.{rest}
use Rattle.word_rule.specs.{declared.lock_kind.Stage.TheVariants.Mcs, declared.lock_kind.McsStage.TheVariants.Waiting, Locks.holder, Rule.Callers.IsWithout}
use Rattle.word_rule.proofs.{Known.idle_alone, Acting.{took, takes_from, holds_from, goes_without, lags_without}, CallerFacts.below_without}
use Rattle.mcs_lock.proofs.McsActing.{look_now}
use Rattle.mcs_lock.proofs.cell.McsCell.look.Goals as goal

pub load-found-requires : goal.load-found-requires
load-found-requires g c = let s = c.args.self.now in let a = c.args.waiting in let o = a.outside in let key = s.table.table.shared.key in let words = s.sized.0 in
    let w = subst (λ k. IsWithout g.O.SeqObject k o.cpu.number (Mcs Waiting) o.seat.me) c.requires.reported a.waits in
    let below = below_without g.O.SeqObject key s.cpus o.cpu.number (Mcs Waiting) o.seat.me s.sized.1 w in
    (g.met.O.SeqObject.event_fits, (c.requires.table, omega (arith, c.locked_index-locked.ensures), rw c.locked_index-locked.ensures (look_now g.O.SeqObject key c.args.self.now.kind _ _ o.cpu.number s.cpus o.seat.me s.sized.1 w.pass_view.caller.acts w.at.number w.at.stands (idle_alone o.seat.me.0.others w.at.alone))))

pub take-logged-requires : goal.take-logged-requires
take-logged-requires g c = let t = c.load-found.ensures.2.hit c.if-found-eq0.true in
    (g.met.O.SeqObject.event_fits, (search rules, (t.object, ap (λ m. m.1) t.seat ∙ ap (λ m. (0, Some t.object) ∷ rest m.1) (sym t.seat))))

pub invariant_of-result : goal.invariant_of-result
invariant_of-result g c = let a = c.args.waiting in let o = a.outside in let t = c.load-found.ensures.2.hit c.if-found-eq0.true in let y = c.take-logged.result.0 in let e = c.take-logged.ensures in
    record { holds = holds_from g.O.SeqObject o.key.value o.cpu.number _ _ _ y o.seat.me c.take-logged.new.seat.me a.waits (took g.O.SeqObject _ _ o.seat.me c.load-found.new.seat.me c.take-logged.new.seat.me (Some y) y t e.2 e.3 refl); there = (ap (λ z. z.0.main.stage) (took g.O.SeqObject _ _ o.seat.me c.load-found.new.seat.me c.take-logged.new.seat.me (Some y) y t e.2 e.3 refl).seat) ∙ ap (λ k. holder k 0) (sym (ap (λ k. k.kind) c.requires.reported ∙ c.args.self.now.kind)) }

pub returns-then-found-eq0-clause-got : goal.returns-then-found-eq0-clause-got
returns-then-found-eq0-clause-got g c = let a = c.args.waiting in let o = a.outside in let t = c.load-found.ensures.2.hit c.if-found-eq0.true in let y = c.take-logged.result.0 in let e = c.take-logged.ensures in
    (search rules, takes_from g.O.SeqObject o.key.value o.cpu.number _ _ _ y o.seat.me c.take-logged.new.seat.me a.waits (took g.O.SeqObject _ _ o.seat.me c.load-found.new.seat.me c.take-logged.new.seat.me (Some y) y t e.2 e.3 refl))

pub invariant_of-result-else-found-eq0 : goal.invariant_of-result-else-found-eq0
invariant_of-result-else-found-eq0 g c = let a = c.args.waiting in let o = a.outside in let t = c.load-found.ensures.2.miss c.if-found-eq0.false in
    record { waits = goes_without g.O.SeqObject o.key.value o.cpu.number _ _ _ o.seat.me c.load-found.new.seat.me a.waits t.goes }

pub returns-else-found-eq0-clause-missed : goal.returns-else-found-eq0-clause-missed
returns-else-found-eq0-clause-missed g c = let a = c.args.waiting in let o = a.outside in let t = c.load-found.ensures.2.miss c.if-found-eq0.false in (
  search rules,
  lags_without g.O.SeqObject o.key.value o.cpu.number _ _ _ o.seat.me c.load-found.new.seat.me a.waits t,
)
