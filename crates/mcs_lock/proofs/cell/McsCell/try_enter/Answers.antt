use Rattle.std.proofs.Common.{rules, refl, ◌∷◌, sym, ap, subst, ◌∙◌, arith, Some}
use Rattle.atomic_table.specs.Table.{rest}
use Rattle.word_rule.specs.{declared.lock_kind.Stage.TheVariants.{Idle, Trying}, Locks.holder, Rule.Callers.IsWithout}
use Rattle.word_rule.proofs.Acting.{took, takes_from, holds_from, goes_without, lags_without}
use Rattle.mcs_lock.proofs.McsActing.{try_now}
use Rattle.mcs_lock.proofs.cell.McsCell.try_enter.Goals as goal

pub try_exchange-found-requires : goal.try_exchange-found-requires
try_exchange-found-requires g c = let s = c.args.self.now in let a = c.args.trying in let o = a.outside in let words = s.sized.0 in
    (g.met.O.SeqObject.event_fits, (c.requires.table, omega arith, (0, try_now g.O.SeqObject s.table.table.shared.key c.args.self.now.kind _ _ o.cpu.number o.seat.me (subst (λ k. IsWithout g.O.SeqObject k o.cpu.number Trying o.seat.me) c.requires.reported a.tries))))

pub take-logged-requires : goal.take-logged-requires
take-logged-requires g c = let t = c.try_exchange-found.ensures.2.first c.if-found-eq0.true in
    (g.met.O.SeqObject.event_fits, (search rules, (t.object, ap (λ m. m.1) t.seat ∙ ap (λ m. (0, Some t.object) ∷ rest m.1) (sym t.seat))))

pub invariant_of-result : goal.invariant_of-result
invariant_of-result g c = let a = c.args.trying in let o = a.outside in let t = c.try_exchange-found.ensures.2.first c.if-found-eq0.true in let y = c.take-logged.result.0 in let e = c.take-logged.ensures in
    let got = took g.O.SeqObject _ _ o.seat.me c.try_exchange-found.new.seat.me c.take-logged.new.seat.me (Some y) y t e.2 e.3 refl in
    record { holds = holds_from g.O.SeqObject o.key.value o.cpu.number _ _ _ y o.seat.me c.take-logged.new.seat.me a.tries got; there = ap (λ z. z.0.main.stage) got.seat ∙ ap (λ k. holder k 0) (sym (ap (λ k. k.kind) c.requires.reported ∙ c.args.self.now.kind)) }

pub returns-then-found-eq0-clause-got : goal.returns-then-found-eq0-clause-got
returns-then-found-eq0-clause-got g c = let a = c.args.trying in let o = a.outside in let t = c.try_exchange-found.ensures.2.first c.if-found-eq0.true in let y = c.take-logged.result.0 in let e = c.take-logged.ensures in
    (search rules, takes_from g.O.SeqObject o.key.value o.cpu.number _ _ _ y o.seat.me c.take-logged.new.seat.me a.tries (took g.O.SeqObject _ _ o.seat.me c.try_exchange-found.new.seat.me c.take-logged.new.seat.me (Some y) y t e.2 e.3 refl))

pub invariant_of-result-else-found-eq0 : goal.invariant_of-result-else-found-eq0
invariant_of-result-else-found-eq0 g c = let a = c.args.trying in let o = a.outside in let t = c.try_exchange-found.ensures.2.busy c.if-found-eq0.false in
    record { idle = goes_without g.O.SeqObject o.key.value o.cpu.number Trying Idle _ o.seat.me c.try_exchange-found.new.seat.me a.tries t.goes }

pub returns-else-found-eq0-clause-busy : goal.returns-else-found-eq0-clause-busy
returns-else-found-eq0-clause-busy g c = let a = c.args.trying in let o = a.outside in let t = c.try_exchange-found.ensures.2.busy c.if-found-eq0.false in (
  search rules,
  lags_without g.O.SeqObject o.key.value o.cpu.number Trying Idle _ o.seat.me c.try_exchange-found.new.seat.me a.tries t,
)
