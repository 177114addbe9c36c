use Rattle.std.proofs.Common.{rules, refl, ℕ, ◌-◌, ◌∷◌, sym, ap, subst, ◌∙◌, arith, Some}
use Rattle.atomic_table.specs.Table.{rest}
use Rattle.word_rule.specs.{declared.lock_kind.Stage.TheVariants.Mcs, declared.lock_kind.McsStage.TheVariants.{Ready, Behind}, Locks.holder, Rule.Callers.IsWithout}
use Rattle.word_rule.proofs.{Acting.{took, takes_from, holds_from, goes_without, moves_without}, CallerFacts.{not_else, is_other, else_now}}
use Rattle.mcs_lock.proofs.McsActing.{enter_now, named}
use Rattle.mcs_lock.proofs.cell.McsCell.enter.Goals as goal

pub swap-found-requires : goal.swap-found-requires
swap-found-requires g c = let s = c.args.self.now in let a = c.args.ready in let o = a.outside in let words = s.sized.0 in
    (g.met.O.SeqObject.event_fits, (c.requires.table, omega arith, enter_now g.O.SeqObject s.table.table.shared.key c.args.self.now.kind _ _ o.cpu.number o.seat.me (subst (λ k. IsWithout g.O.SeqObject k o.cpu.number (Mcs Ready) o.seat.me) c.requires.reported a.ready)))

pub take-logged-requires : goal.take-logged-requires
take-logged-requires g c = let t = c.swap-found.ensures.2.first c.if-found-eq0.true in
    (g.met.O.SeqObject.event_fits, (search rules, (t.object, ap (λ m. m.1) t.seat ∙ ap (λ m. (0, Some t.object) ∷ rest m.1) (sym t.seat))))

pub invariant_of-result : goal.invariant_of-result
invariant_of-result g c = let a = c.args.ready in let o = a.outside in let t = c.swap-found.ensures.2.first c.if-found-eq0.true in let y = c.take-logged.result.0 in let e = c.take-logged.ensures in
    record { holds = holds_from g.O.SeqObject o.key.value o.cpu.number _ _ _ y o.seat.me c.take-logged.new.seat.me a.ready (took g.O.SeqObject _ _ o.seat.me c.swap-found.new.seat.me c.take-logged.new.seat.me (Some y) y t e.2 e.3 refl); there = (ap (λ z. z.0.main.stage) (took g.O.SeqObject _ _ o.seat.me c.swap-found.new.seat.me c.take-logged.new.seat.me (Some y) y t e.2 e.3 refl).seat) ∙ ap (λ k. holder k 0) (sym (ap (λ k. k.kind) c.requires.reported ∙ c.args.self.now.kind)) }

pub returns-then-found-eq0-clause-got : goal.returns-then-found-eq0-clause-got
returns-then-found-eq0-clause-got g c = let a = c.args.ready in let o = a.outside in let t = c.swap-found.ensures.2.first c.if-found-eq0.true in let y = c.take-logged.result.0 in let e = c.take-logged.ensures in
    (search rules, takes_from g.O.SeqObject o.key.value o.cpu.number _ _ _ y o.seat.me c.take-logged.new.seat.me a.ready (took g.O.SeqObject _ _ o.seat.me c.swap-found.new.seat.me c.take-logged.new.seat.me (Some y) y t e.2 e.3 refl))

pub invariant_of-result-else-found-eq0 : goal.invariant_of-result-else-found-eq0
invariant_of-result-else-found-eq0 g c = let a = c.args.ready in let o = a.outside in let some_one = c.if-found-eq0.false in let k : ℕ = c.swap-found.result - 1 in
    let t = named g.O.SeqObject (λ p. Mcs (Behind p)) _ c.swap-found.result k o.seat.me c.swap-found.new.seat.me (c.swap-found.ensures.2.behind some_one) (omega arith) in
    record { behind = goes_without g.O.SeqObject o.key.value o.cpu.number (Mcs Ready) (Mcs (Behind k)) _ o.seat.me c.swap-found.new.seat.me a.ready t.0; other = else_now g.O.SeqObject _ _ o.seat.me c.swap-found.new.seat.me k t.0 t.1 }

pub returns-else-found-eq0-clause-queued : goal.returns-else-found-eq0-clause-queued
returns-else-found-eq0-clause-queued g c = let a = c.args.ready in let o = a.outside in let some_one = c.if-found-eq0.false in let k : ℕ = c.swap-found.result - 1 in
    let t = named g.O.SeqObject (λ p. Mcs (Behind p)) _ c.swap-found.result k o.seat.me c.swap-found.new.seat.me (c.swap-found.ensures.2.behind some_one) (omega arith) in (
      search rules,
      (
        k,
        is_other o.key.value o.seat.me k a.ready.at.reported t.1,
        record {
          made = moves_without g.O.SeqObject o.key.value o.cpu.number (Mcs Ready) (Mcs (Behind k)) _ o.seat.me c.swap-found.new.seat.me a.ready t.0;
          another = not_else o.key.value o.seat.me k a.ready.at.reported t.1;
        },
      ),
    )
