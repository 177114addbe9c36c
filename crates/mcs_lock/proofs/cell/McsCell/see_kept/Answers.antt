use Rattle.std.proofs.Common.{rules, ℕ, ◌-◌, ◌^◌, ◌<◌, [], ◌∷◌, refl, sym, ap, subst, ◌∙◌, arith, Some}
use Rattle.atomic_table.specs.Table.{rest}
use Rattle.word_rule.specs.{declared.lock_kind.Stage.TheVariants.Mcs, declared.lock_kind.McsStage.TheVariants.{Holding, Passing}, Cell.stored, Keeping.IsKeeping, Rule.Announced.IsElse}
use Rattle.word_rule.proofs.{CallerFacts.{not_else, is_other, else_below, else_now}, KeptSlots.{below_kept, keeps_on, moves_kept, taken_out, moves_out}}
use Rattle.mcs_lock.proofs.{McsActing.named, McsAtOnce.see_kept_now}
use Rattle.mcs_lock.proofs.cell.McsCell.see_kept.Goals as goal

pub load-found-requires : goal.load-found-requires
load-found-requires g c = let s = c.args.self.now in let a = c.args.kept in let o = a.outside in let key = s.table.table.shared.key in let words = s.sized.0 in
    let w = subst (λ k. IsKeeping g.O.SeqObject k o.cpu.number (Mcs Holding) o.seat.me) c.requires.reported a.keeps in
    let below = below_kept g.O.SeqObject key o.cpu.number (Mcs Holding) o.seat.me w s.cpus s.sized.1 in
    (g.met.O.SeqObject.event_fits, (c.requires.table, omega (arith, c.next_index-next.ensures), rw c.next_index-next.ensures (see_kept_now g.O.SeqObject key c.args.self.now.kind _ _ o.cpu.number o.seat.me w)))

pub invariant_of-result : goal.invariant_of-result
invariant_of-result g c = let a = c.args.kept in let o = a.outside in
    record { keeps = keeps_on g.O.SeqObject o.key.value o.cpu.number _ _ _ o.seat.me c.load-found.new.seat.me a.keeps refl (c.load-found.ensures.2.none c.if-found-eq0.true) }

pub overflow_cast-follower : goal.overflow_cast-follower
overflow_cast-follower g c = let s = c.args.self.now in let a = c.args.kept in let few = s.few in let t = c.load-found.ensures.2.found c.if-found-eq0.false in let word = t.word in
    let below = else_below s.table.table.shared.key s.cpus t.cpu a.outside.seat.me s.sized.1 (a.keeps.at.reported ∙ ap (λ k. k ∷ []) c.requires.reported) t.other in
    let small : c.load-found.result - 1 < 2 ^ 32 = omega arith in record { fits = small }

pub take-logged-requires : goal.take-logged-requires
take-logged-requires g c = let a = c.args.kept in let o = a.outside in let t = c.load-found.ensures.2.found c.if-found-eq0.false in
    let is = ap (λ z. z.1) t.goes.seat ∙ a.keeps.at.carries in
    (g.met.O.SeqObject.event_fits, (c.load-found.ensures.0 ∙ c.requires.table, (stored g.O.SeqObject o.key.value o.seat.me.0.main.seen, is ∙ ap (λ z. (0, Some (stored g.O.SeqObject o.key.value o.seat.me.0.main.seen)) ∷ rest z) (sym is))))

pub invariant_of-result-else-found-eq0 : goal.invariant_of-result-else-found-eq0
invariant_of-result-else-found-eq0 g c = let a = c.args.kept in let o = a.outside in let k : ℕ = c.load-found.result - 1 in let y = c.take-logged.result.0 in let e = c.take-logged.ensures in
    let t = named g.O.SeqObject (λ p. Mcs (Passing p)) _ c.load-found.result k o.seat.me c.load-found.new.seat.me (c.load-found.ensures.2.found c.if-found-eq0.false) (omega arith) in record {
      passes = taken_out g.O.SeqObject o.key.value o.cpu.number (Mcs Holding) (Mcs (Passing k)) _ o.seat.me c.load-found.new.seat.me a.keeps refl t.0 c.take-logged.new.seat.me y e.2 e.3;
      other = subst (λ z. IsElse z.0 k) (sym e.3) (else_now g.O.SeqObject _ _ o.seat.me c.load-found.new.seat.me k t.0 t.1);
    }

pub returns-then-found-eq0-clause-none : goal.returns-then-found-eq0-clause-none
returns-then-found-eq0-clause-none g c = let a = c.args.kept in let o = a.outside in
    (search rules, moves_kept g.O.SeqObject o.key.value o.cpu.number _ _ _ o.seat.me c.load-found.new.seat.me a.keeps refl (c.load-found.ensures.2.none c.if-found-eq0.true))

pub returns-else-found-eq0-clause-found : goal.returns-else-found-eq0-clause-found
returns-else-found-eq0-clause-found g c = let a = c.args.kept in let o = a.outside in let k : ℕ = c.load-found.result - 1 in let y = c.take-logged.result.0 in let e = c.take-logged.ensures in
    let t = named g.O.SeqObject (λ p. Mcs (Passing p)) _ c.load-found.result k o.seat.me c.load-found.new.seat.me (c.load-found.ensures.2.found c.if-found-eq0.false) (omega arith) in (
      search rules,
      (
        k,
        is_other o.key.value o.seat.me k a.keeps.at.reported t.1,
        record {
          made = moves_out g.O.SeqObject o.key.value o.cpu.number (Mcs Holding) (Mcs (Passing k)) _ o.seat.me c.load-found.new.seat.me a.keeps refl t.0 c.take-logged.new.seat.me y e.2 e.3;
          another = not_else o.key.value o.seat.me k a.keeps.at.reported t.1;
        },
      ),
    )
