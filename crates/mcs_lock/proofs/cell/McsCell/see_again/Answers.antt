use Rattle.std.proofs.Common.{rules, ℕ, ◌-◌, ◌^◌, ◌<◌, [], ◌∷◌, refl, ap, subst, ◌∙◌, arith}
use Rattle.word_rule.specs.{declared.lock_kind.Stage.TheVariants.Mcs, declared.lock_kind.McsStage.TheVariants.{Leaving, Passing}, Rule.Callers.IsWith}
use Rattle.word_rule.proofs.{Acting.{goes_with, moves_with, lags_with}, CallerFacts.{below_with, not_else, is_other, else_below, else_now}}
use Rattle.mcs_lock.proofs.McsActing.{see_again_now, named}
use Rattle.mcs_lock.proofs.cell.McsCell.see_again.Goals as goal

pub load-found-requires : goal.load-found-requires
load-found-requires g c = let s = c.args.self.now in let a = c.args.leaving in let o = a.inside.outside in let key = s.table.table.shared.key in let words = s.sized.0 in
    let w = subst (λ k. IsWith g.O.SeqObject k o.cpu.number (Mcs Leaving) a.inside.logged o.seat.me) c.requires.reported a.leaves in
    let below = below_with g.O.SeqObject key s.cpus o.cpu.number (Mcs Leaving) a.inside.logged o.seat.me s.sized.1 w in
    (g.met.O.SeqObject.event_fits, (c.requires.table, omega (arith, c.next_index-next.ensures), rw c.next_index-next.ensures (see_again_now g.O.SeqObject key c.args.self.now.kind _ _ o.cpu.number o.seat.me a.inside.logged w)))

pub invariant_of-result : goal.invariant_of-result
invariant_of-result g c = let a = c.args.leaving in let o = a.inside.outside in
    record { leaves = goes_with g.O.SeqObject o.key.value o.cpu.number _ _ _ a.inside.logged o.seat.me c.load-found.new.seat.me a.leaves refl ((c.load-found.ensures.2.none c.if-found-eq0.true).goes) }

pub overflow_cast-follower : goal.overflow_cast-follower
overflow_cast-follower g c = let s = c.args.self.now in let a = c.args.leaving in let few = s.few in let t = c.load-found.ensures.2.found c.if-found-eq0.false in let word = t.word in
    let below = else_below s.table.table.shared.key s.cpus t.cpu a.inside.outside.seat.me s.sized.1 (a.leaves.at.reported ∙ ap (λ k. k ∷ []) c.requires.reported) t.other in
    let small : c.load-found.result - 1 < 2 ^ 32 = omega arith in record { fits = small }

pub invariant_of-result-else-found-eq0 : goal.invariant_of-result-else-found-eq0
invariant_of-result-else-found-eq0 g c = let a = c.args.leaving in let o = a.inside.outside in let some_one = c.if-found-eq0.false in let k : ℕ = c.load-found.result - 1 in
    let t = named g.O.SeqObject (λ p. Mcs (Passing p)) _ c.load-found.result k o.seat.me c.load-found.new.seat.me (c.load-found.ensures.2.found some_one) (omega arith) in record {
      passes = goes_with g.O.SeqObject o.key.value o.cpu.number (Mcs Leaving) (Mcs (Passing k)) _ a.inside.logged o.seat.me c.load-found.new.seat.me a.leaves refl t.0;
      other = else_now g.O.SeqObject _ _ o.seat.me c.load-found.new.seat.me k t.0 t.1;
    }

pub returns-then-found-eq0-clause-missed : goal.returns-then-found-eq0-clause-missed
returns-then-found-eq0-clause-missed g c = let a = c.args.leaving in let o = a.inside.outside in let miss = c.load-found.ensures.2.none c.if-found-eq0.true in (
  search rules,
  lags_with g.O.SeqObject o.key.value o.cpu.number _ _ _ a.inside.logged o.seat.me c.load-found.new.seat.me a.leaves miss,
)

pub returns-else-found-eq0-clause-found : goal.returns-else-found-eq0-clause-found
returns-else-found-eq0-clause-found g c = let a = c.args.leaving in let o = a.inside.outside in let some_one = c.if-found-eq0.false in let k : ℕ = c.load-found.result - 1 in let s = c.load-found.ensures.2 in
    let t = named g.O.SeqObject (λ p. Mcs (Passing p)) _ c.load-found.result k o.seat.me c.load-found.new.seat.me (s.found some_one) (omega arith) in (
      search rules,
      (
        k,
        is_other o.key.value o.seat.me k a.leaves.at.reported t.1,
        record {
          made = moves_with g.O.SeqObject o.key.value o.cpu.number (Mcs Leaving) (Mcs (Passing k)) _ a.inside.logged o.seat.me c.load-found.new.seat.me a.leaves t.0;
          another = not_else o.key.value o.seat.me k a.leaves.at.reported t.1;
        },
      ),
    )
