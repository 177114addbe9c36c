use Rattle.std.proofs.Common.{rules, ◌≡◌, ℕ, ◌-◌, ◌^◌, ◌<◌, true, [], ◌∷◌, refl, sym, ap, subst, ◌∙◌, arith}
use Rattle.event_log.specs.Distinct.{has}
use Rattle.word_rule.specs.{declared.lock_kind.Stage.TheVariants.Mcs, declared.lock_kind.McsStage.TheVariants.{Leaving, Waiting, Passing}, Rule.Announced.{IsElse, Goes}, Rule.Callers.{IsWith, IsWithout, hold_view_of, state_without}}
use Rattle.word_rule.proofs.{Acting.{all_together, goes_with, moves_with}, CallerFacts.{below_with, not_else, is_other, else_below, else_now}}
use Rattle.mcs_lock.proofs.McsActing.{find_now, named, else_of, first_goes, second_same}
use Rattle.word_rule.specs.declared.machine.step_done.StepDone.TheVariants as steps
use Rattle.mcs_lock.proofs.cell.McsCell.last_see.Goals as goal
use Rattle.mcs_lock.proofs.cell.McsCell.last_see.Given as given

pub load-found-requires : goal.load-found-requires
load-found-requires g c = let s = c.args.self.now in let a = c.args.leaving in let o = a.inside.outside in let key = s.table.table.shared.key in let words = s.sized.0 in let e = c.join_seat.ensures.2 in
    let w = subst (λ k. IsWith g.O.SeqObject k o.cpu.number (Mcs Leaving) a.inside.logged o.seat.me) c.requires.leaving.reported a.leaves in
    let below = below_with g.O.SeqObject key s.cpus o.cpu.number (Mcs Leaving) a.inside.logged o.seat.me s.sized.1 w in (
      g.met.O.SeqObject.event_fits,
      (
        search rules,
        omega (arith, c.next_index-next.ensures),
        rw c.next_index-next.ensures (find_now g.O.SeqObject key c.args.self.now.kind _ _ o.cpu.number c.join_seat.new.seat.me c.args.waiting.outside.seat.me.0.main (subst (λ z. has z.0.main.cpu z.0.main.owned ≡ true) (sym e) a.leaves.hold_view.caller.acts) (ap (λ z. z.0.main.cpu) e ∙ a.leaves.at.number)
            (ap (λ z. z.0.main.stage) e ∙ a.leaves.at.stands) (ap (λ z. z.0.others) e) c.args.waiting.waits.at.stands),
      ),
    )

pub prove-unreachable-requires : goal.prove-unreachable-requires
prove-unreachable-requires g c = let a = c.args.leaving in let o = a.inside.outside in let w = c.args.waiting.outside in let e = c.join_seat.ensures.2 in
    let miss = c.load-found.ensures.2.none c.if-prove.true in
    let same = c.requires.waiting.reported ∙ sym c.requires.leaving.reported in
    miss.lacks o.key.value (all_together g.O.SeqObject o.key.value o.seat.me w.seat.me c.join_seat.new.seat.me a.leaves.at.reported e (λ k below. c.requires.all k (subst (λ z. k < z.numbers) (sym same) below)))

pub overflow_cast-follower : goal.overflow_cast-follower
overflow_cast-follower g c = let s = c.args.self.now in let a = c.args.leaving in let few = s.few in let t = c.load-found.ensures.2.found c.if-prove.false in let word = t.word in
    let reported = ap (λ z. z.0.reported) c.join_seat.ensures.2 ∙ (a.leaves.at.reported ∙ ap (λ k. k ∷ []) c.requires.leaving.reported) in
    let below = else_below s.table.table.shared.key s.cpus t.cpu c.join_seat.new.seat.me s.sized.1 reported t.other in
    let small : c.load-found.result - 1 < 2 ^ 32 = omega arith in record { fits = small }

-- the first caller moved, the second is as it was, and the word named another CPU
saw : (g : given.Over) (c : goal.After-split_seat g) → let a = c.args.leaving in let o = a.inside.outside in let w = c.args.waiting.outside in let s = c.split_seat in let k : ℕ = c.load-found.result - 1 in
    Goes g.O.SeqObject (Mcs (Passing k)) (steps.See true ∷ []) o.seat.me s.new.seat.me × (s.result.me ≡ w.seat.me) × IsElse o.seat.me.0 k
saw g c = let a = c.args.leaving in let o = a.inside.outside in let w = c.args.waiting.outside in let e = c.join_seat.ensures.2 in let s = c.split_seat in let some_one = c.if-prove.false in let k : ℕ = c.load-found.result - 1 in
    let t = named g.O.SeqObject (λ p. Mcs (Passing p)) (steps.See true ∷ []) c.load-found.result k c.join_seat.new.seat.me c.load-found.new.seat.me (c.load-found.ensures.2.found some_one) (omega arith) in (
      first_goes g.O.SeqObject (Mcs (Passing k)) (steps.See true ∷ []) o.seat.me w.seat.me c.join_seat.new.seat.me c.load-found.new.seat.me s.new.seat.me a.leaves.at.alone e t.0 s.ensures.2,
      second_same (Mcs (Passing k)) t.0.log t.0.run o.seat.me w.seat.me c.join_seat.new.seat.me c.load-found.new.seat.me s.result.me c.args.waiting.waits.at.alone c.args.waiting.waits.at.carries (c.args.waiting.waits.at.reported ∙ (ap (λ z. z ∷ []) (c.requires.waiting.reported ∙ sym c.requires.leaving.reported) ∙ sym a.leaves.at.reported)) e t.0.seat s.ensures.4,
      else_of o.seat.me w.seat.me c.join_seat.new.seat.me k e t.1,
    )

pub invariant_of-result : goal.invariant_of-result
invariant_of-result g c = let a = c.args.leaving in let o = a.inside.outside in let k : ℕ = c.load-found.result - 1 in let t = saw g c in record {
  passes = goes_with g.O.SeqObject o.key.value o.cpu.number (Mcs Leaving) (Mcs (Passing k)) _ a.inside.logged o.seat.me c.split_seat.new.seat.me a.leaves refl t.0;
  other = else_now g.O.SeqObject _ _ o.seat.me c.split_seat.new.seat.me k t.0 t.2;
}

pub invariant_of-result-2 : goal.invariant_of-result-2
invariant_of-result-2 g c = let w = c.args.waiting in let o = w.outside in record { waits = subst (IsWithout g.O.SeqObject o.key.value o.cpu.number (Mcs Waiting)) (sym (saw g c.before).1) w.waits }

pub returns-clause-see : goal.returns-clause-see
returns-clause-see g c = let a = c.args.leaving in let o = a.inside.outside in let k : ℕ = c.load-found.result - 1 in let t = saw g c.before.before in
    (k, is_other o.key.value o.seat.me k a.leaves.at.reported t.2, record { made = moves_with g.O.SeqObject o.key.value o.cpu.number (Mcs Leaving) (Mcs (Passing k)) _ a.inside.logged o.seat.me c.split_seat.new.seat.me a.leaves t.0; another = not_else o.key.value o.seat.me k a.leaves.at.reported t.2 })

pub returns-clause-held : goal.returns-clause-held
returns-clause-held g c = ap (λ z. hold_view_of c.args.leaving.inside.outside.key.value c.args.leaving.inside.logged z.0) (saw g c.before.before).0.seat

pub returns-clause-waits : goal.returns-clause-waits
returns-clause-waits g c = ap (λ z. state_without c.args.waiting.outside.key.value (Mcs Waiting) z) (saw g c.before.before).1
