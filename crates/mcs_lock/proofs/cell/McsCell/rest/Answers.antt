use Rattle.std.proofs.Common.{rules, true, false, [], ◌∷◌, refl, sym, ap, subst, ◌∙◌, arith, Some}
use Rattle.atomic_table.specs.Table.{rest}
use Rattle.word_rule.specs.{declared.lock_kind.Stage.TheVariants.Mcs, declared.lock_kind.McsStage.TheVariants.{Alone, Leaving}, CallerState.{Moves, NeedsAnother}, Rule.Callers.{state_with, IsWith}}
use Rattle.word_rule.proofs.{Acting.{left, rests_now, gives_now, goes_with, lags_with}, CallerFacts.came_back}
use Rattle.mcs_lock.specs.Passes.{state_of_alone}
use Rattle.mcs_lock.proofs.McsAtOnce.{rest_now, to_rest}
use Rattle.word_rule.specs.declared.machine.step_done.StepDone.TheVariants as steps
use Rattle.mcs_lock.proofs.cell.McsCell.rest.Goals as goal

pub rest_exchanging-found-requires : goal.rest_exchanging-found-requires
rest_exchanging-found-requires g c = let s = c.args.self.now in let a = c.args.alone in let o = a.inside.outside in let words = s.sized.0 in
    (g.met.O.SeqObject.event_fits, (search rules, omega arith, rest_now g.O.SeqObject s.table.table.shared.key c.args.self.now.kind _ _ o.cpu.number a.inside.logged o.seat.me c.put_back.new.seat.me (subst (λ k. IsWith g.O.SeqObject k o.cpu.number (Mcs Alone) a.inside.logged o.seat.me) c.requires.reported a.alone) s.table.sized c.put_back.ensures.2))

pub invariant_of-result : goal.invariant_of-result
invariant_of-result g c = let a = c.args.alone in let o = a.inside.outside in
    record { rests = rests_now g.O.SeqObject o.key.value o.cpu.number _ _ _ a.inside.logged o.seat.me c.rest_exchanging-found.new.seat.me a.alone (left g.O.SeqObject _ _ o.seat.me c.put_back.new.seat.me c.rest_exchanging-found.new.seat.me a.inside.logged a.alone.at.carries c.put_back.ensures.2 (c.rest_exchanging-found.ensures.2.hit c.if-found-last.true)) }

pub returns-then-found-last-clause-home : goal.returns-then-found-last-clause-home
returns-then-found-last-clause-home g c = let a = c.args.alone in let o = a.inside.outside in
    (search rules, to_rest g.O.SeqObject o.key.value c.rest_exchanging-found.new.seat.me (Mcs Alone) (steps.Empty true) _ (gives_now g.O.SeqObject o.key.value o.cpu.number _ _ _ a.inside.logged o.seat.me c.rest_exchanging-found.new.seat.me a.alone (left g.O.SeqObject _ _ o.seat.me c.put_back.new.seat.me c.rest_exchanging-found.new.seat.me a.inside.logged a.alone.at.carries c.put_back.ensures.2 (c.rest_exchanging-found.ensures.2.hit c.if-found-last.true))))

pub take-logged-requires : goal.take-logged-requires
take-logged-requires g c = let a = c.args.alone in let t = c.rest_exchanging-found.ensures.2.miss c.if-found-last.false in
    let is = ap (λ z. z.1) t.goes.seat ∙ ap (λ z. z.1) c.put_back.ensures.2 in
    (g.met.O.SeqObject.event_fits, (search rules, (a.inside.logged, is ∙ ap (λ z. (0, Some a.inside.logged) ∷ rest z) (sym is))))

pub invariant_of-result-else-found-last : goal.invariant_of-result-else-found-last
invariant_of-result-else-found-last g c = let a = c.args.alone in let o = a.inside.outside in let y = c.take-logged.result.0 in let t = c.rest_exchanging-found.ensures.2.miss c.if-found-last.false in let e = c.take-logged.ensures in
    let back = came_back g.O.SeqObject (Mcs Leaving) _ o.seat.me c.put_back.new.seat.me c.rest_exchanging-found.new.seat.me c.take-logged.new.seat.me a.inside.logged y (Some y) a.alone.at.carries c.put_back.ensures.2 t e.2 e.3 refl in
    record { leaves = subst (λ z. IsWith g.O.SeqObject o.key.value o.cpu.number (Mcs Leaving) z c.take-logged.new.seat.me) back.1 (goes_with g.O.SeqObject o.key.value o.cpu.number _ _ _ a.inside.logged o.seat.me c.take-logged.new.seat.me a.alone refl back.0.goes) }

pub returns-else-found-last-clause-missed : goal.returns-else-found-last-clause-missed
returns-else-found-last-clause-missed g c = let a = c.args.alone in let o = a.inside.outside in let y = c.take-logged.result.0 in let reported = c.rest_exchanging-found.ensures.2 in let t = reported.miss c.if-found-last.false in let e = c.take-logged.ensures in let filled = c.put_back.ensures.2 in
    let back = came_back g.O.SeqObject (Mcs Leaving) _ o.seat.me c.put_back.new.seat.me c.rest_exchanging-found.new.seat.me c.take-logged.new.seat.me a.inside.logged y (Some y) a.alone.at.carries filled t e.2 e.3 refl in
    (search rules, subst (λ z. NeedsAnother g.O.SeqObject (Moves g.O.SeqObject (Mcs Alone) (Mcs Leaving) (steps.Empty false ∷ [])) (state_of_alone a) (state_with o.key.value (Mcs Leaving) z c.take-logged.new.seat.me)) back.1 (lags_with g.O.SeqObject o.key.value o.cpu.number (Mcs Alone) (Mcs Leaving) _ a.inside.logged o.seat.me c.take-logged.new.seat.me a.alone back.0))
