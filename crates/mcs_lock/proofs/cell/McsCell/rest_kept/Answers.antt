use Rattle.std.proofs.Common.{rules, true, ◌∷◌, refl, sym, ap, subst, ◌∙◌, arith, Some}
use Rattle.atomic_table.specs.Table.{rest}
use Rattle.word_rule.specs.{declared.lock_kind.Stage.TheVariants.Mcs, declared.lock_kind.McsStage.TheVariants.{Alone, Leaving}, Cell.stored, Keeping.IsKeeping}
use Rattle.word_rule.proofs.{Acting.{left, rests_now, gives_now, not_all}, KeptSlots.{as_hold, filled, taken_out, moves_out}}
use Rattle.mcs_lock.proofs.McsAtOnce.{rest_now, to_rest}
use Rattle.word_rule.specs.declared.machine.step_done.StepDone.TheVariants as steps
use Rattle.mcs_lock.proofs.cell.McsCell.rest_kept.Goals as goal

pub rest_exchanging-found-requires : goal.rest_exchanging-found-requires
rest_exchanging-found-requires g c = let s = c.args.self.now in let a = c.args.alone in let o = a.outside in let h = s.table.table.shared.key in let words = s.sized.0 in
    let w = subst (λ k. IsKeeping g.O.SeqObject k o.cpu.number (Mcs Alone) o.seat.me) c.requires.reported a.keeps in
    (g.met.O.SeqObject.event_fits, (c.requires.table, omega arith, rest_now g.O.SeqObject h c.args.self.now.kind _ _ o.cpu.number _ _ o.seat.me (as_hold g.O.SeqObject h o.cpu.number _ o.seat.me w) s.table.sized (filled g.O.SeqObject h o.cpu.number _ o.seat.me w)))

pub invariant_of-result : goal.invariant_of-result
invariant_of-result g c = let a = c.args.alone in let o = a.outside in let h = o.key.value in let w = as_hold g.O.SeqObject h o.cpu.number _ o.seat.me a.keeps in
    record { rests = rests_now g.O.SeqObject h o.cpu.number _ _ _ _ _ c.rest_exchanging-found.new.seat.me w (left g.O.SeqObject _ _ _ o.seat.me c.rest_exchanging-found.new.seat.me _ refl (filled g.O.SeqObject h o.cpu.number _ o.seat.me a.keeps) (c.rest_exchanging-found.ensures.2.hit c.if-found-last.true)) }

pub returns-then-found-last-clause-home : goal.returns-then-found-last-clause-home
returns-then-found-last-clause-home g c = let a = c.args.alone in let o = a.outside in let h = o.key.value in let w = as_hold g.O.SeqObject h o.cpu.number _ o.seat.me a.keeps in
    (search rules, to_rest g.O.SeqObject h c.rest_exchanging-found.new.seat.me (Mcs Alone) (steps.Empty true) _ (gives_now g.O.SeqObject h o.cpu.number _ _ _ _ _ c.rest_exchanging-found.new.seat.me w (left g.O.SeqObject _ _ _ o.seat.me c.rest_exchanging-found.new.seat.me _ refl (filled g.O.SeqObject h o.cpu.number _ o.seat.me a.keeps) (c.rest_exchanging-found.ensures.2.hit c.if-found-last.true))))

pub take-logged-requires : goal.take-logged-requires
take-logged-requires g c = let a = c.args.alone in let o = a.outside in let t = c.rest_exchanging-found.ensures.2.miss c.if-found-last.false in
    let is = ap (λ z. z.1) t.goes.seat ∙ a.keeps.at.carries in
    (g.met.O.SeqObject.event_fits, (c.rest_exchanging-found.ensures.0 ∙ c.requires.table, (stored g.O.SeqObject o.key.value o.seat.me.0.main.seen, is ∙ ap (λ z. (0, Some (stored g.O.SeqObject o.key.value o.seat.me.0.main.seen)) ∷ rest z) (sym is))))

pub invariant_of-result-else-found-last : goal.invariant_of-result-else-found-last
invariant_of-result-else-found-last g c = let a = c.args.alone in let o = a.outside in let y = c.take-logged.result.0 in let e = c.take-logged.ensures in let t = c.rest_exchanging-found.ensures.2.miss c.if-found-last.false in
    record { leaves = taken_out g.O.SeqObject o.key.value o.cpu.number (Mcs Alone) (Mcs Leaving) _ o.seat.me c.rest_exchanging-found.new.seat.me a.keeps refl t.goes c.take-logged.new.seat.me y e.2 e.3 }

pub returns-else-found-last-clause-missed : goal.returns-else-found-last-clause-missed
returns-else-found-last-clause-missed g c = let a = c.args.alone in let o = a.outside in let y = c.take-logged.result.0 in let e = c.take-logged.ensures in let t = c.rest_exchanging-found.ensures.2.miss c.if-found-last.false in (
  search rules,
  record {
    made = moves_out g.O.SeqObject o.key.value o.cpu.number (Mcs Alone) (Mcs Leaving) _ o.seat.me c.rest_exchanging-found.new.seat.me a.keeps refl t.goes c.take-logged.new.seat.me y e.2 e.3;
    another = not_all g.O.SeqObject o.key.value o.seat.me a.keeps.at.reported t.lacks;
  },
)
