use Rattle.std.proofs.Common.{rules, refl, ◌≡◌, ◌<◌, true, [], ◌∷◌, sym, ap, subst, ◌∙◌, arith, Some}
use Rattle.atomic_table.specs.Table.{rest}
use Rattle.event_log.specs.Distinct.{has}
use Rattle.word_rule.specs.{declared.lock_kind.Stage.TheVariants.{Idle, Mcs}, declared.lock_kind.McsStage.TheVariants.{Waiting, Holding}, Cell.Lawful, LockRuns.{Extends, HasRun}, Locks.holder, Rule.Callers.{IsWithout, caller_of}}
use Rattle.word_rule.proofs.{Known.AllIdle, Acting.{TookLast, last_taken, all_together, holds_now, takes_now, sees_without}, CallerFacts.below_without}
use Rattle.mcs_lock.proofs.McsActing.{look_now}
use Rattle.word_rule.specs.declared.machine.step_done.StepDone.TheVariants as steps
use Rattle.mcs_lock.proofs.cell.McsCell.last_look.Goals as goal
use Rattle.mcs_lock.proofs.cell.McsCell.last_look.Given as given

pub load-found-requires : goal.load-found-requires
load-found-requires g c = let s = c.args.self.now in let a = c.args.waiting in let o = a.outside in let key = s.table.table.shared.key in let words = s.sized.0 in let e = c.join_seat.ensures.2 in
    let w = subst (λ k. IsWithout g.O.SeqObject k o.cpu.number (Mcs Waiting) o.seat.me) c.requires.waiting.reported a.waits in
    let below = below_without g.O.SeqObject key s.cpus o.cpu.number (Mcs Waiting) o.seat.me s.sized.1 w in (
      g.met.O.SeqObject.event_fits,
      (
        search rules,
        omega (arith, c.locked_index-locked.ensures),
        rw c.locked_index-locked.ensures (look_now g.O.SeqObject key c.args.self.now.kind _ _ o.cpu.number s.cpus c.join_seat.new.seat.me s.sized.1 (subst (λ z. has z.0.main.cpu z.0.main.owned ≡ true) (sym e) a.waits.pass_view.caller.acts) (ap (λ z. z.0.main.cpu) e ∙ a.waits.at.number)
            (ap (λ z. z.0.main.stage) e ∙ a.waits.at.stands) (subst (λ z. AllIdle z.0.others) (sym e) (c.args.pass.idle.at.stands, tt))),
      ),
    )

pub prove-unreachable-requires : goal.prove-unreachable-requires
prove-unreachable-requires g c = let a = c.args.waiting.outside in let p = c.args.pass.outside in let e = c.join_seat.ensures.2 in
    let miss = c.load-found.ensures.2.miss c.if-prove.true in
    let same = c.requires.pass.reported ∙ sym c.requires.waiting.reported in
    miss.lacks a.key.value (all_together g.O.SeqObject a.key.value a.seat.me p.seat.me c.join_seat.new.seat.me c.args.waiting.waits.at.reported e (λ k below. c.requires.all k (subst (λ z. k < z.numbers) (sym same) below)))

pub take-logged-requires : goal.take-logged-requires
take-logged-requires g c = let t = c.load-found.ensures.2.hit c.if-prove.false in
    (g.met.O.SeqObject.event_fits, (c.load-found.ensures.0 ∙ (c.join_seat.ensures.0 ∙ c.requires.waiting.table), (t.object, ap (λ z. z.1) t.seat ∙ ap (λ z. (0, Some t.object) ∷ rest z.1) (sym t.seat))))

-- what the look gave, and what each of the two has seen
last : (g : given.Over) (c : goal.After-split_seat g)
    → TookLast g.O.SeqObject c.args.waiting.outside.key.value (Mcs Holding) (steps.Look true ∷ []) c.take-logged.result.0 c.args.waiting.outside.seat.me c.args.pass.outside.seat.me c.split_seat.new.seat.me c.split_seat.result.me
last g c = let a = c.args.waiting.outside in let p = c.args.pass.outside in let e = c.join_seat.ensures.2 in let y = c.take-logged.result.0 in let s = c.split_seat in let same = c.requires.pass.reported ∙ sym c.requires.waiting.reported in
    let got = c.load-found.ensures.2.hit c.if-prove.false in
    last_taken g.O.SeqObject a.key.value a.cpu.number p.cpu.number (Mcs Waiting) (Mcs Holding) (steps.Look true ∷ []) (Some y) y a.seat.me p.seat.me c.join_seat.new.seat.me c.load-found.new.seat.me c.take-logged.new.seat.me s.new.seat.me s.result.me c.args.waiting.waits
    (subst (λ k. IsWithout g.O.SeqObject k p.cpu.number Idle p.seat.me) same c.args.pass.idle) e got c.take-logged.ensures.2 c.take-logged.ensures.3 refl s.ensures.2 s.ensures.4

pub invariant_of-result : goal.invariant_of-result
invariant_of-result g c = let a = c.args.waiting in let o = a.outside in let y = c.take-logged.result.0 in let l = last g c in record {
  holds = holds_now g.O.SeqObject o.key.value o.cpu.number (Mcs Waiting) (Mcs Holding) y l.run o.seat.me c.split_seat.new.seat.me a.waits l.see.valid l.see.ran l.replayed l.first;
  there = (ap (λ z. z.0.main.stage) l.first) ∙ ap (λ k. holder k 0) (sym (ap (λ k. k.kind) c.requires.waiting.reported ∙ c.args.self.now.kind));
}

pub invariant_of-result-2 : goal.invariant_of-result-2
invariant_of-result-2 g c = let p = c.args.pass in let o = p.outside in let y = c.take-logged.result.0 in let l = last g c.before in let same = c.requires.pass.reported ∙ sym c.requires.waiting.reported in
    record { idle = sees_without g.O.SeqObject o.key.value o.cpu.number Idle Idle y.log l.run o.seat.me c.split_seat.result.me p.idle (subst (λ k. Lawful g.O.SeqObject k y.log) (sym same) l.see.valid) (subst (λ k. HasRun k y.log l.run) (sym same) l.see.ran) l.second }

pub returns-clause-look : goal.returns-clause-look
returns-clause-look g c = let a = c.args.waiting.outside in let l = last g c.before.before in
    takes_now g.O.SeqObject a.key.value (Mcs Waiting) (Mcs Holding) (steps.Look true ∷ []) c.take-logged.result.0 l.run a.seat.me c.split_seat.new.seat.me l.see.first_grows l.see.first_run l.see.valid l.replayed l.first

pub returns-clause-caller : goal.returns-clause-caller
returns-clause-caller g c = ap (λ z. caller_of c.args.pass.outside.key.value z.0) (last g c.before.before).second

pub returns-clause-seen : goal.returns-clause-seen
returns-clause-seen g c = ap (λ z. z.0.main.seen) (last g c.before.before).second

pub returns-clause-grows : goal.returns-clause-grows
returns-clause-grows g c = (last g c.before.before).see.second_grows

pub returns-clause-one_run : goal.returns-clause-one_run
returns-clause-one_run g c = let l = last g c.before.before in ap (λ z. z.0.main.run) l.second ∙ sym (ap (λ z. z.0.main.run) l.first)

pub returns-clause-run : goal.returns-clause-run
returns-clause-run g c = let l = last g c.before.before in subst (Extends (caller_of c.args.pass.outside.key.value c.args.pass.outside.seat.me.0).owned c.args.pass.outside.seat.me.0.main.run []) (sym (ap (λ z. z.0.main.run) l.second)) l.see.second_run
