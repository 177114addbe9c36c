use Rattle.std.proofs.Common.{rules, ◌<◌, sym, ap, subst, ◌∙◌}
use Rattle.word_rule.specs.{declared.lock_kind.Stage.TheVariants.Idle, Rule.Callers.IsWithout}
use Rattle.word_rule.proofs.Dealing.{goes_on, is_one, one_rests, part_first, each_push}
use Rattle.word_rule.proofs.lock_table.LockTable.deal.Goals as goal

pub invariant_of-push_reserved : goal.invariant_of-push_reserved
invariant_of-push_reserved g c = let h = c.args.key.now in let i = c.loop-cpu.invariant in let k = c.loop-cpu.cpu in let below = subst (λ n. k < n) (sym c.requires.seat.2) c.loop-cpu-test.true in
    let rests = one_rests g.O.SeqObject h c.of.result.value k c.split_seat-theirs.result.me c.of.ensures below c.requires.fits c.requires.valid (is_one h k c.loop-cpu.seat.me c.split_seat-theirs.result.me below i.seat.1 c.split_seat-theirs.ensures.4) in
    record { idle = subst (λ n. IsWithout g.O.SeqObject c.of.result.value n Idle c.split_seat-theirs.result.me) (sym c.numbered.ensures) rests }

pub loop-cpu-preserved : goal.loop-cpu-preserved
loop-cpu-preserved g c = let h = c.args.key.now in let i = c.loop-cpu.invariant in let k = c.loop-cpu.cpu in let below = subst (λ n. k < n) (sym c.requires.seat.2) c.loop-cpu-test.true in record {
  seat = (search rules, goes_on h k c.loop-cpu.seat.me c.split_seat-theirs.new.seat.me below i.seat.1 c.split_seat-theirs.ensures.2);
  made = (
    each_push _ k c.loop-cpu.passes.items c.push_reserved.new.self.items _ i.made.0 (search rules) c.push_reserved.ensures.items
        (record { table = c.split_seat-theirs.ensures.3 ∙ i.seat.0; reported = c.of.ensures ∙ c.requires.cell }, part_first g.O.SeqObject h c.of.result.value k c.split_seat-theirs.result.me c.of.ensures (is_one h k c.loop-cpu.seat.me c.split_seat-theirs.result.me below i.seat.1 c.split_seat-theirs.ensures.4)),
    search rules,
    search rules,
  );
  runs = each_push _ k c.loop-cpu.passes.items c.push_reserved.new.self.items _ i.runs (search rules) c.push_reserved.ensures.items (ap (λ z. z.0.main.run) (is_one h k c.loop-cpu.seat.me c.split_seat-theirs.result.me below i.seat.1 c.split_seat-theirs.ensures.4));
}
