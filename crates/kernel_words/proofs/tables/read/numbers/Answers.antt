use Rattle.std.proofs.Common.{sym, ◌∙◌, ap, arith, length-append, ◌∷◌, [], length, option_map}
use Rattle.record_lines.specs.Reading.{left}
use Rattle.kernel_words.proofs.Lookups.{numbers_start, numbers_step, numbers_stop, numbers_end}
use Rattle.kernel_words.proofs.tables.read.numbers.Goals as goal

pub loop-each-init : goal.loop-each-init
loop-each-init c = record {
  count = ap length c.new-numbers.ensures;
  reads = numbers_start c.new-numbers.result.items c.args.fields.now (left c.args.at) c.new-numbers.ensures;
}

pub loop-each-preserved : goal.loop-each-preserved
loop-each-preserved c = record {
  count = omega (arith, ap length c.push.ensures.items, length-append c.loop-each.numbers.items (c.in_ok-number.number ∷ []), c.loop-each.invariant.count);
  reads = c.loop-each.invariant.reads
      ∙ numbers_step c.loop-each.numbers.items c.push.new.self.items c.args.fields.now c.loop-each.each-index _ (left c.loop-each.left) (left c.in_ok-number.rest) c.in_ok-number.number c.push.ensures.items (omega arith) (sym c.field.ensures.value ∙ ap (option_map _) c.in_ok-number.was);
}

pub returns-in_err-number : goal.returns-in_err-number
returns-in_err-number c =
    ap (option_map _) c.from_residual.ensures
    ∙ sym (c.loop-each.invariant.reads ∙ numbers_stop c.loop-each.numbers.items c.args.fields.now c.loop-each.each-index _ (left c.loop-each.left) (omega arith) (sym c.field.ensures.value ∙ ap (option_map _) c.in_err-number.was))

pub returns : goal.returns
returns c = sym (c.loop-each.invariant.reads ∙ numbers_end c.loop-each.numbers.items c.args.fields.now c.loop-each.each-index (left c.loop-each.left) (omega arith))
