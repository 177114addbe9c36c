use Rattle.std.proofs.Common.{◌≡◌, suc, ◌+◌, ◌-◌, length, length-append, [], ◌∷◌, sym, ◌∙◌, ap, arith, option_map}
use Rattle.custom_records.proofs.{LineSteps.{sizes_step, sizes_none, sizes_end, sizes_full}, objects.sizes.Goals.{else-loop-test, then-loop-test+then-not-is_number_next}}
use Rattle.custom_records.specs.declared.settings.TheConstants.{MOST_SIZES}
use Rattle.record_lines.specs.Reading.{left}
use Rattle.custom_records.proofs.objects.sizes.Goals as goal

pub returns-in_err-number : goal.returns-in_err-number
returns-in_err-number c =
    let turn : MOST_SIZES - c.loop.counter ≡ suc (MOST_SIZES - (c.loop.counter + 1)) = omega (arith, c.loop-test.true) in
    let so_far = rw turn at c.loop.invariant.reads in
    ap (option_map _) c.from_residual.ensures
    ∙ sym (so_far ∙ sizes_none (MOST_SIZES - (c.loop.counter + 1)) c.loop.sizes.items (left c.loop.left) (sym c.is_number_next.ensures ∙ c.if-not-is_number_next.false) (sym c.number.ensures.value ∙ ap (option_map _) c.in_err-number.was))

pub loop-preserved : goal.loop-preserved
loop-preserved c =
    let turn : MOST_SIZES - c.loop.counter ≡ suc (MOST_SIZES - (c.loop.counter + 1)) = omega (arith, c.loop-test.true) in
    let so_far = rw turn at c.loop.invariant.reads in
    record {
      count = omega (arith, ap length c.push.ensures.items, length-append c.loop.sizes.items (c.in_ok-number.number ∷ []), c.loop.invariant.count);
      reads = so_far ∙ sizes_step (MOST_SIZES - (c.loop.counter + 1)) c.loop.sizes.items c.push.new.self.items (left c.loop.left) (left c.in_ok-number.rest) c.in_ok-number.number
          c.push.ensures.items (sym c.is_number_next.ensures ∙ c.if-not-is_number_next.false) (sym c.number.ensures.value ∙ ap (option_map _) c.in_ok-number.was);
    }

pub returns : goal.returns
returns c = elim c.loop-test.branch [
  | else-loop-test w ↦ (
      let last : MOST_SIZES - c.loop.counter ≡ 0 = omega (arith, w.loop-test) in
      let so_far = rw last at c.loop.invariant.reads in
      sym (so_far ∙ sizes_full c.loop.sizes.items (left c.loop.left)))
  | then-loop-test+then-not-is_number_next w ↦ (
      let turn : MOST_SIZES - c.loop.counter ≡ suc (MOST_SIZES - (c.loop.counter + 1)) = omega (arith, w.loop-test) in
      let so_far = rw turn at c.loop.invariant.reads in
      sym (so_far ∙ sizes_end (MOST_SIZES - (c.loop.counter + 1)) c.loop.sizes.items (left c.loop.left) (sym w.is_number_next.ensures ∙ w.if-not-is_number_next.true)))
]
