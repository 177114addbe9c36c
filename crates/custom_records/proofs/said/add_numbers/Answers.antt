use Rattle.std.proofs.Common.{◌≡◌, suc, ◌+◌, ◌-◌, length, length-append, [], ◌∷◌, sym, ◌∙◌, ap, arith, option_map}
use Rattle.custom_records.proofs.{LineSteps.{sizes_step, sizes_none, sizes_end, sizes_full}, said.add_numbers.Goals.{else-loop-test, then-loop-test+then-not-is_number_next}}
use Rattle.custom_records.specs.declared.spoken.TheConstants.{MOST_NUMBERS}
use Rattle.record_lines.specs.Reading.{left}
use Rattle.custom_records.proofs.said.add_numbers.Goals as goal

pub returns-in_err-number-clause-numbers : goal.returns-in_err-number-clause-numbers
returns-in_err-number-clause-numbers c =
    let turn : MOST_NUMBERS - c.loop.counter ≡ suc (MOST_NUMBERS - (c.loop.counter + 1)) = omega (arith, c.loop-test.true) in
    let so_far = rw turn at c.loop.invariant.reads in
    ap (option_map _) c.from_residual.ensures
    ∙ sym (so_far ∙ sizes_none (MOST_NUMBERS - (c.loop.counter + 1)) c.loop.said.numbers (left c.loop.left) (sym c.is_number_next.ensures ∙ c.if-not-is_number_next.false) (sym c.number.ensures.value ∙ ap (option_map _) c.in_err-number.was))

pub loop-preserved : goal.loop-preserved
loop-preserved c =
    let turn : MOST_NUMBERS - c.loop.counter ≡ suc (MOST_NUMBERS - (c.loop.counter + 1)) = omega (arith, c.loop-test.true) in
    let so_far = rw turn at c.loop.invariant.reads in
    record {
      count = omega (arith, ap (λ s. length s.numbers) c.push.ensures, length-append c.loop.said.numbers (c.in_ok-number.number ∷ []), c.loop.invariant.count);
      word = ap (λ s. s.word) c.push.ensures ∙ c.loop.invariant.word;
      reads = so_far ∙ sizes_step (MOST_NUMBERS - (c.loop.counter + 1)) c.loop.said.numbers c.push.new.self.numbers (left c.loop.left) (left c.in_ok-number.rest) c.in_ok-number.number
          (ap (λ s. s.numbers) c.push.ensures) (sym c.is_number_next.ensures ∙ c.if-not-is_number_next.false) (sym c.number.ensures.value ∙ ap (option_map _) c.in_ok-number.was);
    }

pub returns-clause-numbers : goal.returns-clause-numbers
returns-clause-numbers c = elim c.loop-test.branch [
  | else-loop-test w ↦ (
      let last : MOST_NUMBERS - c.loop.counter ≡ 0 = omega (arith, w.loop-test) in
      let so_far = rw last at c.loop.invariant.reads in
      sym (so_far ∙ sizes_full c.loop.said.numbers (left c.loop.left)))
  | then-loop-test+then-not-is_number_next w ↦ (
      let turn : MOST_NUMBERS - c.loop.counter ≡ suc (MOST_NUMBERS - (c.loop.counter + 1)) = omega (arith, w.loop-test) in
      let so_far = rw turn at c.loop.invariant.reads in
      sym (so_far ∙ sizes_end (MOST_NUMBERS - (c.loop.counter + 1)) c.loop.said.numbers (left c.loop.left) (sym w.is_number_next.ensures ∙ w.if-not-is_number_next.true)))
]
