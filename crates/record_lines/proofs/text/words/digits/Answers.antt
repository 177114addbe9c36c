use Rattle.std.proofs.Common.{◌+◌, ◌*◌, ◌<◌, ap, ◌∙◌, arith}
use Rattle.record_lines.proofs.{Digits.{digits_more, digits_past, digits_push}, Readings.if_none}
use Rattle.record_lines.proofs.text.words.digits.Goals as goal

pub returns-in_err-digit-clause-none : goal.returns-in_err-digit-clause-none
returns-in_err-digit-clause-none c = if_none c.from_residual.result (λ are. absurd (c.in_err-digit.ensures.none (are c.loop-byte.byte-index c.loop-byte-test.true)))

pub returns-in_err-checked_mul-clause-none : goal.returns-in_err-checked_mul-clause-none
returns-in_err-checked_mul-clause-none c = if_none c.from_residual-in_err-checked_mul.result (λ are.
    let high : c.loop-byte.number * 10 < 18446744073709551616 → ⊥ = c.in_err-checked_mul.ensures in
    let found = c.in_ok-digit.ensures.found in
    digits_past c.args.word.now c.loop-byte.byte-index c.loop-byte.number c.in_ok-digit.digit c.args.high c.loop-byte-test.true found.0 found.1 c.loop-byte.invariant.1 (grind (arith, c.ranges.high.fits, high)))

pub returns-in_err-number-clause-none : goal.returns-in_err-number-clause-none
returns-in_err-number-clause-none c = if_none c.from_residual-in_err-number.result (λ are.
    let high : c.in_ok-checked_mul.field-0 + c.in_ok-digit.digit < 18446744073709551616 → ⊥ = c.in_err-number.ensures in
    let times = c.in_ok-checked_mul.ensures.1 in
    let found = c.in_ok-digit.ensures.found in
    digits_past c.args.word.now c.loop-byte.byte-index c.loop-byte.number c.in_ok-digit.digit c.args.high c.loop-byte-test.true found.0 found.1 c.loop-byte.invariant.1 (grind (arith, c.ranges.high.fits, high, times)))

pub returns-then-number-high-clause-none : goal.returns-then-number-high-clause-none
returns-then-number-high-clause-none c = λ are.
    let sum = c.in_ok-number.ensures.1 in
    let times = c.in_ok-checked_mul.ensures.1 in
    let found = c.in_ok-digit.ensures.found in
    digits_past c.args.word.now c.loop-byte.byte-index c.loop-byte.number c.in_ok-digit.digit c.args.high c.loop-byte-test.true found.0 found.1 c.loop-byte.invariant.1 (omega (arith, c.if-number-high.true, sum, times))

pub loop-byte-preserved : goal.loop-byte-preserved
loop-byte-preserved c =
    let sum = c.in_ok-number.ensures.1 in
    let times = c.in_ok-checked_mul.ensures.1 in
    let found = c.in_ok-digit.ensures.found in (
      digits_push c.args.word.now c.loop-byte.byte-index c.in_ok-digit.digit c.loop-byte.invariant.0 found.0 found.1,
      sum ∙ (ap (λ n. n + c.in_ok-digit.digit) times ∙ digits_more c.args.word.now c.loop-byte.byte-index c.loop-byte.number c.in_ok-digit.digit c.loop-byte-test.true found.0 found.1 c.loop-byte.invariant.1),
      omega (arith, c.if-number-high.false),
    )
