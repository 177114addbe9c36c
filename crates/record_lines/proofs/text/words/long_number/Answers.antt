use Rattle.std.proofs.Common.{◌+◌, ◌*◌, ◌<◌, option_map, sym, ap, ◌∙◌, arith}
use Rattle.record_lines.specs.Reading.{left}
use Rattle.record_lines.proofs.Numbers.{has_first, has_more, none_empty, none_first, none_zero, none_digit, none_ten, none_more, none_past, some_read}
use Rattle.record_lines.proofs.text.words.long_number.Goals as goal

pub returns-in_err-first-clause-value : goal.returns-in_err-first-clause-value
returns-in_err-first-clause-value c = ap (option_map _) c.from_residual.ensures ∙ none_empty c.args.high c.ranges.high.fits c.args.bytes.now c.in_err-first.ensures.cases

pub returns-in_err-number-clause-value : goal.returns-in_err-number-clause-value
returns-in_err-number-clause-value c = ap (option_map _) c.from_residual-in_err-number.ensures ∙ none_first c.args.high c.ranges.high.fits c.args.bytes.now c.in_ok-first.rest.now c.in_ok-first.first.now c.in_ok-first.ensures.cases.0 c.in_err-number.ensures.none

pub loop-left-init : goal.loop-left-init
loop-left-init c =
    let found = c.in_ok-number.ensures.found in
    has_first c.args.bytes.now c.in_ok-first.rest.now c.in_ok-first.first.now c.in_ok-number.number c.in_ok-first.ensures.cases.0 found.0 found.1

pub returns-then-number-eq0-clause-value : goal.returns-then-number-eq0-clause-value
returns-then-number-eq0-clause-value c = none_zero c.args.high c.ranges.high.fits c.args.bytes.now c.loop-left.left.now c.loop-left.number c.loop-left.invariant c.in-len1-up.len_at_least c.if-byte-eq32.false c.if-number-eq0.true

pub returns-in_err-checked_mul-clause-value : goal.returns-in_err-checked_mul-clause-value
returns-in_err-checked_mul-clause-value c =
    let high : c.loop-left.number * 10 < 18446744073709551616 → ⊥ = c.in_err-checked_mul.ensures in
    ap (option_map _) c.from_residual-in_err-checked_mul.ensures
    ∙ none_ten c.args.high c.ranges.high.fits c.args.bytes.now c.loop-left.left.now c.loop-left.number c.loop-left.invariant c.in-len1-up.len_at_least c.if-byte-eq32.false (grind (arith, c.ranges.high.fits, high))

pub returns-in_err-digit-clause-value : goal.returns-in_err-digit-clause-value
returns-in_err-digit-clause-value c = ap (option_map _) c.from_residual-in_err-digit.ensures
    ∙ none_digit c.args.high c.ranges.high.fits c.args.bytes.now c.loop-left.left.now c.loop-left.number c.loop-left.invariant c.in-len1-up.len_at_least c.if-byte-eq32.false c.in_err-digit.ensures.none

pub returns-in_err-number-2-clause-value : goal.returns-in_err-number-2-clause-value
returns-in_err-number-2-clause-value c =
    let high : c.in_ok-checked_mul.field-0 + c.in_ok-digit.field-0 < 18446744073709551616 → ⊥ = c.in_err-number-2.ensures in
    let times = c.in_ok-checked_mul.ensures.1 in
    let found = c.in_ok-digit.ensures.found in
    ap (option_map _) c.from_residual-in_err-number-2.ensures
    ∙ none_more c.args.high c.ranges.high.fits c.args.bytes.now c.loop-left.left.now c.loop-left.number c.loop-left.invariant c.in-len1-up.len_at_least c.if-byte-eq32.false c.in_ok-digit.field-0 c.if-number-eq0.false found.0 found.1 (grind (arith, c.ranges.high.fits, high, times))

pub loop-left-preserved : goal.loop-left-preserved
loop-left-preserved c =
    let sum = c.in_ok-number-2.ensures.1 in
    let times = c.in_ok-checked_mul.ensures.1 in
    let found = c.in_ok-digit.ensures.found in
    has_more c.args.bytes.now c.loop-left.left.now c.loop-left.number c.loop-left.invariant c.in-len1-up.len_at_least c.if-byte-eq32.false c.in_ok-digit.field-0 c.in_ok-number-2.number c.if-number-eq0.false found.0 found.1 (sum ∙ ap (λ n. n + c.in_ok-digit.field-0) times)

pub returns-then-number-high-clause-value : goal.returns-then-number-high-clause-value
returns-then-number-high-clause-value c = none_past c.args.high c.ranges.high.fits c.args.bytes.now c.loop-left.left.now c.loop-left.number c.loop-left.invariant c.if-number-high.true

pub returns-clause-value : goal.returns-clause-value
returns-clause-value c = some_read c.args.high c.ranges.high.fits c.args.bytes.now c.loop-left.left.now c.loop-left.number (left c.in_ok-behind.field-0) c.loop-left.invariant (sym c.behind.ensures ∙ ap (option_map left) c.in_ok-behind.was) c.if-number-high.false
