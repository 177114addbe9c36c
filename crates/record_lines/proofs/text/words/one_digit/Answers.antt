use Rattle.std.proofs.Common.{sym, ◌∙◌, ap, option_map}
use Rattle.record_lines.specs.Reading.{left, number_at}
use Rattle.record_lines.proofs.Behind.{digit_next}
use Rattle.record_lines.proofs.text.words.one_digit.Goals as goal

pub returns-then-number-high : goal.returns-then-number-high
returns-then-number-high c =
    let found = c.in_ok-number.ensures.found in
    let high = c.if-number-high.true in (
      high,
      ap (λ at. number_at c.args.high (left at)) c.in_ok-at.was
          ∙ digit_next c.in_ok-at.field-0.now c.in_ok-first.rest.now (left c.in_ok-rest.rest) c.in_ok-first.first.now c.in_ok-number.number c.args.high c.in_ok-first.ensures.cases.0 found.0 found.1 high (sym c.behind.ensures ∙ ap (option_map left) c.in_ok-rest.was),
    )
