use Rattle.std.proofs.Common.{sym, ap, ◌∙◌}
use Rattle.record_lines.specs.Reading.{left}
use Rattle.custom_records.specs.LineReading.{number_next}
use Rattle.custom_records.proofs.LineSteps.{number_first, number_none}
use Rattle.custom_records.proofs.said.is_number_next.Goals as goal

pub returns-in-Some-split_first : goal.returns-in-Some-split_first
returns-in-Some-split_first c = c.is_digit.ensures ∙ sym (ap (λ at. number_next (left at)) c.in-Some.is ∙ number_first c.in-Some.bytes.now c.in-Some-split_first.field-0-1.now c.in-Some-split_first.first.now c.in-Some-split_first.ensures.cases.0)

pub returns-in-None : goal.returns-in-None
returns-in-None c = sym (ap (λ at. number_next (left at)) c.in-Some.is ∙ number_none c.in-Some.bytes.now c.in-None.ensures.cases)
