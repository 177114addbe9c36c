use Rattle.std.proofs.Common.{◌≡◌, Some, sym, ◌∙◌, ap, option_map}
use Rattle.std.specs.List.{list_all}
use Rattle.record_lines.specs.Reading.{left}
use Rattle.kernel_words.specs.Row.{in_range, refill, numbers_at}
use Rattle.kernel_words.proofs.Spellings.{numbers_take}
use Rattle.kernel_words.proofs.tables.read.by_table.Goals as goal

pub with_numbers-requires-after_bounds : goal.with_numbers-requires-after_bounds
with_numbers-requires-after_bounds g c κs within =
    let fields = (g.T.Spelled.row_of c.in_ok-sample.sample).fields in
    let same : c.as_slice.result.now ≡ fields = c.as_slice.ensures.value ∙ c.spelling.ensures.fields in
    let read : numbers_at c.as_slice.result.now (left c.in_ok-name.rest) ≡ Some (c.in_ok-numbers.numbers.items, left c.in_ok-numbers.rest) = sym c.numbers.ensures ∙ ap (option_map _) c.in_ok-numbers.was in
    let taken = numbers_take fields (left c.in_ok-name.rest) (c.in_ok-numbers.numbers.items, left c.in_ok-numbers.rest) (ap (λ fs. numbers_at fs (left c.in_ok-name.rest)) (sym same) ∙ read) in
    ap (λ ns. list_all in_range (refill fields ns)) c.as_slice-2.ensures.value ∙ taken.fit
