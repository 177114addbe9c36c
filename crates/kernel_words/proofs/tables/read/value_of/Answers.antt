use Rattle.std.proofs.Common.{◌≡◌, Some, sym, ◌∙◌, ap, option_map, subst, ◌∷◌}
use Rattle.std.specs.List.{list_all}
use Rattle.record_lines.specs.{Reading.left, Words.IsPlain}
use Rattle.kernel_words.specs.Row.{in_range, refill, numbers_at, value_at}
use Rattle.kernel_words.proofs.{FastReads.fast_read, Spellings.numbers_take}
use Rattle.kernel_words.proofs.tables.read.value_of.Goals as goal

pub with_numbers-requires-after_bounds : goal.with_numbers-requires-after_bounds
with_numbers-requires-after_bounds g c κs within =
    let fields = (g.T.Spelled.row_of c.args.sample).fields in
    let same : c.as_slice.result.now ≡ fields = c.as_slice.ensures.value ∙ c.spelling-fields.ensures.fields in
    let read : numbers_at c.as_slice.result.now (left c.in_ok-rest.rest) ≡ Some (c.in_ok-numbers.numbers.items, left c.in_ok-numbers.rest) = sym c.numbers.ensures ∙ ap (option_map _) c.in_ok-numbers.was in
    let taken = numbers_take fields (left c.in_ok-rest.rest) (c.in_ok-numbers.numbers.items, left c.in_ok-numbers.rest) (ap (λ fs. numbers_at fs (left c.in_ok-rest.rest)) (sym same) ∙ read) in
    ap (λ ns. list_all in_range (refill fields ns)) c.as_slice-2.ensures.value ∙ taken.fit

pub returns : goal.returns
returns g c =
    let fields = (g.T.Spelled.row_of c.args.sample).fields in
    let table = g.met.T.Spelled.right in
    let same : c.as_slice.result.now ≡ fields = c.as_slice.ensures.value ∙ c.spelling-fields.ensures.fields in
    let read : numbers_at c.as_slice.result.now (left c.in_ok-rest.rest) ≡ Some (c.in_ok-numbers.numbers.items, left c.in_ok-numbers.rest) = sym c.numbers.ensures ∙ ap (option_map _) c.in_ok-numbers.was in
    let word : c.spelling-fields.result.word.now ≡ (g.T.Spelled.row_of c.args.sample).word = c.spelling-fields.ensures.word in
    let next : left c.args.at ≡ c.spelling-fields.result.word.now ∷ left c.in_ok-rest.rest = c.in_ok-rest.ensures (subst IsPlain (sym word) (table.plain c.args.sample)) in
    ap (value_at g.T.Spelled.row_of g.T.Spelled.table g.T.Spelled.filled) next
    ∙ (fast_read g.T.Spelled.row_of g.T.Spelled.table g.T.Spelled.filled table c.args.sample (left c.in_ok-rest.rest) c.spelling-fields.result.word.now (c.in_ok-numbers.numbers.items, left c.in_ok-numbers.rest) (sym word) (ap (λ fs. numbers_at fs (left c.in_ok-rest.rest)) (sym same) ∙ read)
    ∙ ap (λ v. Some (v, left c.in_ok-numbers.rest)) (sym (c.with_numbers.ensures ∙ ap (g.T.Spelled.filled c.args.sample) c.as_slice-2.ensures.value)))
