use Rattle.std.proofs.Common.{◌≡◌, Some, None, cond, sym, ap, ◌∙◌, option_map}
use Rattle.custom_kernel.specs.KernelModel.{are_in_ranges}
use Rattle.kernel_words.specs.Rows.{call_row, call_filled}
use Rattle.custom_kernel.proofs.Fields.{found_fit}
use Rattle.custom_kernel.proofs.said.call_with.Goals as goal

pub returns : goal.returns
returns c =
    let numbers = c.args.numbers.now in
    let same : c.as_slice.result.now ≡ (call_row c.args.sample).fields = c.as_slice.ensures.value ∙ c.spelling.ensures.fields in
    let fits = found_fit (are_in_ranges c.as_slice.result.now numbers) numbers c.in_ok-given.given.items (sym (ap (option_map _) c.in_ok-given.was) ∙ c.in_ranges.ensures) in
    ap Some (c.with_numbers.ensures ∙ ap (call_filled c.args.sample) (c.as_slice-2.ensures.value ∙ fits.1))
    ∙ sym (ap (λ b. cond b (Some (call_filled c.args.sample numbers)) None) (ap (λ fs. are_in_ranges fs numbers) (sym same) ∙ fits.0))
