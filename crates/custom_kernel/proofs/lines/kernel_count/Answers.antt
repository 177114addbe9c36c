use Rattle.std.proofs.Common.{sym, ap, ◌∙◌, subst, option_map}
use Rattle.custom_kernel.proofs.LinesAt.{kernel_counted}
use Rattle.custom_kernel.specs.Counts.{Counted, IsCountOf, answers_of}
use Rattle.custom_kernel.proofs.lines.kernel_count.Goals as goal

pub returns : goal.returns
returns c =
    let opened = sym c.params_from.ensures.params ∙ c.in-Some.is in
    let head = sym c.log_from.ensures ∙ ap (option_map _) c.in-Some-log_from.is in
    let counted = c.count_events-2.new.count in
    let n = c.right.result in
    let params = c.count_events-2.ensures.params ∙ ap (λ (x : Counted). x.params) c.in_ok-count.ensures in
    kernel_counted c.args.text.now c.args.object c.args.log n c.in-Some.params (c.in-Some-log_from.most, c.in-Some-log_from.rest.now) opened head
    (subst (λ s. IsCountOf (answers_of c.in-Some.params) s n) c.count_events-2.ensures.steps (subst (λ p. IsCountOf (answers_of p) counted.steps n) params c.right.ensures.count))
