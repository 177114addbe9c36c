use Rattle.std.proofs.{Common.{◌<◌, length, get_or, sym, ◌∙◌, ap, arith, bytes_eq}, lemmas.List.get_or_default}
use Rattle.shared_queue.specs.declared.call.QueueCall.TheVariants.{Enq}
use Rattle.kernel_object.specs.declared.call.KCall.TheVariants.{Queue}
use Rattle.kernel_words.specs.Rows.{call_row, call_samples}
use Rattle.kernel_words.proofs.Lookups.{sample_hit, sample_miss, sample_none}
use Rattle.custom_kernel.proofs.said.sample.Goals as goal

pub loop-sample-preserved : goal.loop-sample-preserved
loop-sample-preserved c =
    let items = c.samples-sample-items.ensures in
    let i = c.loop-sample.sample-index in
    let inside : i < length call_samples = omega (arith, ap length items, c.loop-sample-test.true) in
    let x = get_or c.samples-sample-items.result.now i (Queue (Enq 0)) in
    c.loop-sample.invariant ∙ sample_miss call_row call_samples c.args.word.now i x inside
    (ap (λ l. get_or l i (Queue (Enq 0))) items ∙ get_or_default call_samples i (Queue (Enq 0)) x inside)
    (ap (λ w. bytes_eq w c.args.word.now) (sym c.spelling.ensures.word) ∙ (sym c.eq.ensures ∙ c.if-eq.false))

pub returns-then-eq : goal.returns-then-eq
returns-then-eq c =
    let items = c.samples-sample-items.ensures in
    let i = c.loop-sample.sample-index in
    let inside : i < length call_samples = omega (arith, ap length items, c.loop-sample-test.true) in
    let x = get_or c.samples-sample-items.result.now i (Queue (Enq 0)) in
    sym (c.loop-sample.invariant ∙ sample_hit call_row call_samples c.args.word.now i x inside
    (ap (λ l. get_or l i (Queue (Enq 0))) items ∙ get_or_default call_samples i (Queue (Enq 0)) x inside)
    (ap (λ w. bytes_eq w c.args.word.now) (sym c.spelling.ensures.word) ∙ (sym c.eq.ensures ∙ c.if-eq.true)))

pub returns : goal.returns
returns c = sym (c.loop-sample.invariant ∙ sample_none call_row call_samples c.args.word.now c.loop-sample.sample-index (omega (arith, ap length c.samples-sample-items.ensures)))
