use Rattle.std.proofs.Common.{length, get_or, sym, ◌∙◌, ap, arith, bytes_eq}
use Rattle.kernel_words.proofs.Lookups.{sample_hit, sample_miss, sample_none}
use Rattle.kernel_words.proofs.tables.read.sample.Goals as goal

pub loop-sample-preserved : goal.loop-sample-preserved
loop-sample-preserved g c =
    let items = c.samples-sample-items.ensures in
    c.loop-sample.invariant ∙ sample_miss g.T.Spelled.row_of g.T.Spelled.table c.args.word.now c.loop-sample.sample-index c.sample-item.result (omega (arith, ap length items))
    (c.sample-item.is ∙ ap (λ l. get_or l c.loop-sample.sample-index c.sample-item.result) items)
    (ap (λ w. bytes_eq w c.args.word.now) (sym c.spelling.ensures.word) ∙ (sym c.eq.ensures ∙ c.if-eq.false))

pub returns-then-eq : goal.returns-then-eq
returns-then-eq g c =
    let items = c.samples-sample-items.ensures in
    sym (c.loop-sample.invariant ∙ sample_hit g.T.Spelled.row_of g.T.Spelled.table c.args.word.now c.loop-sample.sample-index c.sample-item.result (omega (arith, ap length items))
    (c.sample-item.is ∙ ap (λ l. get_or l c.loop-sample.sample-index c.sample-item.result) items)
    (ap (λ w. bytes_eq w c.args.word.now) (sym c.spelling.ensures.word) ∙ (sym c.eq.ensures ∙ c.if-eq.true)))

pub returns : goal.returns
returns g c = sym (c.loop-sample.invariant ∙ sample_none g.T.Spelled.row_of g.T.Spelled.table c.args.word.now c.loop-sample.sample-index (omega (arith, ap length c.samples-sample-items.ensures)))
