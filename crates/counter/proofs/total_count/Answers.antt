use Rattle.std.proofs.Common.{◌∙◌, ap, arith}
use Rattle.counter.proofs.total_count.Goals as goal

pub returns-clause-count : goal.returns-clause-count
returns-clause-count c =
    let read = c.value.ensures ∙ ap (λ s. s.value) c.state.ensures.value in
    read ∙ c.counts_each_once.ensures.logged _ c.state.ensures.kept

pub returns-clause-within : goal.returns-clause-within
returns-clause-within c =
    let read = c.value.ensures ∙ ap (λ s. s.value) c.state.ensures.value in
    let within = (c.stays_within.ensures.logged _ c.state.ensures.kept).within in
    omega (arith, read, within)
