use Rattle.std.proofs.Common.{[], Some, slice_get, ap, ◌∙◌}
use Rattle.std.specs.Prelude.{unwrap_or}
use Rattle.log_merge.proofs.Lent.{lent_at, lent_within}
use Rattle.log_merge.proofs.entry_lookup.entry_at.Goals as goal

pub returns : goal.returns
returns g c =
    let there = lent_at c.as_slice.result.now c.args.cpu (Some c.in_ok-transcript.transcript) c.in_ok-transcript.ensures.lookup in
    lent_within c.as_slice.result.now c.args.cpu c.args.index c.as_slice-2.result.now c.get-2.result (ap Some c.as_slice-2.ensures ∙ there) c.get-2.ensures.lookup
    ∙ ap (λ lists. slice_get (unwrap_or (slice_get lists c.args.cpu) []) c.args.index) c.as_slice.ensures
