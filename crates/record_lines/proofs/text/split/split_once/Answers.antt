use Rattle.std.proofs.Common.{◌==◌, sym, ◌∙◌}
use Rattle.record_lines.proofs.{Cuts.{cut_found, none_passes}, Readings.if_none}
use Rattle.record_lines.proofs.text.split.split_once.Goals as goal

pub returns-in_err-place-clause-none : goal.returns-in_err-place-clause-none
returns-in_err-place-clause-none c = if_none c.from_residual.result (none_passes (λ b. b == c.args.byte) c.args.bytes.now (sym c.find.ensures.place ∙ c.in_err-place.was))

pub returns-clause-found : goal.returns-clause-found
returns-clause-found c =
    let cut = cut_found c.args.bytes.now c.args.byte c.in_ok-place.place (sym c.find.ensures.place ∙ c.in_ok-place.was) in
    rw (c.split_at-2.ensures.back, c.split_at.ensures.back, c.split_at.ensures.front) cut
