use Rattle.std.proofs.Common.{subst, Option, ℕ}
use Rattle.memchr.specs.Find.{IsFirstByte, is_byte}
use Rattle.record_lines.proofs.{Cuts.{cut_first, cut_none}, Readings.if_none}
use Rattle.record_lines.proofs.text.split.split_line.Goals as goal

pub returns-in_err-place-clause-none : goal.returns-in_err-place-clause-none
returns-in_err-place-clause-none c = if_none c.from_residual.result (cut_none c.args.bytes.now 10 (subst (λ (r : Option ℕ). IsFirstByte (is_byte 10) c.args.bytes.now r) c.in_err-place.was c.line_end.ensures.place))

pub returns-clause-found : goal.returns-clause-found
returns-clause-found c =
    let cut = cut_first c.args.bytes.now 10 c.in_ok-place.place (subst (λ (r : Option ℕ). IsFirstByte (is_byte 10) c.args.bytes.now r) c.in_ok-place.was c.line_end.ensures.place) in
    rw (c.split_at-2.ensures.back, c.split_at.ensures.back, c.split_at.ensures.front) cut
