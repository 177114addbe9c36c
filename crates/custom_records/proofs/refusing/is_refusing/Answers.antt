use Rattle.std.proofs.Common.{sym, ◌∙◌}
use Rattle.std.specs.Str.{bytes_eq}
use Rattle.custom_records.proofs.LineSteps.{any_mapped}
use Rattle.custom_records.proofs.refusing.is_refusing.Goals as goal

pub returns : goal.returns
returns c = c.is_among.ensures ∙ sym (any_mapped (λ w. bytes_eq w c.args.word.now) (λ w. w.bytes) c.args.refusing.now)
