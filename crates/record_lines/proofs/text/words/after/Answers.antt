use Rattle.std.proofs.Common.{sym, ◌∙◌, ap, option_map}
use Rattle.record_lines.specs.Reading.{left}
use Rattle.record_lines.proofs.{Behind.word_next, Readings.if_some}
use Rattle.record_lines.proofs.text.words.after.Goals as goal

pub returns : goal.returns
returns c = λ plain. if_some _ c.behind.result (λ rest is.
    ap left c.in_ok-at.was ∙ word_next c.in_ok-at.field-0.now c.args.word.now c.in_ok-strip.field-0.now (left rest) c.in_ok-strip.ensures plain (sym c.behind.ensures ∙ ap (option_map left) is))
