use Rattle.std.proofs.Common.{sym, ap, ◌∙◌, option_map}
use Rattle.record_lines.specs.Reading.{left, words}
use Rattle.judge.proofs.LogHeads.{no_head}
use Rattle.judge.proofs.custom_line.any_log.Goals as goal

pub returns-in_default : goal.returns-in_default
returns-in_default c = sym (no_head (words c.args.line.now) (sym c.key.ensures ∙ ap (option_map left) c.in_default.is))
