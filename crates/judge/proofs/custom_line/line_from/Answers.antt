use Rattle.record_lines.proofs.Readings.{if_none}
use Rattle.judge.proofs.LinesAt.{no_line}
use Rattle.judge.proofs.custom_line.line_from.Goals as goal

pub returns-in_err-line-clause-none : goal.returns-in_err-line-clause-none
returns-in_err-line-clause-none c =
    λ line. if_none c.from_residual.result (no_line c.args.text.now c.split_at.result.1.now c.args.at line c.split_at.ensures.back c.in_err-line.ensures.none)
