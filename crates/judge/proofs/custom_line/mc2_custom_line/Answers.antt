use Rattle.std.proofs.Common.{refl, ap, ◌∙◌}
use Rattle.judge.specs.OwnLines.{line_report}
use Rattle.judge.proofs.LinesAt.{one_line}
use Rattle.judge.proofs.custom_line.mc2_custom_line.Goals as goal

pub returns-in-None : goal.returns-in-None
returns-in-None c = record { line = λ other there. absurd (c.in-None.ensures.none other there); none = λ no. refl }

pub returns-in-Some : goal.returns-in-Some
returns-in-Some c =
    let at = c.args.at in let text = c.args.text.now in
    record {
      line = λ other there. c.report_line.ensures ∙ ap (λ l. line_report c.args.report.now at l) (one_line text at c.in-Some.line.now other c.in-Some.ensures.found there);
      none = λ no. absurd (no c.in-Some.line.now c.in-Some.ensures.found);
    }
