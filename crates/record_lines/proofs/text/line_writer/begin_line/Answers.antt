use Rattle.std.proofs.{Common.sym, lemmas.Fmt.decimal_digit}
use Rattle.record_lines.proofs.Outputs.{puts_same}
use Rattle.record_lines.proofs.text.line_writer.begin_line.Goals as goal

pub returns-then-number-lt10 : goal.returns-then-number-lt10
returns-then-number-lt10 g c = puts_same g.W.Sink _ _ _ _ (sym (decimal_digit c.args.number c.if-number-lt10.true)) c.put.ensures
