use Rattle.record_lines.proofs.Lines.{one_word}
use Rattle.record_lines.proofs.text.line_writer.put_number.Goals as goal

pub returns : goal.returns
returns g c = one_word g.W.Sink c.put.ensures c.begin_line.ensures
