use Rattle.record_lines.proofs.Lines.{one_word}
use Rattle.record_lines.proofs.text.line_writer.put_word.Goals as goal

pub returns : goal.returns
returns g c = one_word g.W.Sink c.put.ensures c.put-2.ensures
