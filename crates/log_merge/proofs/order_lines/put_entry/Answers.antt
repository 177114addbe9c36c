use Rattle.record_lines.proofs.Lines.{line_of_words, words_then}
use Rattle.log_merge.proofs.order_lines.put_entry.Goals as goal

pub returns : goal.returns
returns g c =
    let name = rw c.name_of.ensures at c.put_word.ensures in
    line_of_words g.W.Sink c.begin_line.ensures (words_then g.W.Sink name c.put_done.ensures) c.end_line.ensures
