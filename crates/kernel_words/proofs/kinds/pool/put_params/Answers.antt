use Rattle.record_lines.proofs.Lines.{words_then}
use Rattle.kernel_words.proofs.kinds.pool.put_params.Goals as goal

pub returns : goal.returns
returns g c =
    let pages = rw c.from.ensures at c.put_number.ensures in
    words_then g.W.Sink pages c.put_numbers.ensures
