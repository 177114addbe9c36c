use Rattle.record_lines.proofs.Lines.{words_then}
use Rattle.kernel_words.proofs.kinds.sched.put_params.Goals as goal

pub returns : goal.returns
returns g c =
    let threads = rw c.from.ensures at c.put_number.ensures in
    let channels = rw c.from-2.ensures at c.put_number-2.ensures in
    words_then g.W.Sink threads channels
