use Rattle.record_lines.proofs.Lines.{words_then}
use Rattle.kernel_words.proofs.kinds.put_params.Goals as goal

pub returns-in-Queue : goal.returns-in-Queue
returns-in-Queue g c =
    let word = rw c.word.ensures at c.put_word.ensures in
    rw c.in-Queue.is (words_then g.W.Sink word c.put_params.ensures)

pub returns-in-Pool : goal.returns-in-Pool
returns-in-Pool g c =
    let word = rw c.word-in-Pool.ensures at c.put_word-in-Pool.ensures in
    rw c.in-Pool.is (words_then g.W.Sink word c.put_params-in-Pool.ensures)

pub returns-in-Console : goal.returns-in-Console
returns-in-Console g c =
    let word = rw c.word-in-Console.ensures at c.put_word-in-Console.ensures in
    rw c.in-Console.is (words_then g.W.Sink word c.put_params-in-Console.ensures)

pub returns-in-Sched : goal.returns-in-Sched
returns-in-Sched g c =
    let word = rw c.word-in-Sched.ensures at c.put_word-in-Sched.ensures in
    rw c.in-Sched.is (words_then g.W.Sink word c.put_params-in-Sched.ensures)
