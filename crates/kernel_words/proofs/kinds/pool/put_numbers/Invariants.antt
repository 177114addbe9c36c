use Rattle.std.proofs.Common.{take, map, decimal}
use Rattle.record_lines.specs.Output.{PutsWords}
use Rattle.kernel_words.proofs.kinds.pool.put_numbers.Given as goal

abbrev pub invariant-loop-number : goal.invariant-loop-number
invariant-loop-number g l = PutsWords g.W.Sink l.fn.text l.text (map decimal (take l.number-index l.numbers))
