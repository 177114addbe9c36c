use Rattle.std.proofs.Common.{subst, decimal, ◌∷◌, []}
use Rattle.record_lines.specs.Output.{PutsWords}
use Rattle.record_lines.proofs.Lines.{decimal_then}
use Rattle.kernel_words.proofs.kinds.pool.put_numbers.Goals as goal

pub loop-number-preserved : goal.loop-number-preserved
loop-number-preserved g c = decimal_then g.W.Sink c.args.numbers.now c.loop-number.number-index _ c.loop-number-test.true c.loop-number.invariant (subst (λ n. PutsWords g.W.Sink c.loop-number.text c.put_number.new.text (decimal n ∷ [])) c.from.ensures c.put_number.ensures)
