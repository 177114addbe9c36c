use Rattle.std.proofs.Common.{◌≡◌, ◌++◌, ℕ, List, length, Some}
use Rattle.record_lines.proofs.streams.text_writer.write_text.Given as goal

abbrev pub invariant-loop-rest : goal.invariant-loop-rest
invariant-loop-rest g l = record {
  known : (xs : List ℕ) → g.W.Sink.contents l.fn.out ≡ Some xs → (ys : List ℕ) × (g.W.Sink.contents l.out ≡ Some (xs ++ ys)) × (ys ++ l.rest ≡ l.text);
  failed : g.W.Sink.failed l.out ≡ g.W.Sink.failed l.fn.out;
}

abbrev pub decreases-loop-rest : goal.decreases-loop-rest
decreases-loop-rest g l = length l.rest
