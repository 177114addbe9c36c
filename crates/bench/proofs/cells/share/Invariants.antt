use Rattle.std.specs.{Arc.arc_value, Vec.Iter.into_iter_items}
use Rattle.word_rule.specs.Cell.{EachAt}
use Rattle.bench.specs.Passes.{IsPassOf}
use Rattle.bench.proofs.cells.share.Given as goal

abbrev pub invariant-loop-pass : goal.invariant-loop-pass
invariant-loop-pass l = EachAt (λ _ p. IsPassOf (arc_value l.shared) p) (into_iter_items l.pass-iterator)
