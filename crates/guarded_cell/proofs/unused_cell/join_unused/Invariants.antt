use Rattle.std.proofs.Common.{◌≡◌, ◌++◌}
use Rattle.std.specs.Vec.Iter.{into_iter_items}
use Rattle.word_rule.specs.Cell.{EachAt}
use Rattle.guarded_cell.specs.Unused.{IsUnused, Covers}
use Rattle.guarded_cell.proofs.unused_cell.join_unused.Given as goal

abbrev pub invariant-loop-pass : goal.invariant-loop-pass
invariant-loop-pass g l = record {
  split : l.yielded ++ into_iter_items l.pass-iterator ≡ l.fn.others.items;
  given : EachAt (λ _ p. IsUnused l.cell p) l.fn.others.items;
  unused : IsUnused l.cell l.whole;
  first : Covers l.fn.first l.whole;
  others : EachAt (λ _ p. Covers p l.whole) l.yielded;
}
