use Rattle.std.proofs.Common.{◌≡◌, ◌++◌, length}
use Rattle.std.specs.Vec.Iter.{into_iter_items}
use Rattle.cpu_worker.proofs.Deals.{Dealt}
use Rattle.cpu_worker.proofs.run_preparation.deal.Given as goal

abbrev pub invariant-loop-x : goal.invariant-loop-x
invariant-loop-x g l = record {
  split : l.yielded ++ into_iter_items l.x-iterator ≡ l.fn.elements.items;
  at : l.k ≡ length l.yielded;
  dealt : Dealt l.fn.rows.items l.yielded l.rows.items;
}
