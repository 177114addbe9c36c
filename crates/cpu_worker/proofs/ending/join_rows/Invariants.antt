use Rattle.std.proofs.Common.{◌≡◌, ◌++◌, length, map}
use Rattle.std.specs.Vec.Iter.{into_iter_items}
use Rattle.guarded_cell.specs.{Workers.ArePasses, Runs.EachJoins}
use Rattle.cpu_worker.proofs.ending.join_rows.Given as goal

abbrev pub invariant-loop-pass : goal.invariant-loop-pass
invariant-loop-pass g l = record {
  split : l.yielded ++ into_iter_items l.pass-iterator ≡ l.fn.row.items;
  given : ArePasses g.C.LockCell.is_pass_of l.cells l.fn.row.items;
  merged : ArePasses g.C.LockCell.is_pass_of l.cells l.merged.items;
  first : EachJoins (map g.C.LockCell.pass_view l.fn.merged.items) (map g.C.LockCell.pass_view l.merged.items);
  second : EachJoins (map g.C.LockCell.pass_view l.yielded) (map g.C.LockCell.pass_view l.merged.items);
  at : l.x ≡ length l.yielded;
}
