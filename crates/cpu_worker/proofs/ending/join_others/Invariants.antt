use Rattle.std.proofs.Common.{◌≡◌, ◌++◌, ◌+◌, ◌≤◌, length, map, vec_capacity}
use Rattle.std.specs.{List.AllByRecursion, Vec.Iter.into_iter_items}
use Rattle.guarded_cell.specs.{Workers.ArePasses, Runs.EachJoins}
use Rattle.cpu_worker.proofs.ending.join_others.Given as goal

abbrev pub invariant-loop-row : goal.invariant-loop-row
invariant-loop-row g l = record {
  split : l.yielded ++ into_iter_items l.row-iterator ≡ l.fn.others.items;
  left : AllByRecursion (λ r. ArePasses g.C.LockCell.is_pass_of l.cells r.0.items) (into_iter_items l.row-iterator);
  merged : ArePasses g.C.LockCell.is_pass_of l.cells l.merged.items;
  first : EachJoins (map g.C.LockCell.pass_view l.fn.first.items) (map g.C.LockCell.pass_view l.merged.items);
  rows : AllByRecursion (λ r. EachJoins (map g.C.LockCell.pass_view r.0.items) (map g.C.LockCell.pass_view l.merged.items)) l.yielded;
  transcripts : l.transcripts.items ≡ l.fn.transcripts.items ++ map (λ r. r.1.items) l.yielded;
  room : length l.transcripts.items + length (into_iter_items l.row-iterator) ≤ vec_capacity l.transcripts;
}
