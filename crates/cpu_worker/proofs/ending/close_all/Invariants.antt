use Rattle.std.proofs.Common.{◌≡◌, ◌++◌, ◌+◌, ◌≤◌, length, map, vec_capacity}
use Rattle.std.specs.{List.AllByRecursion, Vec.Iter.into_iter_items}
use Rattle.event_log.specs.declared.logged.TheConstants.{MOST_EVENTS}
use Rattle.word_rule.specs.Cell.{OwnsAll}
use Rattle.guarded_cell.specs.Workers.{ArePasses}
use Rattle.cpu_worker.proofs.ending.close_all.Given as goal

abbrev pub invariant-loop-cell : goal.invariant-loop-cell
invariant-loop-cell g l = record {
  left : ArePasses g.C.LockCell.is_pass_of (into_iter_items l.cell-iterator) (into_iter_items l.passes);
  whole : AllByRecursion (λ p. OwnsAll (g.C.LockCell.pass_view p).caller) (into_iter_items l.passes);
  stored : AllByRecursion (λ p. (g.C.LockCell.pass_view p).caller.cell.limit ≤ MOST_EVENTS) (into_iter_items l.passes);
  all : l.logs.items ++ map (λ p. (g.C.LockCell.pass_view p).seen) (into_iter_items l.passes) ≡ map (λ p. (g.C.LockCell.pass_view p).seen) (into_iter_items l.initial.passes);
  room : length l.logs.items + length (into_iter_items l.cell-iterator) ≤ vec_capacity l.logs;
}
