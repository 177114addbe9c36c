use Rattle.std.proofs.Common.{◌≡◌, ◌++◌, ◌≤◌, ◌+◌, length, vec_capacity}
use Rattle.std.specs.{List.AllZip, Vec.Iter.into_iter_items}
use Rattle.guarded_cell.specs.Kinds.{IsPassOf}
use Rattle.word_rule.specs.Passes.{view_of_pass}
use Rattle.cpu_worker.specs.Work.{IsDone}
use Rattle.cpu_worker.proofs.threads.join_threads.Given as goal

abbrev pub invariant-loop-handle : goal.invariant-loop-handle
invariant-loop-handle g l = record {
  split : l.yielded ++ into_iter_items l.handle-iterator ≡ l.fn.handles.items;
  joined : AllZip (λ h r. IsDone IsPassOf view_of_pass h.promise.cells.value.items h.promise.job.value.passes.items h.promise.job.value.todos.items r.0.items r.1.items) l.yielded l.finished.items;
  room : length l.finished.items + length (into_iter_items l.handle-iterator) ≤ vec_capacity l.finished;
}
