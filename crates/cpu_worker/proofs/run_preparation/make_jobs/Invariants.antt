use Rattle.std.proofs.Common.{◌≡◌, ◌≤◌, ◌+◌, ◌++◌, [], length, map, vec_capacity}
use Rattle.std.specs.{List.AllByRecursion, Vec.Iter.into_iter_items}
use Rattle.cpu_worker.proofs.run_preparation.make_jobs.Given as goal

abbrev pub invariant-loop-todos : goal.invariant-loop-todos
invariant-loop-todos l = record {
  split : l.yielded ++ into_iter_items l.todos-iterator ≡ l.fn.scripts.items;
  left : length (into_iter_items l.rows) ≡ length (into_iter_items l.todos-iterator);
  scripts : map (λ j. j.todos.items) l.jobs.items ≡ map (λ v. v.items) l.yielded;
  rows : map (λ j. j.passes.items) l.jobs.items ++ map (λ r. r.items) (into_iter_items l.rows) ≡ map (λ r. r.items) (into_iter_items l.initial.rows);
  each : AllByRecursion (λ j. (j.transcript.items ≡ []) × (length j.todos.items ≤ vec_capacity j.transcript)) l.jobs.items;
  room : length l.jobs.items + length (into_iter_items l.todos-iterator) ≤ vec_capacity l.jobs;
}
