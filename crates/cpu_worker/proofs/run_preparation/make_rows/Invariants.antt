use Rattle.std.proofs.Common.{◌≡◌, ◌≤◌, [], length, vec_capacity}
use Rattle.std.specs.List.{AllByRecursion}
use Rattle.cpu_worker.proofs.run_preparation.make_rows.Given as goal

abbrev pub invariant-loop : goal.invariant-loop
invariant-loop g l = record {
  count : length l.rows.items ≡ l.counter;
  room : l.cpus ≤ vec_capacity l.rows;
  each : AllByRecursion (λ r. (r.items ≡ []) × (l.objects ≤ vec_capacity r)) l.rows.items;
}
