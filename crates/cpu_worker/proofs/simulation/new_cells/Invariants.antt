use Rattle.std.proofs.Common.{◌≡◌, [], map, take}
use Rattle.std.specs.List.{AllByRecursion}
use Rattle.word_rule.specs.{Machine.Opening.opening_cell, Machine.Shown.AreStored}
use Rattle.cpu_worker.specs.Simulation.{new_cell}
use Rattle.cpu_worker.proofs.Simulations.{object_opened}
use Rattle.cpu_worker.proofs.simulation.new_cells.Given as goal

abbrev pub invariant-loop-object : goal.invariant-loop-object
invariant-loop-object l = record {
  objects : l.object-items ≡ l.settings.objects;
  cells : map (λ c. opening_cell c.kind c.first c.logged) l.cells.items ≡ map new_cell (take l.object-index l.object-items);
  opened : map (λ c. record { params = c.logged.params; limit = c.logged.limit }) l.cells.items ≡ map object_opened (take l.object-index l.object-items);
  empty : AllByRecursion (λ c. c.logged.log ≡ []) l.cells.items;
  stored : AreStored l.cells.items;
}
