use Rattle.std.proofs.Common.{◌≡◌, ◌≤◌, length, map, take, vec_len, vec_capacity}
use Rattle.guarded_cell.specs.Kinds.{IsPassOf}
use Rattle.word_rule.specs.{Cell.EachAt, Passes.view_of_pass}
use Rattle.cpu_worker.specs.Opening.{IsRow, cell_for}
use Rattle.cpu_worker.proofs.run_preparation.open_cells.Given as goal

abbrev pub invariant-loop-object : goal.invariant-loop-object
invariant-loop-object l = record {
  objects : l.object-items ≡ l.settings.objects;
  count : vec_len l.rows ≡ l.settings.cpus;
  cells : length l.cells.items ≡ l.object-index;
  room : length l.settings.objects ≤ vec_capacity l.cells;
  rows : EachAt (λ k row. IsRow IsPassOf view_of_pass (map (cell_for l.settings.cpus) (take l.object-index l.object-items)) l.cells.items k row.items × (length l.settings.objects ≤ vec_capacity row)) l.rows.items;
}
