-- The cells of a run before their first calls, and a CPU's passes of them.
use Rattle.std.specs.Prelude.{◌≡◌, ℕ, List, [], map}
use Rattle.guarded_cell.specs.Workers.{ArePasses}
use Rattle.records.specs.Settings.{Settings, ObjectSettings}
use Rattle.word_rule.specs.Cell.{opening_pass}
use Rattle.cpu_worker.specs.Work.{FixedCell, KernelView}

-- the cell around an object of the settings, for so many CPUs
abbrev pub cell_for : ℕ → ObjectSettings → FixedCell
cell_for cpus o = record { kind = o.lock; first = 0; params = o.params; limit = o.events; numbers = cpus; opening = [] }

-- a cell for each object
abbrev pub cells_for : Settings → List FixedCell
cells_for settings = map (cell_for settings.cpus) settings.objects

-- CPU k has a pass of each cell, which has seen nothing yet
pub record IsRow {T S : Type 0} (is_pass_of : T → S → Type 0) (pass_view : S → KernelView) (cells : List FixedCell) (opened : List T) (k : ℕ) (row : List S) : Type 0 where
  pub passes : ArePasses is_pass_of opened row
  pub views : map pass_view row ≡ map (λ c. opening_pass c k) cells
