-- A world before its first step.
use Rattle.std.specs.{Prelude.{◌≡◌, ℕ, List, [], map, length, Some, slice_get, Vec}, List.AllByRecursion, declared.alloc.Global.Global}
use Rattle.event_log.specs.{declared.entry.Todo.Todo, History.History}
use Rattle.sound_run.specs.declared.lock_kind.LockKind.{LockKind}
use Rattle.word_rule.specs.{Locks.{Fits, opening_lock}, declared.machine.cell_spec.CellSpec.CellSpec, Machine.SoundWorld.IsTodo, Machine.World.{World, CellState, CpuState}}

module _ {O P C R : Type 0} where
  -- a cell of that kind, with this first ticket, that is made of this object
  abbrev pub opening_cell : LockKind → ℕ → History O P C R → CellState O P C R
  opening_cell kind first h = record { opened = record { params = h.params; limit = h.limit }; lock = opening_lock kind first; log = h.log }

  -- a CPU that hasn't begun
  abbrev pub opening_cpu : List (Todo O P C R) → CpuState O P C R
  opening_cpu script = record { todo = script; transcript = []; looks = 0 }

  -- the world that is made of these cells and scripts
  abbrev pub opening_world : List (CellSpec O P C R) → List (Vec (Todo O P C R) Global) → World O P C R
  opening_world cells scripts = record { cells = map (λ c. opening_cell c.kind c.first c.logged) cells; cpus = map (λ s. opening_cpu s.items) scripts }

  -- the lock is free and for n CPUs, and the log is empty
  pub record IsOpeningCell (n : ℕ) (c : CellState O P C R) : Type 0 where
    pub fits : Fits c.lock.kind n
    pub first : ℕ
    pub free : c.lock ≡ opening_lock c.lock.kind first
    pub empty : c.log ≡ []

  -- each lock is free and each log empty, and each CPU is idle, with an empty transcript and entries that can be done
  pub record IsOpening (w : World O P C R) : Type 0 where
    pub cells : (x : ℕ) (c : CellState O P C R) → slice_get w.cells x ≡ Some c → IsOpeningCell (length w.cpus) c
    pub cpus : (i : ℕ) (cpu : CpuState O P C R) → slice_get w.cpus i ≡ Some cpu → cpu ≡ opening_cpu cpu.todo
    pub able : (i : ℕ) (cpu : CpuState O P C R) → slice_get w.cpus i ≡ Some cpu → AllByRecursion (λ t. IsTodo (length w.cells) t) cpu.todo
