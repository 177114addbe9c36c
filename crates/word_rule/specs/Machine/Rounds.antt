-- Rounds of a schedule, and which steps get a CPU on.
use Rattle.std.specs.{Prelude.{◌≡◌, ◌≢◌, ℕ, zero, suc, ◌+◌, ◌<◌, true, List, [], ◌∷◌, ◌++◌, length, Option, Some, None, slice_get}, List.AllByRecursion}
use Rattle.event_log.specs.{declared.entry.Todo.Todo, Distinct.has}
use Rattle.sound_run.specs.{declared.lock_kind.LockKind.LockKind, Orders.numbers}
use Rattle.word_rule.specs.{Locks.turn, Machine.Orders.is_at, Machine.World.{World, CellState, CpuState}}
use Rattle.sound_run.specs.declared.lock_kind.LockKind.TheVariants as kinds

-- a stretch of a schedule that names each of n CPUs
abbrev pub IsRound : ℕ → List ℕ → Type 0
IsRound n is = (i : ℕ) → i < n → has i is ≡ true

-- the schedule has so many rounds, one behind another
abbrev pub HasRounds : ℕ → ℕ → List ℕ → Type 0
HasRounds n zero is = Unit {0}
HasRounds n (suc k) is = (first : List ℕ) × (rest : List ℕ) × (is ≡ first ++ rest) × IsRound n first × HasRounds n k rest

-- n CPUs, each in its turn, and so many times over
abbrev pub go_round : ℕ → ℕ → List ℕ
go_round n zero = []
go_round n (suc k) = numbers 0 n ++ go_round n k

-- the most steps of a call that get its CPU on, at a lock of that kind
abbrev pub most_steps_of : LockKind → ℕ
most_steps_of kinds.Ticket = 3
most_steps_of kinds.Mcs = 9

-- the most of them at any lock
abbrev pub most_steps : ℕ
most_steps = 9

module _ {O P C R : Type 0} where
  -- the entries that are left, of all CPUs
  abbrev pub entries_to_do : List (CpuState O P C R) → ℕ
  entries_to_do [] = 0
  entries_to_do (c ∷ cs) = length c.todo + entries_to_do cs

  -- the most steps that get a CPU on, in a call on this cell
  abbrev pub cell_steps : Option (CellState O P C R) → ℕ
  cell_steps None = 0
  cell_steps (Some c) = most_steps_of c.lock.kind

  -- the same in all of these entries, each on its cell
  abbrev pub entry_steps : List (CellState O P C R) → List (Todo O P C R) → ℕ
  entry_steps cells [] = 0
  entry_steps cells (todo ∷ more) = cell_steps (slice_get cells todo.object) + entry_steps cells more

  -- the same in all entries that these CPUs have left
  abbrev pub cpu_steps : List (CellState O P C R) → List (CpuState O P C R) → ℕ
  cpu_steps cells [] = 0
  cpu_steps cells (c ∷ cs) = entry_steps cells c.todo + cpu_steps cells cs

  -- the same in all entries that a world has left
  abbrev pub steps_to_do : World O P C R → ℕ
  steps_to_do w = cpu_steps w.cells w.cpus

  -- every script is done
  abbrev pub AllDone : World O P C R → Type 0
  AllDone w = AllByRecursion (λ c. c.todo ≡ []) w.cpus

  -- the next step of CPU i, in the entry that it is doing, takes it to another place at the cell's lock
  pub record GetsOn (w : World O P C R) (i : ℕ) : Type 0 where
    pub at : ℕ
    pub cell : CellState O P C R
    pub works : is_at w i at ≡ true
    pub there : slice_get w.cells at ≡ Some cell
    pub moves : (turn cell.lock i).0.line.stage i ≢ cell.lock.line.stage i
