-- A cell's run, done once more by the step machine, with one cell and for each CPU the calls that it did as its script.
use Rattle.std.specs.{Prelude.{◌≡◌, ◌≢◌, ℕ, ◌<◌, true, false, ◌==◌, if◌then◌else◌, List, [], ◌∷◌, ◌++◌, map, Option, Some, None, slice_get}, List.range_with_len}
use Rattle.event_log.specs.{declared.object.SeqObject.Ghosts, declared.event.Event.Event, declared.entry.Todo.Todo}
use Rattle.word_rule.specs.{declared.machine.step_done.StepDone.StepDone, declared.view.TraceStep.TraceStep, Cell.{Cell, Caller}, Holds.Leaves, LockRuns.{events_in, lock_after}, Locks.{Lock, opening_lock}, StepKinds.ends_hold, Machine.Opening.opening_cpu, Machine.SoundWorld.entries_by, Machine.World.{World, CellState, CpuState, step, run}}
use Rattle.sound_run.specs.Sound.{done_on, steps_by}

module _ {O P C R : Type 0} where
  -- an entry of a script: these calls on the one cell
  abbrev pub todo_of : List C → Todo O P C R
  todo_of calls = record { object = 0; calls = record { items = calls } }

  -- the entries that a caller's CPU does for these lists of calls: the caller does them as the CPU that it acts as
  abbrev pub entries_for : Caller O P C R → ℕ → List (List C) → List (Todo O P C R)
  entries_for caller cpu groups = if cpu == caller.acting then map todo_of groups else []

  -- the cell with that lock and that log, as the machine has it
  abbrev pub cell_with : Cell O P C R → Lock → List (Event O P C R) → CellState O P C R
  cell_with cell lock log = record { opened = record { params = cell.params; limit = cell.limit }; lock = lock; log = log }

  -- the machine before its first step: the cell as it was opened, with this first ticket, and a script for each CPU
  abbrev pub replay_world : Cell O P C R → (ℕ → List (Todo O P C R)) → ℕ → World O P C R
  replay_world cell script first = record {
    cells = cell_with cell (opening_lock cell.kind first) cell.opening ∷ [];
    cpus = map (λ i. opening_cpu (script i)) (range_with_len 0 cell.numbers);
  }

  -- the entries that a CPU has still to do
  abbrev pub entries_left : Option (CpuState O P C R) → List (Todo O P C R)
  entries_left None = []
  entries_left (Some cpu) = cpu.todo

module _ {O P C R : Type 0} (meaning : Ghosts O P C R) where
  -- a CPU does this step by its script's first entry; where the step ends a hold, the entry's calls left the events, and it is done
  pub record DoesStep (limit : ℕ) (log : List (Event O P C R)) (m : TraceStep (Event O P C R)) (script rest : List (Todo O P C R)) : Type 0 where
    pub calls : List C
    pub more : List (Todo O P C R)
    pub is : script ≡ todo_of calls ∷ more
    pub ended : ends_hold m.step ≡ true → Leaves meaning limit log calls m.events × (rest ≡ more)
    pub goes : ends_hold m.step ≡ false → rest ≡ script

  -- a CPU does its steps of a run by its script, of which the rest isn't begun
  abbrev pub DoesRun : ℕ → ℕ → List (Event O P C R) → List (TraceStep (Event O P C R)) → List (Todo O P C R) → List (Todo O P C R) → Type 0
  DoesRun cpu limit log [] script rest = script ≡ rest
  DoesRun cpu limit log (m ∷ ms) script rest = (left : List (Todo O P C R)) × (m.cpu ≡ cpu → DoesStep limit log m script left) × (m.cpu ≢ cpu → left ≡ script) × DoesRun cpu limit (log ++ m.events) ms left rest

  -- each CPU of the cell does so, whatever its script and its rest are
  abbrev pub AllDoRun : Cell O P C R → List (TraceStep (Event O P C R)) → (ℕ → List (Todo O P C R)) → (ℕ → List (Todo O P C R)) → Type 0
  AllDoRun cell run script rest = (i : ℕ) → i < cell.numbers → DoesRun i cell.limit cell.opening run (script i) (rest i)

  -- what the machine's steps are, by a schedule
  abbrev pub steps_done : List ℕ → World O P C R → List StepDone
  steps_done [] w = []
  steps_done (i ∷ is) w = (step meaning w i).1 ∷ steps_done is (step meaning w i).0

  -- the machine once the CPUs of the run have done their next steps, in the run's order
  abbrev pub replayed : Cell O P C R → (ℕ → List (Todo O P C R)) → ℕ → List (TraceStep (Event O P C R)) → World O P C R
  replayed cell script first done = run meaning (map (λ m. m.cpu) done) (replay_world cell script first)

  -- the machine has done the run: the same steps, with the run's lock and log at the end; each transcript has the steps of its
  -- CPU's events, and the rest of each script isn't begun
  pub record IsReplay (cell : Cell O P C R) (script rest : ℕ → List (Todo O P C R)) (first : ℕ) (log : List (Event O P C R)) (done : List (TraceStep (Event O P C R))) : Type 0 where
    pub steps : steps_done (map (λ m. m.cpu) done) (replay_world cell script first) ≡ map (λ m. m.step) done
    pub cells : (replayed cell script first done).cells ≡ cell_with cell (lock_after done (opening_lock cell.kind first)) log ∷ []
    pub transcripts : (i : ℕ) → i < cell.numbers → done_on 0 (entries_by i (replayed cell script first done)) ≡ steps_by i (events_in done)
    pub left : (i : ℕ) → i < cell.numbers → entries_left (slice_get (replayed cell script first done).cpus i) ≡ rest i
