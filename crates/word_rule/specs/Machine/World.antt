-- Many CPUs, each with a script, over many cells; a schedule says who does the next step.
use Rattle.std.specs.Prelude.{ℕ, ◌+◌, ◌-◌, ◌^◌, min, if◌then◌else◌, ◌==◌, List, [], ◌∷◌, ◌++◌, map, length, Option, Some, None, slice_get, slice_set}
use Rattle.event_log.specs.{declared.object.SeqObject.Ghosts, declared.event.Event.Event, declared.entry.Done.Done, declared.entry.Entry.Entry, declared.entry.Todo.Todo, declared.entry.Run.Run, History.History, Log.{answers, replay}}
use Rattle.word_rule.specs.{declared.machine.step_done.StepDone.StepDone, Locks.{Lock, turn}, StepKinds.{ends_hold, is_look}}
use Rattle.sound_run.specs.Sound.{Opened}
use Rattle.event_log.specs.declared.entry.Done.TheVariants as done
use Rattle.word_rule.specs.declared.machine.step_done.StepDone.TheVariants as steps

-- an object behind its lock: what it was opened with, the lock, and the committed log
pub record CellState (O P C R : Type 0) : Type 0 where
  pub opened : Opened P
  pub lock : Lock
  pub log : List (Event O P C R)

-- a CPU: the entries that it hasn't done, the one that it is doing first; its transcript; the looks of that entry so far
pub record CpuState (O P C R : Type 0) : Type 0 where
  pub todo : List (Todo O P C R)
  pub transcript : List (Entry O P C R)
  pub looks : ℕ

pub record World (O P C R : Type 0) : Type 0 where
  pub cells : List (CellState O P C R)
  pub cpus : List (CpuState O P C R)

-- the looks of an entry, counted to 2^64 - 1
abbrev pub counted : ℕ → StepDone → ℕ
counted looks s = if is_look s then min (looks + 1) (2 ^ 64 - 1) else looks

module _ {O P C R : Type 0} where
  -- the log after what became of a CPU's entry
  abbrev pub with_done : ℕ → List (Event O P C R) → Done O P C R → List (Event O P C R)
  with_done cpu log (done.Steps s) = log ++ record { cpu = cpu; steps = s } ∷ []
  with_done cpu log done.NoRoom = log

  -- the entry of a transcript
  abbrev pub entry_of : Todo O P C R → Done O P C R → ℕ → Entry O P C R
  entry_of todo d looks = record { object = todo.object; asked = todo.calls; done = d; looks = looks }

  -- the entries that are left once the first is done
  abbrev pub left : List (Todo O P C R) → List (Todo O P C R)
  left [] = []
  left (x ∷ xs) = xs

  -- the CPU once its entry is done
  abbrev pub finished : CpuState O P C R → Todo O P C R → Done O P C R → CpuState O P C R
  finished c todo d = record { todo = left c.todo; transcript = c.transcript ++ entry_of todo d c.looks ∷ []; looks = 0 }

  -- the CPU after a step in that entry
  abbrev pub cpu_after : CpuState O P C R → Todo O P C R → StepDone → Done O P C R → CpuState O P C R
  cpu_after cpu todo s d = if ends_hold s then finished cpu todo d else record cpu { looks = counted cpu.looks s }

  -- the logs and transcripts of a world
  abbrev pub run_of : World O P C R → Run O P C R
  run_of w = record { logs = map (λ c. c.log) w.cells; transcripts = map (λ c. c.transcript) w.cpus }

  -- what the objects of a world are judged by
  abbrev pub opened_in : World O P C R → List (Opened P)
  opened_in w = map (λ c. c.opened) w.cells

module _ {O P C R : Type 0} (meaning : Ghosts O P C R) where
  -- what becomes of calls at the end of a hold: one event from the replay of the log on, if there is room for it
  abbrev pub outcome : Opened P → List (Event O P C R) → List C → Done O P C R
  outcome opened log asked = if length log == opened.limit then done.NoRoom else done.Steps record { list = record { items = answers meaning (replay meaning opened.params log) asked } }

  -- what becomes of an entry on an object with this history
  abbrev pub outcome_on : History O P C R → Todo O P C R → Done O P C R
  outcome_on h todo = outcome (record { params = h.params; limit = h.limit }) h.log todo.calls.items

  -- the cell after a step of CPU i that does an entry there
  abbrev pub cell_after : CellState O P C R → ℕ → Todo O P C R → Lock × StepDone → CellState O P C R
  cell_after c i todo t = record { opened = c.opened; lock = t.0; log = if ends_hold t.1 then with_done i c.log (outcome c.opened c.log todo.calls.items) else c.log }

  -- the world after the step
  abbrev pub world_after : World O P C R → ℕ → CellState O P C R → CpuState O P C R → Todo O P C R → Lock × StepDone → World O P C R
  world_after w i c cpu todo t = record {
    cells = slice_set w.cells todo.object (cell_after c i todo t);
    cpus = slice_set w.cpus i (cpu_after cpu todo t.1 (outcome c.opened c.log todo.calls.items));
  }

  abbrev pub step_on : World O P C R → ℕ → CpuState O P C R → Todo O P C R → Option (CellState O P C R) → World O P C R × StepDone
  step_on w i cpu todo None = (w, steps.Idle)
  step_on w i cpu todo (Some c) = (world_after w i c cpu todo (turn c.lock i), (turn c.lock i).1)

  abbrev pub step_of : World O P C R → ℕ → CpuState O P C R → List (Todo O P C R) → World O P C R × StepDone
  step_of w i cpu [] = (w, steps.Idle)
  step_of w i cpu (todo ∷ more) = step_on w i cpu todo (slice_get w.cells todo.object)

  abbrev pub step_by : World O P C R → ℕ → Option (CpuState O P C R) → World O P C R × StepDone
  step_by w i None = (w, steps.Idle)
  step_by w i (Some cpu) = step_of w i cpu cpu.todo

  -- a CPU's next atomic step, or an idle one where its script is done
  abbrev pub step : World O P C R → ℕ → World O P C R × StepDone
  step w i = step_by w i (slice_get w.cpus i)

  -- the steps of a whole schedule
  abbrev pub run : List ℕ → World O P C R → World O P C R
  run [] w = w
  run (i ∷ is) w = run is (step w i).0
