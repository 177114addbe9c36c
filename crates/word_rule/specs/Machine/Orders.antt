-- Who does which steps on a cell, in a run.
use Rattle.std.specs.Prelude.{ℕ, Bool, false, ◌==◌, ◌&&◌, if◌then◌else◌, List, [], ◌∷◌, ◌++◌, length, Option, Some, None, slice_get}
use Rattle.event_log.specs.{declared.object.SeqObject.Ghosts, declared.entry.Todo.Todo, Distinct.has}
use Rattle.word_rule.specs.{declared.machine.step_done.StepDone.StepDone, StepKinds.{ends_hold, arrives}, Machine.SoundWorld.entries_by, Machine.World.{World, CpuState, step}}
use Rattle.sound_run.specs.declared.place.Place.{Place}

abbrev pub is_that : Option ℕ → ℕ → Bool
is_that None x = false
is_that (Some y) x = y == x

module _ {O P C R : Type 0} where
  -- the cell of the first entry
  abbrev pub first_cell : List (Todo O P C R) → Option ℕ
  first_cell [] = None
  first_cell (x ∷ xs) = Some x.object

  -- the cell of the entry that the CPU is doing
  abbrev pub works_on : Option (CpuState O P C R) → Option ℕ
  works_on None = None
  works_on (Some cpu) = first_cell cpu.todo

  -- whether CPU i does an entry on cell x
  abbrev pub is_at : World O P C R → ℕ → ℕ → Bool
  is_at w i x = is_that (works_on (slice_get w.cpus i)) x

module _ {O P C R : Type 0} (meaning : Ghosts O P C R) where
  -- the CPUs whose steps on cell x pass a test, in the order of the schedule
  abbrev pub doers : (StepDone → Bool) → ℕ → List ℕ → World O P C R → List ℕ
  doers test x [] w = []
  doers test x (i ∷ is) w = if test (step meaning w i).1 && is_at w i x then i ∷ doers test x is (step meaning w i).0 else doers test x is (step meaning w i).0

  -- who arrives there: the CPUs of its draw and enter steps
  abbrev pub arrivals : ℕ → List ℕ → World O P C R → List ℕ
  arrivals = doers arrives

  -- who ends a hold there: the CPUs of its serve and pass steps, and of the empty steps that succeed
  abbrev pub endings : ℕ → List ℕ → World O P C R → List ℕ
  endings = doers ends_hold

  -- whether CPU i arrives there by its next step
  abbrev pub arrives_at : World O P C R → ℕ → ℕ → Bool
  arrives_at w i x = arrives (step meaning w i).1 && is_at w i x

  -- whether CPU i ends a hold there by one of these steps
  abbrev pub ends_within : ℕ → ℕ → List ℕ → World O P C R → Bool
  ends_within i x is w = has i (endings x is w)

  -- the entry whose hold ends by the next step of CPU i, if one does: the next of its transcript
  abbrev pub ended_by : World O P C R → ℕ → List Place
  ended_by w i = if ends_hold (step meaning w i).1 then record { cpu = i; entry = length (entries_by i w) } ∷ [] else []

  -- the entries that come to an end, in the order of the schedule
  abbrev pub ended : List ℕ → World O P C R → List Place
  ended [] w = []
  ended (i ∷ is) w = ended_by w i ++ ended is (step meaning w i).0
