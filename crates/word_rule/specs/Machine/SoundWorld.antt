-- What is true of a world in every run.
use Rattle.std.specs.{Prelude.{◌≡◌, ℕ, ◌<◌, ◌≤◌, List, [], length, Option, Some, None, slice_get}, List.AllByRecursion}
use Rattle.event_log.specs.{declared.object.SeqObject.Ghosts, declared.event.TheConstants.MOST_CALLS, declared.entry.Entry.Entry, declared.entry.Todo.Todo}
use Rattle.sound_run.specs.Sound.{LogIsSound, Answers, NoneAfterFull, done_on, steps_by}
use Rattle.word_rule.specs.Machine.World.{World, CellState, CpuState}

module _ {O P C R : Type 0} where
  -- an entry that can be done: 1 to 8 calls on one of the n cells
  pub record IsTodo (n : ℕ) (todo : Todo O P C R) : Type 0 where
    pub some : 0 < length todo.calls.items
    pub few : length todo.calls.items ≤ MOST_CALLS
    pub on_cell : todo.object < n

  -- the transcript, if there is such a CPU
  abbrev pub entries_of : Option (CpuState O P C R) → List (Entry O P C R)
  entries_of None = []
  entries_of (Some cpu) = cpu.transcript

  -- the transcript of that CPU
  abbrev pub entries_by : ℕ → World O P C R → List (Entry O P C R)
  entries_by i w = entries_of (slice_get w.cpus i)

module _ {O P C R : Type 0} (meaning : Ghosts O P C R) where
  -- the entry answers what was asked, by the log that its cell has now
  pub record IsAnswer (w : World O P C R) (e : Entry O P C R) : Type 0 where
    pub cell : CellState O P C R
    pub there : slice_get w.cells e.object ≡ Some cell
    pub answers : Answers meaning cell.opened cell.log e.asked e.done

  -- each log is legal and within its limit, each CPU's done entries on a cell are its events there, each entry answers
  -- what was asked, none is done on a cell after it was found full, and each entry that is left can be done
  pub record SoundWorld (w : World O P C R) : Type 0 where
    pub logs : (x : ℕ) (c : CellState O P C R) → slice_get w.cells x ≡ Some c → LogIsSound meaning c.opened c.log
    pub taken : (x i : ℕ) (c : CellState O P C R) → slice_get w.cells x ≡ Some c → done_on x (entries_by i w) ≡ steps_by i c.log
    pub answers : (i : ℕ) → AllByRecursion (λ e. IsAnswer w e) (entries_by i w)
    pub full : (i : ℕ) → NoneAfterFull (entries_by i w)
    pub able : (i : ℕ) (cpu : CpuState O P C R) → slice_get w.cpus i ≡ Some cpu → AllByRecursion (λ t. IsTodo (length w.cells) t) cpu.todo
