-- Flags that say who can come.
use Rattle.std.specs.Prelude.{◌≡◌, ◌↔◌, ◌≤◌, ◌<◌, ℕ, List, length, Some, slice_get, slice_index}
use Rattle.event_log.specs.{declared.event.Event.Event, declared.entry.Run.Run}
use Rattle.sound_run.specs.Sound.{log_of}
use Rattle.log_merge.specs.{Flags.{capacity, HasFlag}, Prefixes.CanCome}

module _ {O P C R : Type 0} (run : Run O P C R) where
  -- the CPU's flag is set exactly if its next entry can come
  abbrev pub IsRight : List ℕ → List ℕ → List ℕ → ℕ → Type 0
  IsRight at placed flags cpu = HasFlag flags cpu ↔ CanCome run (slice_index at) (slice_index placed) cpu

  -- so many entries of each CPU and events on each object come first: then the flags are those of the CPUs that can come
  pub record SaysWhoCanCome (at placed flags : List ℕ) : Type 0 where
    pub room : length at ≤ capacity flags
    pub right : (cpu : ℕ) → IsRight at placed flags cpu

  -- an event of the object was placed last. Then the CPU may be able to come where it couldn't before: the next event of the
  -- object's log is its own, or there is none left
  pub record MayWake (placed : ℕ → ℕ) (x cpu : ℕ) : Type 0 where
    pub there : cpu < length run.transcripts
    pub next : (d : Event O P C R) → slice_get (log_of x run) (placed x) ≡ Some d → d.cpu ≡ cpu
