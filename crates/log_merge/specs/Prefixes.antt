-- Places that come first, and who can come behind them.
use Rattle.std.specs.{Prelude.{◌≡◌, ◌≢◌, ◌≤◌, ℕ, List, length, take, Some, slice_get, slice_index}, List.AllByRecursion}
use Rattle.event_log.specs.{declared.event.Event.Event, declared.event.Steps.Steps, declared.entry.Done.Done, declared.entry.Entry.Entry, declared.entry.Run.Run}
use Rattle.sound_run.specs.{Sound.{transcript_of, log_of, done_on, steps_by, NoneAfterFull}, declared.place.Place.Place, Orders.{numbers, entries_of, entry_at, events_on, NoneBehindFull}}
use Rattle.event_log.specs.declared.entry.Done.TheVariants as done

module _ {O P C R : Type 0} (run : Run O P C R) where
  -- what the merger needs of a sound run: a CPU's done entries on an object are its events in the log, and none is done
  -- there after one without room
  pub record IsMatched : Type 0 where
    pub taken : (cpu x : ℕ) → done_on x (transcript_of cpu run) ≡ steps_by cpu (log_of x run)
    pub full : (cpu : ℕ) → NoneAfterFull (transcript_of cpu run)

  -- if the entry there found no room, its object's log stands whole
  abbrev pub IsClosed : List ℕ → Place → Type 0
  IsClosed placed p = (e : Entry O P C R) → entry_at run p ≡ Some e → e.done ≡ done.NoRoom → length (log_of e.object run) ≤ slice_index placed e.object

  -- so many entries of each CPU stand in order, with so many events on each object, which are the first of its log
  pub record IsPrefix (order : List Place) (at placed : List ℕ) : Type 0 where
    pub entries : (cpu : ℕ) → entries_of cpu order ≡ numbers 0 (slice_index at cpu)
    pub few : (cpu : ℕ) → slice_index at cpu ≤ length (transcript_of cpu run)
    pub events : (x : ℕ) → events_on run x order ≡ take (slice_index placed x) (log_of x run)
    pub within : (x : ℕ) → slice_index placed x ≤ length (log_of x run)
    pub full : NoneBehindFull run order
    pub closed : AllByRecursion (IsClosed placed) order

  -- so many events on each object come first: then an entry can come whose event is the next of its log, and one without
  -- room whose log stands whole
  abbrev pub Comes : (ℕ → ℕ) → ℕ → ℕ → Done O P C R → Type 0
  Comes placed cpu x (done.Steps s) = (d : Event O P C R) × (slice_get (log_of x run) (placed x) ≡ Some d) × (d.cpu ≡ cpu)
  Comes placed cpu x done.NoRoom = length (log_of x run) ≤ placed x

  -- so many entries of each CPU and events on each object come first: then the CPU's next entry can come
  pub record CanCome (at placed : ℕ → ℕ) (cpu : ℕ) : Type 0 where
    pub entry : Entry O P C R
    pub there : slice_get (transcript_of cpu run) (at cpu) ≡ Some entry
    pub comes : Comes placed cpu entry.object entry.done

  -- its next entry waits for an event of that CPU: the next one of its object, which isn't its own
  pub record IsBlocked (at placed : ℕ → ℕ) (cpu by : ℕ) : Type 0 where
    pub entry : Entry O P C R
    pub there : slice_get (transcript_of cpu run) (at cpu) ≡ Some entry
    pub event : Event O P C R
    pub next : slice_get (log_of entry.object run) (placed entry.object) ≡ Some event
    pub is_by : event.cpu ≡ by
    pub other : (s : Steps O P C R) → entry.done ≡ done.Steps s → by ≢ cpu
