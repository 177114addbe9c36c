-- One order over all entries of a run.
use Rattle.std.specs.Prelude.{◌≡◌, ◌==◌, ℕ, zero, suc, if◌then◌else◌, List, [], ◌∷◌, length, map, filter, Option, Some, None, slice_get}
use Rattle.event_log.specs.{declared.event.Event.Event, declared.entry.Done.Done, declared.entry.Entry.Entry, declared.entry.Run.Run}
use Rattle.sound_run.specs.{declared.place.Place.Place, Sound.{transcript_of, log_of}}
use Rattle.event_log.specs.declared.entry.Done.TheVariants as done

-- so many numbers, from the given one on
abbrev pub numbers : ℕ → ℕ → List ℕ
numbers from zero = []
numbers from (suc n) = from ∷ numbers (suc from) n

-- the entries of that CPU among the places, in order
abbrev pub entries_of : ℕ → List Place → List ℕ
entries_of cpu places = map (λ p. p.entry) (filter (λ p. p.cpu == cpu) places)

-- how many entries of that CPU are among the places
abbrev pub entries_in : List Place → ℕ → ℕ
entries_in places cpu = length (entries_of cpu places)

module _ {O P C R : Type 0} where
  -- the event of an entry that was done, before others
  abbrev pub with_event : ℕ → Done O P C R → List (Event O P C R) → List (Event O P C R)
  with_event cpu (done.Steps s) rest = record { cpu = cpu; steps = s } ∷ rest
  with_event cpu done.NoRoom rest = rest

  -- the event that an entry added to object x, if there is one, before others
  abbrev pub with_entry : ℕ → ℕ → Option (Entry O P C R) → List (Event O P C R) → List (Event O P C R)
  with_entry x cpu None rest = rest
  with_entry x cpu (Some e) rest = if e.object == x then with_event cpu e.done rest else rest

module _ {O P C R : Type 0} (run : Run O P C R) where
  -- the entry at a place
  abbrev pub entry_at : Place → Option (Entry O P C R)
  entry_at p = slice_get (transcript_of p.cpu run) p.entry

  -- the events on object x, in the order of the places
  abbrev pub events_on : ℕ → List Place → List (Event O P C R)
  events_on x [] = []
  events_on x (p ∷ places) = with_entry x p.cpu (entry_at p) (events_on x places)

  -- how many events on object x there are among the places
  abbrev pub events_in : List Place → ℕ → ℕ
  events_in places x = length (events_on x places)

  -- behind an entry without room there is no event on its object
  abbrev pub NoneBehindFull : List Place → Type 0
  NoneBehindFull [] = Unit {0}
  NoneBehindFull (p ∷ places) = ((e : Entry O P C R) → entry_at p ≡ Some e → e.done ≡ done.NoRoom → events_on e.object places ≡ []) × NoneBehindFull places

  -- every entry once, those of each CPU in their order, those done on each object in its log's order, and those without
  -- room behind all that were done on their object
  pub record IsOrder (places : List Place) : Type 0 where
    pub entries : (cpu : ℕ) → entries_of cpu places ≡ numbers 0 (length (transcript_of cpu run))
    pub events : (x : ℕ) → events_on x places ≡ log_of x run
    pub full : NoneBehindFull places

  -- there is an order of the run
  pub record HasOrder : Type 0 where
    pub places : List Place
    pub order : IsOrder places
