-- A CPU's transcript against the logs.
use Rattle.std.specs.Prelude.{◌≡◌, ℕ, ◌<◌, List, [], map, Some, slice_get, unwrap_or}
use Rattle.event_log.specs.{declared.object.SeqObject.Ghosts, declared.event.Event.Event, declared.entry.Entry.Entry}
use Rattle.sound_run.specs.Sound.{Opened}
use Rattle.auditor.specs.{declared.opened_object.OpenedObject.OpenedObject, Faults.done_before, Claims.IsRight, Terms.Terms}

module _ {O P C R : Type 0} where
  -- what an object is judged by
  abbrev pub judged_by : OpenedObject O P C R → Opened P
  judged_by t = record { params = t.params; limit = t.limit }

  -- what the objects are judged by
  abbrev pub opened_by : List (OpenedObject O P C R) → List (Opened P)
  opened_by opened_objects = map judged_by opened_objects

  -- the log of that object
  abbrev pub log_in : ℕ → List (List (Event O P C R)) → List (Event O P C R)
  log_in x logs = unwrap_or (slice_get logs x) []

module _ {T O P C R : Type 0} (meaning : Ghosts O P C R) (terms : List (Terms P T)) (logs : List (List (Event O P C R))) (cpu : ℕ) (transcript : List (Entry O P C R)) where
  -- entry n is as it must be
  pub record IsRightAt (n : ℕ) (e : Entry O P C R) : Type 0 where
    pub opened : Terms P T
    pub object : slice_get terms e.object ≡ Some opened
    pub right : IsRight meaning cpu opened.limit (log_in e.object logs) (done_before e.object n transcript) e.asked e.done

  -- the first n entries are as they must be
  abbrev pub AreRightBefore : ℕ → Type 0
  AreRightBefore n = (i : ℕ) (e : Entry O P C R) → i < n → slice_get transcript i ≡ Some e → IsRightAt i e
