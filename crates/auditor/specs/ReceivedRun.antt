-- What a judge has received so far, and how it grows.
use Rattle.std.specs.Prelude.{ℕ, List, [], ◌∷◌, ◌++◌, length, Option, Some, None, slice_get, ◌≡◌}
use Rattle.event_log.specs.{declared.event.Event.Event, declared.event.Step.Step, declared.entry.Done.Done, declared.entry.Done.TheVariants.Steps, declared.entry.Entry.Entry, declared.entry.Run.Run}
use Rattle.auditor.specs.Terms.{Terms}

-- how many CPUs and objects the run has; what the objects of the logs begun so far are judged by; how many events or entries
-- the part that is being received will have; the whole logs, the events of the next, the whole transcripts, the entries of the next
pub record ReceivedRun (T O P C R : Type 0) : Type 0 where
  pub cpus : ℕ
  pub objects : ℕ
  pub count : ℕ
  pub opened : List (Terms P T)
  pub logs : List (List (Event O P C R))
  pub events : List (Event O P C R)
  pub transcripts : List (List (Entry O P C R))
  pub entries : List (Entry O P C R)

module _ {O P C R : Type 0} where
  -- these steps were done
  abbrev pub done_by : List (Step O P C R) → Done O P C R
  done_by steps = Steps (record { list = record { items = steps } })

  -- an entry on the object whose steps were done
  abbrev pub done_entry : ℕ → ℕ → List C → List (Step O P C R) → Entry O P C R
  done_entry object looks asked steps = record { object = object; asked = record { items = asked }; done = done_by steps; looks = looks }

  -- the steps of the event at a place, or none
  abbrev pub steps_of : Option (Event O P C R) → List (Step O P C R)
  steps_of None = []
  steps_of (Some e) = e.steps.list.items

  abbrev pub items_at : List (Event O P C R) → ℕ → List (Step O P C R)
  items_at events at = steps_of (slice_get events at)

  -- the steps are those of an event of that log
  pub record IsStepsOf (logs : List (List (Event O P C R))) (object : ℕ) (steps : List (Step O P C R)) : Type 0 where
    pub log : List (Event O P C R)
    pub event : Event O P C R
    pub place : ℕ
    pub of_object : slice_get logs object ≡ Some log
    pub of_log : slice_get log place ≡ Some event
    pub same : event.steps.list.items ≡ steps

module _ {T O P C R : Type 0} where
  -- nothing yet
  abbrev pub nothing : ℕ → ℕ → ReceivedRun T O P C R
  nothing cpus objects = record { cpus = cpus; objects = objects; count = 0; opened = []; logs = []; events = []; transcripts = []; entries = [] }

  -- a log begins, of an object that was opened so
  abbrev pub log_begun : ReceivedRun T O P C R → Terms P T → ℕ → ReceivedRun T O P C R
  log_begun d t n = record d { opened = d.opened ++ t ∷ []; count = n }

  -- an event more
  abbrev pub event_received : ReceivedRun T O P C R → Event O P C R → ReceivedRun T O P C R
  event_received d e = record d { events = d.events ++ e ∷ [] }

  -- the log is whole
  abbrev pub log_ended : ReceivedRun T O P C R → ReceivedRun T O P C R
  log_ended d = record d { logs = d.logs ++ d.events ∷ []; events = []; count = 0 }

  -- a transcript begins
  abbrev pub transcript_begun : ReceivedRun T O P C R → ℕ → ReceivedRun T O P C R
  transcript_begun d n = record d { count = n }

  -- an entry more
  abbrev pub entry_received : ReceivedRun T O P C R → Entry O P C R → ReceivedRun T O P C R
  entry_received d e = record d { entries = d.entries ++ e ∷ [] }

  -- the transcript is whole
  abbrev pub transcript_ended : ReceivedRun T O P C R → ReceivedRun T O P C R
  transcript_ended d = record d { transcripts = d.transcripts ++ d.entries ∷ []; entries = []; count = 0 }

  -- a whole log more
  abbrev pub log_received : ReceivedRun T O P C R → Terms P T → List (Event O P C R) → ReceivedRun T O P C R
  log_received d t log = record d { opened = d.opened ++ t ∷ []; logs = d.logs ++ log ∷ []; events = []; count = 0 }

  -- a whole transcript more
  abbrev pub transcript_received : ReceivedRun T O P C R → List (Entry O P C R) → ReceivedRun T O P C R
  transcript_received d transcript = record d { transcripts = d.transcripts ++ transcript ∷ []; entries = []; count = 0 }

  -- the logs of a run, and no transcript
  abbrev pub logs_received : List (Terms P T) → Run O P C R → ReceivedRun T O P C R
  logs_received terms run = record { cpus = length run.transcripts; objects = length run.logs; count = 0; opened = terms; logs = run.logs; events = []; transcripts = []; entries = [] }

  -- a whole run
  abbrev pub run_received : List (Terms P T) → Run O P C R → ReceivedRun T O P C R
  run_received terms run = record { cpus = length run.transcripts; objects = length run.logs; count = 0; opened = terms; logs = run.logs; events = []; transcripts = run.transcripts; entries = [] }

  -- the run, once all is whole
  abbrev pub run_of : ReceivedRun T O P C R → Run O P C R
  run_of d = record { logs = d.logs; transcripts = d.transcripts }
