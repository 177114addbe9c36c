-- Runs of scripts under settings.
use Rattle.std.specs.{Prelude.{◌≡◌, ◌<◌, ◌≤◌, ◌^◌, ℕ, List, map, length}, List.{AllByRecursion, AllZip}}
use Rattle.event_log.specs.{Entries.asked_of, Log.Begins}
use Rattle.sound_run.specs.Sound.{Opened}
use Rattle.kernel_object.specs.{declared.call.KParams.KParams, KernelTypes.{KernelEntry, KernelTodo, KernelRun}}
use Rattle.records.specs.{declared.record.TheConstants.MOST_ENTRIES, RecordRanges.TodoFits, Settings.Settings}

-- what the objects of the settings are opened with
abbrev pub opened_of : Settings → List (Opened KParams)
opened_of settings = map (λ o. record { params = o.params; limit = o.events }) settings.objects

-- each CPU's transcript asks for its script
abbrev pub AsksFor : List (List KernelTodo) → KernelRun → Type 0
AsksFor scripts run = map (λ entries. map asked_of entries) run.transcripts ≡ scripts

-- each CPU's transcript asks for a beginning of its script
abbrev pub AsksFirst : List (List KernelTodo) → KernelRun → Type 0
AsksFirst scripts run = AllZip (λ entries script. Begins (map asked_of entries) script) run.transcripts scripts

-- what was asked is in its ranges, and the looks were counted
pub record EntryAsks (objects : ℕ) (e : KernelEntry) : Type 0 where
  pub todo : TodoFits objects (asked_of e)
  pub looks : e.looks < 2 ^ 64

-- at most 10,000 such entries
abbrev pub TranscriptAsks : ℕ → List KernelEntry → Type 0
TranscriptAsks objects entries = (length entries ≤ MOST_ENTRIES) × AllByRecursion (EntryAsks objects) entries
