-- What has a text of a form: the runs whose numbers are in their ranges, and whose replies the form has words for.
use Rattle.std.specs.{Prelude.{◌≡◌, ◌<◌, ◌≤◌, ◌^◌, ℕ, true, List, length}, List.{list_all, AllByRecursion}}
use Rattle.event_log.specs.{declared.event.TheConstants.MOST_CALLS, declared.logged.TheConstants.MOST_EVENTS}
use Rattle.kernel_object.specs.KernelTypes.{KernelEvent, KernelEntry, KernelRun, KernelTodo}
use Rattle.kernel_words.specs.{declared.form.Form.Form, declared.form.TheConstants.WRITTEN, Forms.{has_steps, has_done}, Ranges.{call_fits, StepsFit, DoneFits}}
use Rattle.records.specs.{declared.record.TheConstants.MOST_ENTRIES, Settings.{Settings, SettingsFitIn}}

-- an event of one of so many CPUs
pub record EventFits (form : Form) (cpus : ℕ) (e : KernelEvent) : Type 0 where
  pub cpu : e.cpu < cpus
  pub steps : StepsFit e.steps.list.items
  pub expressed : has_steps form e.steps.list.items ≡ true

-- an entry on one of so many objects
pub record EntryFits (form : Form) (objects : ℕ) (e : KernelEntry) : Type 0 where
  pub object : e.object < objects
  pub looks : e.looks < 2 ^ 64
  pub some : 0 < length e.asked.items
  pub few : length e.asked.items ≤ MOST_CALLS
  pub calls : list_all call_fits e.asked.items ≡ true
  pub done : DoneFits e.done
  pub expressed : has_done form e.done ≡ true

-- a log of at most 65,536 events
abbrev pub LogFits : Form → ℕ → List KernelEvent → Type 0
LogFits form cpus log = (length log ≤ MOST_EVENTS) × AllByRecursion (EventFits form cpus) log

-- a transcript of at most 10,000 entries
abbrev pub TranscriptFits : Form → ℕ → List KernelEntry → Type 0
TranscriptFits form objects entries = (length entries ≤ MOST_ENTRIES) × AllByRecursion (EntryFits form objects) entries

-- a log for each object of the settings, and a transcript for each CPU
pub record RunFitsIn (form : Form) (settings : Settings) (run : KernelRun) : Type 0 where
  pub log_count : length run.logs ≡ length settings.objects
  pub logs : AllByRecursion (LogFits form settings.cpus) run.logs
  pub transcript_count : length run.transcripts ≡ settings.cpus
  pub transcripts : AllByRecursion (TranscriptFits form (length settings.objects)) run.transcripts

-- within all limits
abbrev pub RunFits : Settings → KernelRun → Type 0
RunFits settings run = RunFitsIn WRITTEN settings run

-- what was set, and what was done
pub record Record : Type 0 where
  pub settings : Settings
  pub run : KernelRun

-- a record that has a text of that form
abbrev pub RecordFitsIn : Form → Record → Type 0
RecordFitsIn form r = SettingsFitIn form r.settings × RunFitsIn form r.settings r.run

-- a record within all limits: it has a text of record 2
abbrev pub RecordFits : Record → Type 0
RecordFits r = RecordFitsIn WRITTEN r

-- 1 to 8 calls, in their ranges, on one of so many objects
pub record TodoFits (objects : ℕ) (todo : KernelTodo) : Type 0 where
  pub object : todo.object < objects
  pub some : 0 < length todo.calls.items
  pub few : length todo.calls.items ≤ MOST_CALLS
  pub calls : list_all call_fits todo.calls.items ≡ true
