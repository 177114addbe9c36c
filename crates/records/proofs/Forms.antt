-- What a form can express, the form that is written can express too.
use Rattle.std.proofs.Common.{◌≡◌, ℕ, ◌≤◌, true, List, [], ◌∷◌, length, refl, arith}
use Rattle.std.specs.List.{AllByRecursion}
use Rattle.kernel_object.specs.{declared.call.KParams.KParams, KernelTypes.{KernelStep, KernelDone, KernelEvent, KernelEntry, KernelRun}}
use Rattle.kernel_words.specs.{declared.form.Form.Form, declared.form.Form.TheVariants.{One, Two}, declared.form.TheConstants.WRITTEN, Forms.{most_cpus, ExpressesParams, has_steps, has_done}}
use Rattle.records.specs.{RecordRanges.{Record, EventFits, EntryFits, LogFits, TranscriptFits, RunFits, RunFitsIn, RecordFits, RecordFitsIn}, Settings.{Settings, SettingsFit, SettingsFitIn, ObjectSettings, ObjectFits}}

-- ---- what holds of each form

cpus_written : (form : Form) → most_cpus form ≤ most_cpus WRITTEN
cpus_written One = omega arith
cpus_written Two = omega arith

params_written : (form : Form) (p : KParams) → ExpressesParams form p → ExpressesParams WRITTEN p
params_written form p expressed = tt

steps_written : (form : Form) (steps : List KernelStep) → has_steps form steps ≡ true → has_steps WRITTEN steps ≡ true
steps_written form steps expressed = refl

done_written : (form : Form) (d : KernelDone) → has_done form d ≡ true → has_done WRITTEN d ≡ true
done_written form d expressed = refl

-- ---- all else follows

-- what holds of each holds of each in another way
each_as : {A : Type 0} (P Q : A → Type 0) → ((x : A) → P x → Q x) → (xs : List A) → AllByRecursion P xs → AllByRecursion Q xs
each_as P Q turn [] all = tt
each_as P Q turn (x ∷ xs) all = (turn x all.0, each_as P Q turn xs all.1)

object_in_written : (form : Form) (o : ObjectSettings) → ObjectFits form o → ObjectFits WRITTEN o
object_in_written form o h = record { name = h.name; events = h.events; params = h.params; expressed = params_written form o.params h.expressed }

pub event_in_written : (form : Form) (cpus : ℕ) (e : KernelEvent) → EventFits form cpus e → EventFits WRITTEN cpus e
event_in_written form cpus e h = record { cpu = h.cpu; steps = h.steps; expressed = steps_written form e.steps.list.items h.expressed }

pub entry_in_written : (form : Form) (objects : ℕ) (e : KernelEntry) → EntryFits form objects e → EntryFits WRITTEN objects e
entry_in_written form objects e h = record { object = h.object; looks = h.looks; some = h.some; few = h.few; calls = h.calls; done = h.done; expressed = done_written form e.done h.expressed }

pub events_in_written : (form : Form) (cpus : ℕ) (events : List KernelEvent) → AllByRecursion (EventFits form cpus) events → AllByRecursion (EventFits WRITTEN cpus) events
events_in_written form cpus events h = each_as (EventFits form cpus) (EventFits WRITTEN cpus) (event_in_written form cpus) events h

pub entries_in_written : (form : Form) (objects : ℕ) (entries : List KernelEntry) → AllByRecursion (EntryFits form objects) entries → AllByRecursion (EntryFits WRITTEN objects) entries
entries_in_written form objects entries h = each_as (EntryFits form objects) (EntryFits WRITTEN objects) (entry_in_written form objects) entries h

pub logs_in_written : (form : Form) (cpus : ℕ) (logs : List (List KernelEvent)) → AllByRecursion (LogFits form cpus) logs → AllByRecursion (LogFits WRITTEN cpus) logs
logs_in_written form cpus logs h = each_as (LogFits form cpus) (LogFits WRITTEN cpus) (λ log fits. (fits.0, events_in_written form cpus log fits.1)) logs h

pub transcripts_in_written : (form : Form) (objects : ℕ) (ts : List (List KernelEntry)) → AllByRecursion (TranscriptFits form objects) ts → AllByRecursion (TranscriptFits WRITTEN objects) ts
transcripts_in_written form objects ts h = each_as (TranscriptFits form objects) (TranscriptFits WRITTEN objects) (λ entries fits. (fits.0, entries_in_written form objects entries fits.1)) ts h

pub settings_in_written : (form : Form) (s : Settings) → SettingsFitIn form s → SettingsFit s
settings_in_written form s h = let few = h.cpus.1 in record { cpus = (h.cpus.0, omega (arith, few, cpus_written form)); count = h.count; each = each_as (ObjectFits form) (ObjectFits WRITTEN) (object_in_written form) s.objects h.each; names = h.names }

run_in_written : (form : Form) (s : Settings) (run : KernelRun) → RunFitsIn form s run → RunFits s run
run_in_written form s run h = record {
  log_count = h.log_count;
  logs = logs_in_written form s.cpus run.logs h.logs;
  transcript_count = h.transcript_count;
  transcripts = transcripts_in_written form (length s.objects) run.transcripts h.transcripts;
}

pub record_in_written : (form : Form) (r : Record) → RecordFitsIn form r → RecordFits r
record_in_written form r h = (settings_in_written form r.settings h.0, run_in_written form r.settings r.run h.1)
