-- What is read of the inputs of a command: settings, scripts, a schedule or a record, and why one is refused.
use Rattle.std.specs.Prelude.{ℕ, List, Option, Some}
use Rattle.kernel_object.specs.KernelTypes.{KernelTodo}
use Rattle.program.specs.{Inputs.Reads, declared.refusal.Refusal.Refusal}
use Rattle.records.specs.{RecordFaults.{IsBadLine, IsWhole}, RecordRanges.Record, Settings.Settings}
use Rattle.scripts.specs.{ScheduleText.{IsFirstBadWord, IsSchedule}, ScriptText.{AreScripts, IsFirstBad}, SettingsSources.{IsFaultOfSettings, SpellsShortSettings}}
use Rattle.program.specs.declared.refusal.Refusal.TheVariants as refusal

module _ (held : Option (List ℕ) → Option (List ℕ)) where
  -- the settings under that name
  abbrev pub SpellsSettingsOf : List ℕ → Settings → Type 0
  SpellsSettingsOf name given = (text : List ℕ) × Reads held (Some name) text × SpellsShortSettings text given

  -- scripts, under that name, on the objects of these settings
  abbrev pub SpellsScriptsOf : Option (List ℕ) → Settings → List (List KernelTodo) → Type 0
  SpellsScriptsOf name given asked = (text : List ℕ) × Reads held name text × AreScripts given text asked

  -- the steps of the schedule under that name, for so many CPUs
  abbrev pub SpellsScheduleOf : List ℕ → ℕ → List ℕ → Type 0
  SpellsScheduleOf name cpus steps = (text : List ℕ) × Reads held (Some name) text × IsSchedule cpus text steps

  -- the record under that name
  abbrev pub SpellsRecordOf : Option (List ℕ) → Record → Type 0
  SpellsRecordOf name of = (text : List ℕ) × Reads held name text × IsWhole text of

  -- why the settings under that name are refused: for their first fault, or for want of memory or of the text
  abbrev pub RefusesSettings : List ℕ → Refusal → Type 0
  RefusesSettings name refusal.OutOfMemory = Unit {0}
  RefusesSettings name refusal.ReadFailed = Unit {0}
  RefusesSettings name (refusal.BadSettings bad) = (text : List ℕ) × Reads held (Some name) text × IsFaultOfSettings text bad
  RefusesSettings name _ = ⊥

  -- the same of scripts, for the first line that can't come
  abbrev pub RefusesScripts : Option (List ℕ) → Settings → Refusal → Type 0
  RefusesScripts name given refusal.OutOfMemory = Unit {0}
  RefusesScripts name given refusal.ReadFailed = Unit {0}
  RefusesScripts name given (refusal.BadScripts n) = (text : List ℕ) × Reads held name text × IsFirstBad given text n
  RefusesScripts name given _ = ⊥

  -- the same of a schedule, for the first word that can't come
  abbrev pub RefusesSchedule : List ℕ → ℕ → Refusal → Type 0
  RefusesSchedule name cpus refusal.OutOfMemory = Unit {0}
  RefusesSchedule name cpus refusal.ReadFailed = Unit {0}
  RefusesSchedule name cpus (refusal.BadSchedule n) = (text : List ℕ) × Reads held (Some name) text × IsFirstBadWord cpus text n
  RefusesSchedule name cpus _ = ⊥

  -- the same of a record, for the first line with which no record goes on
  abbrev pub RefusesRecord : Option (List ℕ) → Refusal → Type 0
  RefusesRecord name refusal.OutOfMemory = Unit {0}
  RefusesRecord name refusal.ReadFailed = Unit {0}
  RefusesRecord name (refusal.BadRecord n) = (text : List ℕ) × Reads held name text × IsBadLine text n
  RefusesRecord name _ = ⊥
