-- The settings of a run: how many CPUs, and which objects behind which locks.
use Rattle.std.specs.{Prelude.{ℕ, ◌≡◌, ◌≤◌, ◌<◌, true, List, [], ◌∷◌, length, codes}, List.{slice_get, AllByRecursion}, Option.option_map_or}
use Rattle.event_log.specs.declared.logged.TheConstants.{MOST_EVENTS}
use Rattle.sound_run.specs.{declared.lock_kind.LockKind.LockKind, declared.lock_kind.LockKind.TheVariants.Ticket, declared.limits.TheConstants.MOST_CELLS}
use Rattle.kernel_object.specs.{declared.call.KParams.KParams, declared.call.KParams.TheVariants.Queue, Kernel.kernel_in_range}
use Rattle.kernel_words.specs.{declared.form.Form.Form, declared.form.TheConstants.WRITTEN, Forms.{most_cpus, ExpressesParams}}
use Rattle.record_lines.specs.Names.{is_name}

-- an object's name, its lock, the most events of its log, and what it is opened with
pub record ObjectSettings : Type 0 where
  pub name : List ℕ
  pub lock : LockKind
  pub events : ℕ
  pub params : KParams

-- the number of CPUs, and the objects
pub record Settings : Type 0 where
  pub cpus : ℕ
  pub objects : List ObjectSettings

-- the name of the object at that place, from 0
abbrev pub name_at : Settings → ℕ → List ℕ
name_at settings place = option_map_or (λ o. o.name) (slice_get settings.objects place) []

-- each object is found by its name
abbrev pub NamesDiffer : Settings → Type 0
NamesDiffer settings = (i j : ℕ) → i < length settings.objects → j < length settings.objects → name_at settings i ≡ name_at settings j → i ≡ j

-- the object is within all limits, and the form expresses its parameters
pub record ObjectFits (form : Form) (o : ObjectSettings) : Type 0 where
  pub name : is_name o.name ≡ true
  pub events : (1 ≤ o.events) × (o.events ≤ MOST_EVENTS)
  pub params : kernel_in_range o.params ≡ true
  pub expressed : ExpressesParams form o.params

-- settings within all limits of the form
pub record SettingsFitIn (form : Form) (s : Settings) : Type 0 where
  pub cpus : (1 ≤ s.cpus) × (s.cpus ≤ most_cpus form)
  pub count : (1 ≤ length s.objects) × (length s.objects ≤ MOST_CELLS)
  pub each : AllByRecursion (ObjectFits form) s.objects
  pub names : NamesDiffer s

-- settings within all limits: those of record 2, which expresses all
abbrev pub SettingsFit : Settings → Type 0
SettingsFit s = SettingsFitIn WRITTEN s

-- two CPUs, and one queue of 8 threads behind a ticket lock, with at most 100 events
abbrev pub built_in_settings : Settings
built_in_settings = record { cpus = 2; objects = record { name = codes "q0"; lock = Ticket; events = 100; params = Queue 8 } ∷ [] }
