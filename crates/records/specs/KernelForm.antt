-- The lines of records 1 and 2, as a form of records.
use Rattle.std.specs.{Prelude.{ℕ, ◌≡◌, ◌<◌, ◌≤◌, nat_lt, if◌then◌else◌, List, [], ◌∷◌, ◌++◌, map, Option, Some, None, Bool, true, false, codes, decimal, length}, List.AllByRecursion}
use Rattle.std.proofs.Common.{arith}
use Rattle.event_log.specs.declared.logged.TheConstants.{MOST_EVENTS}
use Rattle.sound_run.specs.declared.limits.TheConstants.{MOST_CELLS}
use Rattle.kernel_object.specs.{declared.call.KCall.KCall, KernelTypes.{KernelEntry, KernelStep}}
use Rattle.kernel_words.specs.{declared.form.Form.Form, declared.form.TheConstants.WRITTEN, Forms.{version, most_cpus}}
use Rattle.record_lines.specs.{Reading.{◌>>=◌, words}, LineParts.{fixed_at, head_at}, Words.{NoEnd, sentence}}
use Rattle.records.specs.{declared.record.TheConstants.MOST_ENTRIES, declared.record.kernel_head.HeadNext.HeadNext, declared.record.kernel_head.HeadNext.TheVariants.{First, Cpus, Count, Object, Whole}, RecordReading.{form_at, new_object_at}, RecordText.{object_words, head_lines}, Settings.{Settings, ObjectSettings, ObjectFits, NamesDiffer, SettingsFitIn, name_at}, StepTexts.{SpellsTail, entry_of}}

-- which line of a head can come next, the form, the settings, and how many objects were announced
pub record Head : Type 0 where
  pub awaits : HeadNext
  pub form : Form
  pub cpus : ℕ
  pub count : ℕ
  pub objects : List ObjectSettings

-- nothing was read (the form is known behind the first line)
abbrev pub no_head : Head
no_head = record { awaits = First; form = WRITTEN; cpus = 0; count = 0; objects = [] }

-- the settings that it says
abbrev pub settings_in : Head → Settings
settings_in h = record { cpus = h.cpus; objects = h.objects }

-- the whole head of settings
abbrev pub head_of : Form → Settings → Head
head_of form settings = record { awaits = Whole; form = form; cpus = settings.cpus; count = 0; objects = settings.objects }

-- behind an object: others, or the end of the head
unfoldable pub behind_object : Head → Head
behind_object h = if nat_lt (length h.objects) h.count then h else record h { awaits = Whole; count = 0 }

-- behind a line of these words, if it can come there
unfoldable pub behind_head_at : HeadNext → Head → List (List ℕ) → Option Head
behind_head_at First h ws = form_at ws >>= λ form. Some (record h { awaits = Cpus; form = form })
behind_head_at Cpus h ws = head_at (codes "cpus" ∷ []) 1 (most_cpus h.form) ws >>= λ n. Some (record h { awaits = Count; cpus = n })
behind_head_at Count h ws = head_at (codes "objects" ∷ []) 1 MOST_CELLS ws >>= λ n. Some (record h { awaits = Object; count = n })
behind_head_at Object h ws = new_object_at h.form h.objects ws >>= λ o. Some (behind_object (record h { objects = h.objects ++ o ∷ [] }))
behind_head_at Whole h ws = None

-- the head after a line more
abbrev pub head_after : Head → List ℕ → Option Head
head_after h line = behind_head_at h.awaits h (words line)

-- no line comes
abbrev pub is_whole_at : HeadNext → Bool
is_whole_at First = false
is_whole_at Cpus = false
is_whole_at Count = false
is_whole_at Object = false
is_whole_at Whole = true

-- objects are being read
pub record ObjectsRead (h : Head) : Type 0 where
  pub cpus : (1 ≤ h.cpus) × (h.cpus ≤ most_cpus h.form)
  pub more : length h.objects < h.count
  pub few : h.count ≤ MOST_CELLS
  pub each : AllByRecursion (ObjectFits h.form) h.objects
  pub names : NamesDiffer (settings_in h)

-- what was read is within its limits, where that line can come next
abbrev pub PartAt : HeadNext → Head → Type 0
PartAt First h = h ≡ no_head
PartAt Cpus h = h ≡ record no_head { awaits = Cpus; form = h.form }
PartAt Count h = ((1 ≤ h.cpus) × (h.cpus ≤ most_cpus h.form)) × (h ≡ record no_head { awaits = Count; form = h.form; cpus = h.cpus })
PartAt Object h = ObjectsRead h
PartAt Whole h = ⊥

-- so is a whole head
pub record HeadFits (h : Head) : Type 0 where
  pub is : h ≡ head_of h.form (settings_in h)
  pub settings : SettingsFitIn h.form (settings_in h)

-- the lines that were taken, where that line can come next
abbrev pub words_at : HeadNext → Head → List (List (List ℕ))
words_at First h = []
words_at Cpus h = (codes "record" ∷ version h.form ∷ []) ∷ []
words_at Count h = (codes "record" ∷ version h.form ∷ []) ∷ (codes "cpus" ∷ decimal h.cpus ∷ []) ∷ []
words_at Object h = (codes "record" ∷ version h.form ∷ []) ∷ (codes "cpus" ∷ decimal h.cpus ∷ []) ∷ (codes "objects" ∷ decimal h.count ∷ []) ∷ map (object_words h.form) h.objects
words_at Whole h = head_lines h.form (settings_in h)

abbrev pub head_text : Head → List (List ℕ)
head_text h = map sentence (words_at h.awaits h)

-- the head of that object's log, and of that CPU's transcript, before the number of items
abbrev pub log_keys : Head → ℕ → List (List ℕ)
log_keys h i = codes "log" ∷ name_at (settings_in h) i ∷ []

abbrev pub cpu_keys : ℕ → List (List ℕ)
cpu_keys i = codes "cpu" ∷ decimal i ∷ []

-- how many events that object's log has, and how many entries that CPU's transcript
abbrev pub log_line_at : Head → ℕ → List ℕ → Option ℕ
log_line_at h i line = head_at (log_keys h i) 0 MOST_EVENTS (words line)

abbrev pub cpu_line_at : ℕ → List ℕ → Option ℕ
cpu_line_at i line = head_at (cpu_keys i) 0 MOST_ENTRIES (words line)

-- the line ends the record
abbrev pub is_there : Option (Unit {0}) → Bool
is_there (Some x) = true
is_there None = false

abbrev pub ends_at : List ℕ → Bool
ends_at line = is_there (fixed_at (codes "end" ∷ []) (words line))

-- the text behind the looks spells the entry
abbrev pub TailSpellsEntry : ℕ → ℕ → List ℕ → KernelEntry → Type 0
TailSpellsEntry object looks text e = (asked : List KCall) × (steps : List KernelStep) × SpellsTail text asked steps × (e ≡ entry_of object looks asked steps)

-- a line of at most 1,024 bytes
abbrev pub IsRecordLine : List ℕ → Type 0
IsRecordLine line = NoEnd line × (length line ≤ 1024)

-- a whole head names objects and CPUs
pub some_in : (h : Head) → HeadFits h → (0 < length h.objects) × (0 < h.cpus)
some_in h fit = let cpus = fit.settings.cpus.0 in let count = fit.settings.count.0 in (omega (arith, count), omega (arith, cpus))

-- events and entries can be counted
pub few_items : (MOST_EVENTS < 18446744073709551616) × (MOST_ENTRIES < 18446744073709551616)
few_items = (omega arith, omega arith)
