-- The lines of record 3, as a form of records.
use Rattle.std.specs.{Prelude.{ℕ, ◌≡◌, ◌<◌, ◌≤◌, nat_lt, if◌then◌else◌, List, [], ◌∷◌, ◌++◌, map, Option, Some, None, Bool, true, false, length}, List.{AllByRecursion, list_any}, Option.option_map_or, Str.bytes_eq}
use Rattle.std.proofs.Common.{arith}
use Rattle.custom_records.specs.{declared.settings.TheConstants.{MOST_CUSTOM_CPUS, MOST_CUSTOM_OBJECTS}, Custom.{CustomStep, CustomEntry}, Said.Said, Writing.{custom_writing, custom_entry_of}, Ranges.{StepsFit, CustomSettingsFit, HeadFits as CustomHeadFits, Differ, most_lines}, Settings.{CustomSettings, CustomHead, names_of}, LineReading.{first_at, cpus_at, count_at, custom_object_at, refuses_at}, LineText.{first_words, cpus_words, count_words, custom_object_words}, declared.custom_head.CustomHeadNext.CustomHeadNext, declared.custom_head.CustomHeadNext.TheVariants.{First, Cpus, Count, Object, Refuses, Whole}, RecordText.custom_head_lines}
use Rattle.record_lines.specs.{StepTexts.SpellsTail, Reading.{◌>>=◌, words}, Words.sentence}

-- which line of a head can come next, how many objects were announced, and what was read
pub record Head : Type 0 where
  pub awaits : CustomHeadNext
  pub count : ℕ
  pub so_far : CustomHead

-- nothing of a head was read
abbrev pub no_custom_head : CustomHead
no_custom_head = record { cpus = 0; objects = []; refusing = [] }

abbrev pub no_head : Head
no_head = record { awaits = First; count = 0; so_far = no_custom_head }

-- the whole head
abbrev pub head_of : CustomHead → Head
head_of head = record { awaits = Whole; count = 0; so_far = head }

-- an object whose name is none of the earlier
unfoldable pub new_object_at : List CustomSettings → List (List ℕ) → Option CustomSettings
new_object_at earlier ws = option_map_or (λ o. if list_any (λ e. bytes_eq e.name o.name) earlier then None else Some o) (custom_object_at ws) None

-- behind an object: others, or the words that refuse
unfoldable pub behind_object : Head → Head
behind_object h = if nat_lt (length h.so_far.objects) h.count then h else record h { awaits = Refuses; count = 0 }

-- behind a line of these words, if it can come there
unfoldable pub behind_head_at : CustomHeadNext → Head → List (List ℕ) → Option Head
behind_head_at First h ws = first_at ws >>= λ u. Some (record h { awaits = Cpus })
behind_head_at Cpus h ws = cpus_at ws >>= λ n. Some (record h { awaits = Count; so_far = record h.so_far { cpus = n } })
behind_head_at Count h ws = count_at ws >>= λ n. Some (record h { awaits = Object; count = n })
behind_head_at Object h ws = new_object_at h.so_far.objects ws >>= λ o. Some (behind_object (record h { so_far = record h.so_far { objects = h.so_far.objects ++ o ∷ [] } }))
behind_head_at Refuses h ws = refuses_at ws >>= λ refusing. Some (record h { awaits = Whole; so_far = record h.so_far { refusing = refusing } })
behind_head_at Whole h ws = None

-- the head after a line more
abbrev pub head_after : Head → List ℕ → Option Head
head_after h line = behind_head_at h.awaits h (words line)

-- no line comes
abbrev pub is_whole_at : CustomHeadNext → Bool
is_whole_at First = false
is_whole_at Cpus = false
is_whole_at Count = false
is_whole_at Object = false
is_whole_at Refuses = false
is_whole_at Whole = true

-- objects are being read
pub record ObjectsRead (h : Head) : Type 0 where
  pub cpus : (1 ≤ h.so_far.cpus) × (h.so_far.cpus ≤ MOST_CUSTOM_CPUS)
  pub more : length h.so_far.objects < h.count
  pub few : h.count ≤ MOST_CUSTOM_OBJECTS
  pub each : AllByRecursion CustomSettingsFit h.so_far.objects
  pub names : Differ (names_of h.so_far)
  pub none : h.so_far.refusing ≡ []

-- all of them were
pub record ObjectsWhole (h : Head) : Type 0 where
  pub fit : CustomHeadFits h.so_far
  pub is : h ≡ record no_head { awaits = Refuses; so_far = record h.so_far { refusing = [] } }

-- what was read is within its limits, where that line can come next
abbrev pub PartAt : CustomHeadNext → Head → Type 0
PartAt First h = h ≡ no_head
PartAt Cpus h = h ≡ record no_head { awaits = Cpus }
PartAt Count h = ((1 ≤ h.so_far.cpus) × (h.so_far.cpus ≤ MOST_CUSTOM_CPUS)) × (h ≡ record no_head { awaits = Count; so_far = record no_custom_head { cpus = h.so_far.cpus } })
PartAt Object h = ObjectsRead h
PartAt Refuses h = ObjectsWhole h
PartAt Whole h = ⊥

-- so is a whole head
pub record HeadFits (h : Head) : Type 0 where
  pub is : h ≡ head_of h.so_far
  pub fit : CustomHeadFits h.so_far

-- the lines that were taken, where that line can come next
abbrev pub words_at : CustomHeadNext → Head → List (List (List ℕ))
words_at First h = []
words_at Cpus h = first_words ∷ []
words_at Count h = first_words ∷ cpus_words h.so_far.cpus ∷ []
words_at Object h = first_words ∷ cpus_words h.so_far.cpus ∷ count_words h.count ∷ map custom_object_words h.so_far.objects
words_at Refuses h = first_words ∷ cpus_words h.so_far.cpus ∷ count_words (length h.so_far.objects) ∷ map custom_object_words h.so_far.objects
words_at Whole h = custom_head_lines h.so_far

abbrev pub head_text : Head → List (List ℕ)
head_text h = map sentence (words_at h.awaits h)

-- a whole head names objects and CPUs
pub some_in : (h : Head) → HeadFits h → (0 < length h.so_far.objects) × (0 < h.so_far.cpus)
some_in h fit = let cpus = fit.fit.cpus.0 in let count = fit.fit.count.0 in (omega (arith, count), omega (arith, cpus))

-- events and entries can be counted
pub few_items : (most_lines < 18446744073709551616) × (most_lines < 18446744073709551616)
few_items = (omega arith, omega arith)

-- under that head, on that object, the text behind the looks spells the entry
abbrev pub TailSpellsEntry : CustomHead → ℕ → ℕ → List ℕ → CustomEntry → Type 0
TailSpellsEntry head object looks text e = (asked : List Said) × (steps : List CustomStep) × SpellsTail custom_writing text asked steps × StepsFit head steps × (e ≡ custom_entry_of object looks asked steps)
