-- Which settings a TOML text spells, and the first fault of one that spells none.
use Rattle.std.specs.{Prelude.{◌≡◌, ℕ, ◌+◌, ◌&&◌, nat_le, if◌then◌else◌, List, [], ◌∷◌, ◌++◌, length, Option, None, Result, Ok, Err, IsUtf8}, List.list_any, Option.option_map_or, Str.bytes_eq}
use Rattle.toml.specs.{Parse.parse_document, Data.{Data, Items, no_items, item, Members, as_str, as_array, as_table}}
use Rattle.event_log.specs.declared.logged.TheConstants.{MOST_EVENTS}
use Rattle.sound_run.specs.{declared.limits.TheConstants.{MOST_CPUS, MOST_CELLS}, declared.lock_kind.LockKind.LockKind}
use Rattle.kernel_object.specs.{declared.call.KParams.KParams, declared.kind.Kind.Kind, Kinds.All.{by_kind, params_of}, KindWords.kind_of}
use Rattle.scripts.specs.{declared.settings.fault.BadSettings.BadSettings, declared.settings.fault.SettingsFault.SettingsFault, declared.settings.fault.SettingsFault.TheVariants.{OutOfMemory, Refused}, declared.settings.fault.Cause.Cause, declared.settings.fault.Cause.TheVariants.{NotToml, WrongType, OutOfRange, BadWord, Repeated}, declared.settings.fault.SettingsPlace.SettingsPlace, declared.settings.fault.SettingsPlace.TheVariants.{Top, Object}, declared.settings.fault.SettingsKey.SettingsKey, KindKeys.All.keys_by, SettingsKeys.{number_from, count_items, key_in, has_only, unknown_key}}
use Rattle.kernel_words.specs.Parameters.{lock_of}
use Rattle.records.specs.Settings.{Settings, ObjectSettings}
use Rattle.record_lines.specs.{Names.is_name, Then.◌>>=◌}
use Rattle.scripts.specs.declared.settings.fault.SettingsKey.TheVariants as Key

-- ---- values

-- a name, which no earlier object has
unfoldable pub name_from : List ObjectSettings → Data → Result (List ℕ) Cause
name_from earlier d = option_map_or (λ s. if is_name s then (if list_any (λ o. bytes_eq o.name s) earlier then Err Repeated else Ok s) else Err BadWord) (as_str d) (Err WrongType)

-- the kind of an object
unfoldable pub kind_from : Data → Result Kind Cause
kind_from d = option_map_or (λ s. option_map_or Ok (kind_of s) (Err BadWord)) (as_str d) (Err WrongType)

-- the kind of a lock
unfoldable pub lock_from : Data → Result LockKind Cause
lock_from d = option_map_or (λ s. option_map_or Ok (lock_of s) (Err BadWord)) (as_str d) (Err WrongType)

-- 1 to 16 items
unfoldable pub items_from : Data → Result Items Cause
items_from d = option_map_or (λ ds. if nat_le 1 (count_items ds) && nat_le (count_items ds) MOST_CELLS then Ok ds else Err OutOfRange) (as_array d) (Err WrongType)

-- ---- objects

-- the parameters of the kind
abbrev pub params_by : SettingsPlace → Members → Kind → Result KParams BadSettings
params_by place ms kind = (keys_by kind).params_in place ms >>= λ p. Ok (params_of kind p)

-- the parameters of that kind
unfoldable pub params_in : SettingsPlace → Kind → Members → Result KParams BadSettings
params_in place kind ms = by_kind (params_by place ms) kind

-- the keys of every object, and those of its kind
abbrev pub keys_of : Kind → List SettingsKey
keys_of kind = Key.Name ∷ Key.Kind ∷ Key.Lock ∷ Key.Events ∷ (keys_by kind).keys

-- an object's table, behind earlier objects
unfoldable pub object_in : SettingsPlace → List ObjectSettings → Members → Result ObjectSettings BadSettings
object_in place earlier ms = do
  name ← key_in place Key.Name (name_from earlier) ms
  kind ← key_in place Key.Kind kind_from ms
  lock ← key_in place Key.Lock lock_from ms
  events ← key_in place Key.Events (number_from MOST_EVENTS) ms
  params ← params_in place kind ms
  if has_only (keys_of kind) ms then Ok (record { name = name; lock = lock; events = events; params = params }) else Err (unknown_key place)

-- an object is a table
unfoldable pub object_from : List ObjectSettings → Data → Result ObjectSettings BadSettings
object_from earlier d = option_map_or (object_in (Object (length earlier + 1)) earlier) (as_table d) (Err (record { place = Object (length earlier + 1); key = Key.Object; cause = WrongType }))

-- the objects of the items, behind earlier ones
unfoldable pub objects_from : List ObjectSettings → Items → Result (List ObjectSettings) BadSettings
objects_from earlier no_items = Ok earlier
objects_from earlier (item d ds) = object_from earlier d >>= λ o. objects_from (earlier ++ o ∷ []) ds

-- ---- settings

-- the settings of a table
unfoldable pub settings_in : Members → Result Settings BadSettings
settings_in ms = do
  cpus ← key_in Top Key.Cpus (number_from MOST_CPUS) ms
  items ← key_in Top Key.Object items_from ms
  objects ← objects_from [] items
  if has_only (Key.Cpus ∷ Key.Object ∷ []) ms then Ok (record { cpus = cpus; objects = objects }) else Err (unknown_key Top)

-- text that is no table is refused as a whole
abbrev pub not_toml : BadSettings
not_toml = record { place = Top; key = Key.Text; cause = NotToml }

-- the settings of what was read as TOML
unfoldable pub settings_of : Option Members → Result Settings BadSettings
settings_of read = option_map_or settings_in read (Err not_toml)

-- the bytes are UTF-8, and spell the settings
abbrev pub SpellsSettings : List ℕ → Settings → Type 0
SpellsSettings bytes settings = IsUtf8 bytes × (settings_of (parse_document bytes) ≡ Ok settings)

-- the first fault of the bytes
abbrev pub IsSettingsFault : List ℕ → BadSettings → Type 0
IsSettingsFault bytes fault = (IsUtf8 bytes → settings_of (parse_document bytes) ≡ Err fault) × ((IsUtf8 bytes → ⊥) → settings_of None ≡ Err fault)

-- the fault that is named is the first
abbrev pub NamesFirstFault : List ℕ → SettingsFault → Type 0
NamesFirstFault bytes OutOfMemory = Unit {0}
NamesFirstFault bytes (Refused fault) = IsSettingsFault bytes fault

-- what the answer says, if memory did not run out
abbrev pub Settles : {X : Type 0} → Result X SettingsFault → Result X BadSettings → Type 0
Settles (Ok x) expected = expected ≡ Ok x
Settles (Err OutOfMemory) expected = Unit {0}
Settles (Err (Refused fault)) expected = expected ≡ Err fault
