-- The keys of a settings' table, and numbers behind them.
use Rattle.std.specs.{Prelude.{ℕ, pos, nat_abs, int_le, suc, ◌&&◌, true, if◌then◌else◌, Bool, List, Result, Ok, Err, codes}, List.list_any, Option.option_map_or, Str.bytes_eq}
use Rattle.toml.specs.Data.{Data, Items, no_items, item, Members, no_members, member, get_member, as_integer}
use Rattle.scripts.specs.{declared.settings.fault.BadSettings.BadSettings, declared.settings.fault.Cause.Cause, declared.settings.fault.Cause.TheVariants.{Missing, WrongType, OutOfRange, Unknown}, declared.settings.fault.SettingsPlace.SettingsPlace, declared.settings.fault.SettingsKey.SettingsKey}
use Rattle.record_lines.specs.Then.{◌>>=◌}
use Rattle.scripts.specs.declared.settings.fault.SettingsKey.TheVariants as Key

-- a whole number from 1 to high
unfoldable pub number_from : ℕ → Data → Result ℕ Cause
number_from high d = option_map_or (λ z. if int_le (pos 1) z && int_le z (pos high) then Ok (nat_abs z) else Err OutOfRange) (as_integer d) (Err WrongType)

-- how many items
abbrev pub count_items : Items → ℕ
count_items no_items = 0
count_items (item d ds) = suc (count_items ds)

-- the key as users write it
abbrev pub key_word : SettingsKey → List ℕ
key_word Key.Text = codes "text"
key_word Key.Cpus = codes "cpus"
key_word Key.Object = codes "object"
key_word Key.Name = codes "name"
key_word Key.Kind = codes "kind"
key_word Key.Lock = codes "lock"
key_word Key.Events = codes "events"
key_word Key.Threads = codes "threads"
key_word Key.Channels = codes "channels"
key_word Key.Pages = codes "pages"
key_word Key.Quotas = codes "quotas"
key_word Key.Bytes = codes "bytes"
key_word Key.Other = codes "other"

-- a cause is a fault of that key, at that place
unfoldable pub at_key : {X : Type 0} → SettingsPlace → SettingsKey → Result X Cause → Result X BadSettings
at_key place key (Ok x) = Ok x
at_key place key (Err cause) = Err (record { place = place; key = key; cause = cause })

-- the value of the key
unfoldable pub find_key : SettingsPlace → SettingsKey → Members → Result Data BadSettings
find_key place key ms = at_key place key (option_map_or Ok (get_member (key_word key) ms) (Err Missing))

-- the value of the key, read so; a cause is a fault of that key, at that place
unfoldable pub key_in : {X : Type 0} → SettingsPlace → SettingsKey → (Data → Result X Cause) → Members → Result X BadSettings
key_in place key read ms = find_key place key ms >>= λ d. at_key place key (read d)

-- the value of the key, read so, or another value where there is no such key
unfoldable pub key_or : {X : Type 0} → SettingsPlace → SettingsKey → (Data → Result X Cause) → X → Members → Result X BadSettings
key_or place key read other ms = option_map_or (λ d. at_key place key (read d)) (get_member (key_word key) ms) (Ok other)

-- each key is one of these
unfoldable pub has_only : List SettingsKey → Members → Bool
has_only keys no_members = true
has_only keys (member k d ms) = list_any (λ key. bytes_eq (key_word key) k) keys && has_only keys ms

-- a key that isn't of this place
abbrev pub unknown_key : SettingsPlace → BadSettings
unknown_key place = record { place = place; key = Key.Other; cause = Unknown }
