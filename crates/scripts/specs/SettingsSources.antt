-- The settings that the rest of a source spells, of which so many bytes are read at the most.
use Rattle.std.specs.Prelude.{ℕ, ◌≡◌, ◌<◌, ◌≤◌, ◌⊎◌, List, length, Option}
use Rattle.scripts.specs.{declared.settings.fault.BadSettings.BadSettings, declared.settings.fault.SettingsFault.SettingsFault, declared.settings.fault.SettingsFault.TheVariants.{OutOfMemory, Refused}, declared.settings.reading.TheConstants.MOST_SETTINGS_BYTES, SettingsText.{SpellsSettings, IsSettingsFault, not_toml}}
use Rattle.record_lines.specs.{declared.streams.feeding.SourceFault.SourceFault, declared.streams.feeding.SourceFault.TheVariants.{ReadFailed, Reported}, Sources.IsRest}
use Rattle.records.specs.Settings.{Settings}

-- a text that isn't too long spells the settings
abbrev pub SpellsShortSettings : List ℕ → Settings → Type 0
SpellsShortSettings text settings = (length text ≤ MOST_SETTINGS_BYTES) × SpellsSettings text settings

-- the first fault of a text; one that is too long is no TOML
abbrev pub IsFaultOfSettings : List ℕ → BadSettings → Type 0
IsFaultOfSettings text bad = ((length text ≤ MOST_SETTINGS_BYTES) × IsSettingsFault text bad) ⊎ ((MOST_SETTINGS_BYTES < length text) × (bad ≡ not_toml))

-- the rest of a source spells the settings
abbrev pub SpellsSettingsRest : Option (List ℕ) → Settings → Type 0
SpellsSettingsRest remaining settings = (text : List ℕ) × IsRest remaining text × SpellsShortSettings text settings

-- the fault that is named is the first of the rest of a source
abbrev pub NamesFirstFaultOfRest : Option (List ℕ) → SourceFault SettingsFault → Type 0
NamesFirstFaultOfRest remaining ReadFailed = Unit {0}
NamesFirstFaultOfRest remaining (Reported OutOfMemory) = Unit {0}
NamesFirstFaultOfRest remaining (Reported (Refused bad)) = (text : List ℕ) × IsRest remaining text × IsFaultOfSettings text bad
