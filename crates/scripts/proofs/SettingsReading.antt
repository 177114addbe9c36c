-- Settings from a source.
use Rattle.std.proofs.Common.{ℕ, ◌<◌, ◌≤◌, inl, inr, List, length, length-append, Option, refl, arith}
use Rattle.std.specs.Io.KnownBytes.{Consumes}
use Rattle.scripts.specs.{declared.settings.fault.SettingsFault.SettingsFault, declared.settings.reading.TheConstants.MOST_SETTINGS_BYTES, SettingsSources.{IsFaultOfSettings, NamesFirstFaultOfRest}, SettingsText.{NamesFirstFault, not_toml}}
use Rattle.record_lines.specs.{declared.streams.feeding.SourceFault.TheVariants.Reported, Sources.IsRest}
use Rattle.record_lines.proofs.Consuming.{of_rest}
use Rattle.scripts.specs.declared.settings.fault.SettingsFault.TheVariants as fault

-- ---- bytes

-- ---- settings

-- a text's refusal
pub settings_names : (old : Option (List ℕ)) (text : List ℕ) (cause : SettingsFault) → IsRest old text → length text ≤ MOST_SETTINGS_BYTES → NamesFirstFault text cause → NamesFirstFaultOfRest old (Reported cause)
settings_names old text fault.OutOfMemory rest few named = tt
settings_names old text (fault.Refused bad) rest few named = (text, rest, inl (few, named))

-- a text that is too long
pub long_refused : (old now : Option (List ℕ)) (bytes : List ℕ) → Consumes old now bytes → MOST_SETTINGS_BYTES < length bytes → (text : List ℕ) × IsRest old text × IsFaultOfSettings text not_toml
long_refused old now bytes consumed long = of_rest (λ t. IsFaultOfSettings t not_toml) old now bytes consumed (λ more. inr (omega (arith, long, length-append bytes more), refl))
