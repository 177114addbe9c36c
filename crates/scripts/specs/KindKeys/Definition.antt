-- What a table of settings says of an object of the kind: the record that each kind gives one value of.
use Rattle.std.specs.Prelude.{List, Result}
use Rattle.toml.specs.Data.{Members}
use Rattle.kernel_object.specs.Kinds.Definition.{KindDefinition}
use Rattle.scripts.specs.{declared.settings.fault.BadSettings.BadSettings, declared.settings.fault.SettingsPlace.SettingsPlace, declared.settings.fault.SettingsKey.SettingsKey}

pub record KindKeys (d : KindDefinition) : Type 1 where
  -- the parameters of a table of settings
  pub params_in : SettingsPlace → Members → Result d.Params BadSettings
  -- the keys of settings that are its own
  pub keys : List SettingsKey
