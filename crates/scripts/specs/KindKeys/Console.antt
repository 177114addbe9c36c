-- What a table of settings says of a console.
use Rattle.std.specs.Prelude.{[], ◌∷◌}
use Rattle.console_ring.specs.declared.console.TheConstants.{MOST_BYTES}
use Rattle.kernel_object.specs.Kinds.Console.{console_kind}
use Rattle.scripts.specs.{declared.settings.fault.SettingsKey.TheVariants.Bytes, SettingsKeys.{key_in, number_from}, KindKeys.Definition.KindKeys}

abbrev pub console_keys : KindKeys console_kind
console_keys = record {
  params_in = λ place ms. key_in place Bytes (number_from MOST_BYTES) ms;
  keys = Bytes ∷ [];
}
