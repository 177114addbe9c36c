use Rattle.std.proofs.Common.{◌≡◌}
use Rattle.toml.specs.View.{table_view}
use Rattle.scripts.specs.SettingsKeys.{has_only}
use Rattle.scripts.proofs.SettingsTables.{all_keys}
use Rattle.scripts.proofs.settings.keys.has_only.Given as goal

abbrev pub invariant-loop-name : goal.invariant-loop-name
invariant-loop-name l = has_only l.keys (table_view l.table) ≡ all_keys l.keys l.name-iterator
