use Rattle.std.proofs.Common.{◌≡◌, [], drop, length}
use Rattle.toml.specs.View.{items_view}
use Rattle.scripts.specs.SettingsText.{objects_from}
use Rattle.scripts.proofs.settings.text.objects.Given as goal

abbrev pub invariant-loop-value : goal.invariant-loop-value
invariant-loop-value l = record {
  count : length l.objects.items ≡ l.value-index;
  reads : objects_from [] (items_view l.values) ≡ objects_from l.objects.items (items_view (drop l.value-index l.values));
}
