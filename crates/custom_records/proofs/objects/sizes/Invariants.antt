use Rattle.std.proofs.Common.{◌≡◌, ◌-◌, length}
use Rattle.custom_records.specs.{LineReading.sizes_at, declared.settings.TheConstants.MOST_SIZES}
use Rattle.custom_records.proofs.LineSteps.{behind_sizes}
use Rattle.record_lines.specs.Reading.{left}
use Rattle.custom_records.proofs.objects.sizes.Given as goal

abbrev pub invariant-loop : goal.invariant-loop
invariant-loop l = record {
  count : length l.sizes.items ≡ l.counter;
  reads : sizes_at MOST_SIZES (left l.fn.at) ≡ behind_sizes l.sizes.items (MOST_SIZES - l.counter) (left l.left);
}
