use Rattle.std.proofs.Common.{◌≡◌, ◌-◌, length}
use Rattle.custom_records.specs.{LineReading.sizes_at, declared.spoken.TheConstants.MOST_NUMBERS}
use Rattle.custom_records.proofs.LineSteps.{behind_sizes}
use Rattle.record_lines.specs.Reading.{left}
use Rattle.custom_records.proofs.said.add_numbers.Given as goal

abbrev pub invariant-loop : goal.invariant-loop
invariant-loop l = record {
  count : length l.said.numbers ≡ l.counter;
  word : l.said.word ≡ l.initial.said.word;
  reads : sizes_at MOST_NUMBERS (left l.fn.at) ≡ behind_sizes l.said.numbers (MOST_NUMBERS - l.counter) (left l.left);
}
