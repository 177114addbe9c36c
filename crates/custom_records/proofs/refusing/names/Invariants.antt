use Rattle.std.proofs.Common.{◌≡◌, ◌-◌, length, map, []}
use Rattle.custom_records.specs.{LineReading.new_words_at, declared.settings.TheConstants.MOST_WORDS}
use Rattle.record_lines.specs.Reading.{left}
use Rattle.custom_records.proofs.refusing.names.Given as goal

abbrev pub invariant-loop : goal.invariant-loop
invariant-loop l = record {
  count : length l.refusing.items ≡ l.counter;
  reads : new_words_at [] MOST_WORDS (left l.fn.at) ≡ new_words_at (map (λ w. w.bytes) l.refusing.items) (MOST_WORDS - l.counter) (left l.left);
}
