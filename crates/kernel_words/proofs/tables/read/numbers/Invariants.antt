use Rattle.std.proofs.Common.{◌≡◌, length, drop, ◌++◌, Some}
use Rattle.record_lines.specs.Reading.{◌>>=◌, left}
use Rattle.kernel_words.specs.Row.{numbers_at}
use Rattle.kernel_words.proofs.tables.read.numbers.Given as goal

abbrev pub invariant-loop-each : goal.invariant-loop-each
invariant-loop-each l = record {
  count : length l.numbers.items ≡ l.each-index;
  reads : numbers_at l.fn.fields (left l.fn.at) ≡ (numbers_at (drop l.each-index l.fn.fields) (left l.left) >>= λ more. Some (l.numbers.items ++ more.0, more.1));
}
