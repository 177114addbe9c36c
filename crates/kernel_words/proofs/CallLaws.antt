-- Calls are read as what they spell.
use Rattle.std.proofs.Common.{ℕ, List}
use Rattle.kernel_object.specs.declared.call.KCall.{KCall}
use Rattle.kernel_words.specs.{Ranges.call_fits, Row.spelled, Rows.{call_row, call_samples, call_filled}, Tables.call_table, ItemReading.call_at}
use Rattle.record_lines.proofs.ListLaws.{ReadsItems}
use Rattle.kernel_words.proofs.Spellings.{value_takes, value_again, value_plain}

-- the words of a call
abbrev pub call_words : KCall → List (List ℕ)
call_words c = spelled (call_row c)

pub reads_calls : ReadsItems call_words call_fits call_at
reads_calls = record {
  takes = λ ws read e. let is = value_takes call_row call_samples call_filled call_table ws read e in record { text = is.text; fit = is.fits };
  again = value_again call_row call_samples call_filled call_table;
  plain = value_plain call_row call_samples call_filled call_table;
}
