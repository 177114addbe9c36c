-- That the tables of calls and replies are right. It is proved here, since an `impl` can name no proof file.
use Rattle.std.proofs.Common.{rules}
use Rattle.kernel_words.specs.{Row.{IsTable, sample_at}, Rows.{call_row, call_samples, call_filled, reply_row, reply_samples, reply_filled}}

pub call_table : IsTable call_row call_samples call_filled
unfolding sample_at
call_table = record {
  kept = search rules;
  again = search rules;
  sampled = search rules;
  word_stays = search rules;
  refilled = search rules;
  plain = search rules;
  bounded = search rules;
}

pub reply_table : IsTable reply_row reply_samples reply_filled
unfolding sample_at
reply_table = record {
  kept = search rules;
  again = search rules;
  sampled = search rules;
  word_stays = search rules;
  refilled = search rules;
  plain = search rules;
  bounded = search rules;
}
