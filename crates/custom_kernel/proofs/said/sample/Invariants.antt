use Rattle.std.proofs.Common.{◌≡◌, drop}
use Rattle.kernel_words.specs.{Row.sample_at, Rows.{call_row, call_samples}}
use Rattle.custom_kernel.proofs.said.sample.Given as goal

abbrev pub invariant-loop-sample : goal.invariant-loop-sample
invariant-loop-sample l = sample_at call_row call_samples l.fn.word ≡ sample_at call_row (drop l.sample-index call_samples) l.fn.word
