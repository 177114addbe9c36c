use Rattle.std.proofs.Common.{◌≡◌, drop}
use Rattle.kernel_words.specs.Row.{sample_at}
use Rattle.kernel_words.proofs.tables.read.sample.Given as goal

abbrev pub invariant-loop-sample : goal.invariant-loop-sample
invariant-loop-sample g l = sample_at g.T.Spelled.row_of g.T.Spelled.table l.fn.word ≡ sample_at g.T.Spelled.row_of (drop l.sample-index g.T.Spelled.table) l.fn.word
