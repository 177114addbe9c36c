use Rattle.std.proofs.{Common.{codes, arith, sym, ap}, lemmas.Slice.Eq.text_from_reads}
use Rattle.kernel_words.specs.Parameters.{lock_of}
use Rattle.kernel_words.proofs.tables.lock_words.lock_of_word.Goals as goal

pub returns-in-ticket : goal.returns-in-ticket
unfolding lock_of
returns-in-ticket c = sym (ap lock_of (text_from_reads c.args.word.now (codes "ticket") (omega arith) (omega arith, (omega arith, (omega arith, (omega arith, (omega arith, (omega arith, tt))))))))
