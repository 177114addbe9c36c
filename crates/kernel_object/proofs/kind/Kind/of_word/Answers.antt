use Rattle.std.proofs.{Common.{codes, arith, sym, ap}, lemmas.Slice.Eq.text_from_reads}
use Rattle.kernel_object.specs.KindWords.{kind_of}
use Rattle.kernel_object.proofs.kind.Kind.of_word.Goals as goal

pub returns-in-console : goal.returns-in-console
unfolding kind_of
returns-in-console c = sym (ap kind_of (text_from_reads c.args.word.now (codes "console") (omega arith) (omega arith, (omega arith, (omega arith, (omega arith, (omega arith, (omega arith, (omega arith, tt)))))))))
