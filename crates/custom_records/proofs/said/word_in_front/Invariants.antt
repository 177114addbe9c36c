use Rattle.std.proofs.Common.{length}
use Rattle.custom_records.proofs.NameSteps.{HasLetters}
use Rattle.custom_records.proofs.said.word_in_front.Given as goal

abbrev pub invariant-loop-left : goal.invariant-loop-left
invariant-loop-left l = HasLetters l.fn.bytes l.left l.said

abbrev pub decreases-loop-left : goal.decreases-loop-left
decreases-loop-left l = length l.left
