use Rattle.std.proofs.Common.{length}
use Rattle.record_lines.proofs.Numbers.{HasRead}
use Rattle.record_lines.proofs.text.words.long_number.Given as goal

abbrev pub invariant-loop-left : goal.invariant-loop-left
invariant-loop-left l = HasRead l.fn.bytes l.left l.number

abbrev pub decreases-loop-left : goal.decreases-loop-left
decreases-loop-left l = length l.left
