use Rattle.std.proofs.Common.{◌≡◌, ◌++◌, take}
use Rattle.record_lines.proofs.text.words.strip.Given as goal

abbrev pub invariant-loop-byte : goal.invariant-loop-byte
invariant-loop-byte l = l.fn.bytes ≡ take l.byte-index l.fn.front ++ l.left
