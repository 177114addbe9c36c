use Rattle.std.proofs.Common.{take}
use Rattle.record_lines.specs.Output.{Puts}
use Rattle.record_lines.proofs.streams.buffer.Buffered.put_each.Given as goal

abbrev pub invariant-loop-byte : goal.invariant-loop-byte
invariant-loop-byte g l = Puts g.W.Sink l.fn.self l.self (take l.byte-index l.bytes)
