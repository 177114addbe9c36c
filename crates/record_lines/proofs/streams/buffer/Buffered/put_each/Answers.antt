use Rattle.std.proofs.Common.{arith}
use Rattle.record_lines.proofs.Outputs.{puts_next}
use Rattle.record_lines.proofs.streams.buffer.Buffered.put_each.Goals as goal

pub loop-byte-preserved : goal.loop-byte-preserved
loop-byte-preserved g c = puts_next g.W.Sink _ _ _ c.args.bytes.now c.loop-byte.byte-index (omega arith) c.loop-byte.invariant c.put_byte.ensures
