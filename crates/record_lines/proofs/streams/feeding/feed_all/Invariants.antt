use Rattle.std.proofs.Common.{◌≡◌, ◌<◌, length}
use Rattle.record_lines.proofs.Feeding.{HasFedOf}
use Rattle.record_lines.proofs.streams.feeding.feed_all.Given as goal

abbrev pub invariant-loop : goal.invariant-loop
invariant-loop g l = record {
  fed : HasFedOf (g.P.TakesPieces.takes l.fn.reader) (g.S.Source.remaining l.fn.source) (g.S.Source.remaining l.source) l.reader;
  failed : g.S.Source.failed l.source ≡ g.S.Source.failed l.fn.source;
  room : 0 < length l.buffer;
}
