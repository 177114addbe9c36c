use Rattle.std.proofs.Common.{[], refl}
use Rattle.record_lines.proofs.Consuming.{consumes_none}
use Rattle.record_lines.proofs.streams.feeding.feed_all.Goals as goal

pub loop-init : goal.loop-init
loop-init g c = record {
  fed = record { seen = []; consumed = consumes_none _; taken = c.requires.first };
  failed = refl;
  room = c.requires.room;
}
