use Rattle.std.proofs.Common.{take, map}
use Rattle.record_lines.specs.Output.{PutsLines}
use Rattle.log_merge.specs.{MergedText.place_words, Written.AreWritten}
use Rattle.log_merge.proofs.run_lines.put_order.Given as goal

abbrev pub invariant-loop-index : goal.invariant-loop-index
invariant-loop-index g l = record {
  puts : PutsLines g.W.Sink l.fn.text l.text (map (place_words l.settings l.run) (take l.index l.places));
  written : AreWritten l.run (take l.index l.places) l.written;
}
