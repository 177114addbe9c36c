use Rattle.std.proofs.Common.{take, map}
use Rattle.record_lines.specs.Output.{PutsLines}
use Rattle.log_merge.specs.MergedText.{place_words}
use Rattle.log_merge.proofs.order_lines.put_places.Given as goal

abbrev pub invariant-loop-place : goal.invariant-loop-place
invariant-loop-place g l = PutsLines g.W.Sink l.fn.text l.text (map (place_words l.settings l.run) (take l.place-index l.places))
