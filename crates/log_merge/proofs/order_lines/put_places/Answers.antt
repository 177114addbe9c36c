use Rattle.log_merge.specs.MergedText.{place_words}
use Rattle.log_merge.proofs.NextLines.{line_next}
use Rattle.log_merge.proofs.order_lines.put_places.Goals as goal

pub loop-place-preserved : goal.loop-place-preserved
loop-place-preserved g c = line_next g.W.Sink (place_words c.args.settings.now c.args.run.now) c.args.places.now c.loop-place.place-index _ c.loop-place-test.true c.loop-place.invariant c.put_place.ensures
