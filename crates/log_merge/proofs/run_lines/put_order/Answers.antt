use Rattle.std.proofs.{Common.refl, lemmas.Option.slice_get-get_or}
use Rattle.record_lines.proofs.Lines.{no_lines}
use Rattle.sound_run.specs.declared.place.Place.{Place}
use Rattle.log_merge.specs.MergedText.{place_words}
use Rattle.log_merge.proofs.{NextLines.line_next, Placing.get_zeros, WrittenEvents.none_written}
use Rattle.log_merge.proofs.run_lines.put_order.Goals as goal

pub loop-index-init : goal.loop-index-init
loop-index-init g c = record {
  puts = no_lines g.W.Sink c.args.text.now;
  written = none_written c.args.run.now _ refl (get_zeros 256);
}

pub loop-index-preserved : goal.loop-index-preserved
loop-index-preserved g c =
    let none : Place = record { cpu = 0; entry = 0 } in
    let places = c.args.places.now in
    let index = c.loop-index.index in
    record {
      puts = line_next g.W.Sink (place_words c.args.settings.now c.args.run.now) places index none c.loop-index-test.true c.loop-index.invariant.puts (c.put_place.ensures.puts _ (slice_get-get_or places index none c.loop-index-test.true));
      written = c.put_place.ensures.written;
    }
