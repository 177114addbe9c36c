use Rattle.std.proofs.{Common.{◌++◌, arith, ap, ◌∙◌}, lemmas.List.take_rest, lemmas.Grind.common_steps}
use Rattle.record_lines.proofs.Outputs.{written_more}
use Rattle.record_lines.proofs.streams.text_writer.write_text.Goals as goal

pub loop-rest-preserved : goal.loop-rest-preserved
loop-rest-preserved g c = record {
  known = λ xs e.
      let more = written_more (g.W.Sink.contents c.args.out.now) (g.W.Sink.contents c.loop-rest.out) (g.W.Sink.contents c.write.new.self) c.args.text.now c.loop-rest.rest.now c.in-Ok.count c.loop-rest.invariant.known c.in-Ok.ensures.bytes xs e in
      (more.0, more.1, ap (λ l. more.0 ++ l) (take_rest c.loop-rest.rest.now c.in-Ok.count) ∙ more.2);
  failed = grind (arith, common_steps);
}
