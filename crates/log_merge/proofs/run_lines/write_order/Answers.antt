use Rattle.std.proofs.Common.{rules}
use Rattle.log_merge.specs.MergedText.{merged_text}
use Rattle.record_lines.proofs.Outputs.{finished_ok, finished_err}
use Rattle.log_merge.proofs.run_lines.write_order.Goals as goal

pub returns-clause-ok : goal.returns-clause-ok
unfolding merged_text
returns-clause-ok g c = let reported = rw c.new-text.ensures.sink at (finished_ok g.W.Sink c.new-text.result c.put_order.new.text c.finish.new.self _ c.new-text.ensures.failed c.new-text.ensures.waiting c.put_order.ensures.puts c.finish.ensures.puts c.finish.ensures.waiting c.finish.result c.finish.ensures.ok) in search rules

pub returns-clause-err : goal.returns-clause-err
unfolding merged_text
returns-clause-err g c = let reported = rw c.new-text.ensures.sink at (finished_err g.W.Sink c.new-text.result c.put_order.new.text c.finish.new.self _ c.new-text.ensures.failed c.new-text.ensures.waiting c.put_order.ensures.puts c.finish.ensures.puts c.finish.ensures.waiting c.finish.result c.finish.ensures.err) in search rules
