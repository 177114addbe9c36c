use Rattle.std.proofs.Common.{rules}
use Rattle.word_rule.specs.Passes.{view_of_pass}
use Rattle.word_rule.proofs.Owners.{own_both}
use Rattle.worked_calls.proofs.cells.cell_of_two.Goals as goal

pub returns-clause-all : goal.returns-clause-all
returns-clause-all c =
    own_both c.in_ok-queue.queue (view_of_pass c.unwrap-zero.result) (view_of_pass c.unwrap-one.result)
    (c.in-Ok.ensures.passes 0 c.unwrap-zero.result (search rules)).1 (c.in-Ok.ensures.passes 1 c.unwrap-one.result (search rules)).1
