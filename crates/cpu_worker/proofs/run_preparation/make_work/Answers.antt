use Rattle.std.proofs.Common.{◌∙◌}
use Rattle.guarded_cell.specs.Kinds.{IsPassOf}
use Rattle.word_rule.specs.Passes.{view_of_pass}
use Rattle.cpu_worker.proofs.Runs.{begins}
use Rattle.cpu_worker.proofs.run_preparation.make_work.Goals as goal

pub returns-clause-scripts : goal.returns-clause-scripts
returns-clause-scripts c = c.in_ok-jobs.ensures.scripts ∙ c.into_lists.ensures.lists

pub returns-clause-rows : goal.returns-clause-rows
returns-clause-rows c = λ k j at.
    begins IsPassOf view_of_pass c.args.settings.now c.args.scripts c.in_ok-cells.cells.items (λ i. i.todos.items) (λ i. i.passes.items) (λ r. r.items) c.in_ok-jobs.jobs.items c.in_ok-cells.rows.items
    (c.in_ok-jobs.ensures.scripts ∙ c.into_lists.ensures.lists) c.in_ok-jobs.ensures.rows c.in_ok-cells.ensures.rows k j at
