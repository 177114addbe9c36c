use Rattle.std.proofs.{Common.{◌∙◌, ap, map, sym, take}, lemmas.List.take_all}
use Rattle.cell_callers.specs.Coding.{called_of}
use Rattle.cell_callers.proofs.BatchCodes.{all_there, one_lacks}
use Rattle.cell_callers.proofs.batching.write_calls.Goals as goal

pub returns-in_default-clause-not_there : goal.returns-in_default-clause-not_there
returns-in_default-clause-not_there c = λ _.
    let asked = take c.args.batch.now.count c.args.batch.now.calls in
    one_lacks asked c.loop-asked.asked-index (record { word = 0; first = 0; second = 0 }) c.loop-asked-test.true (sym c.called_of.ensures ∙ c.in_default.is)

pub returns-clause-there : goal.returns-clause-there
returns-clause-there c = λ _.
    let asked = take c.args.batch.now.count c.args.batch.now.calls in
    let all = take_all c.loop-asked.asked-index asked c.loop-asked-test.false in
    all_there asked c.loop-asked.calls.items (ap (λ l. map called_of l) (sym all) ∙ c.loop-asked.invariant.1)
