use Rattle.cell_callers.proofs.Batches.{batch_done}
use Rattle.cell_callers.proofs.batched.batch.Goals as goal

pub returns-in-Held-clause-reports : goal.returns-in-Held-clause-reports
returns-in-Held-clause-reports c =
    let got = c.in-Held in
    let done = c.batch_held in
    batch_done c.args.cell.now c.args.caller c.args.calls.now got.hold got.looked (c.args.replies.now, c.args.looks.now) (done.new.replies, c.count_look.new.looks) done.result.1 done.result.0 got.ensures.polled done.ensures.reports c.count_look.ensures
