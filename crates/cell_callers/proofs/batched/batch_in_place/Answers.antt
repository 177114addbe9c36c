use Rattle.std.proofs.Common.{sym}
use Rattle.cell_callers.proofs.batched.batch_in_place.Goals as goal

pub returns-clause-reports : goal.returns-clause-reports
returns-clause-reports c =
    let done = c.batch-caller in
    let reported = done.ensures.reports in
    rw (sym c.deref.ensures) (reported.0, reported.1, reported.2, (c.take.result, done.result.0, c.take.ensures.state, c.put.ensures, reported.3))
