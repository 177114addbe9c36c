use Rattle.std.proofs.Common.{zero}
use Rattle.mcs_lock.proofs.cell.McsCell.poll_look.Goals as goal

pub returns-in-Ok-clause-goes : goal.returns-in-Ok-clause-goes
returns-in-Ok-clause-goes g c = (zero, c.in-Ok.ensures.got.1)

pub returns-in-Err-clause-goes : goal.returns-in-Err-clause-goes
returns-in-Err-clause-goes g c = (zero, c.in-Err.ensures.missed.1)
