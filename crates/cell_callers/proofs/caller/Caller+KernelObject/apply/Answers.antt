use Rattle.std.proofs.Common.{sym}
use Rattle.cell_callers.proofs.caller.Caller+KernelObject.apply.Goals as goal

pub returns-clause-applied : goal.returns-clause-applied
returns-clause-applied c = rw (sym c.deref.ensures) (c.take.result, c.apply-caller.result.0, c.take.ensures.state, c.put.ensures, c.apply-caller.ensures.applied)
