use Rattle.std.proofs.Common.{sym}
use Rattle.cell_callers.proofs.caller.Caller+KernelObject.try_hold.Goals as goal

pub returns-clause-tried : goal.returns-clause-tried
returns-clause-tried c = rw (sym c.deref.ensures) (c.take.result, c.try_hold-caller.result.0, c.take.ensures.state, c.put.ensures, c.try_hold-caller.ensures.tried)
