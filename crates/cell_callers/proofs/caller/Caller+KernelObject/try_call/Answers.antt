use Rattle.std.proofs.Common.{sym}
use Rattle.cell_callers.proofs.caller.Caller+KernelObject.try_call.Goals as goal

pub returns-clause-called : goal.returns-clause-called
returns-clause-called c = rw (sym c.deref.ensures) (c.take.result, c.try_call-caller.result.0, c.take.ensures.state, c.put.ensures, c.try_call-caller.ensures.called)
