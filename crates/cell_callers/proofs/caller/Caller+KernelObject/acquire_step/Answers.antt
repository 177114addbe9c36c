use Rattle.std.proofs.Common.{sym}
use Rattle.cell_callers.proofs.caller.Caller+KernelObject.acquire_step.Goals as goal

pub returns-clause-step : goal.returns-clause-step
returns-clause-step c = rw (sym c.deref.ensures) (c.take.result, c.acquire_step-caller.result.0, c.take.ensures.state, c.put.ensures, c.acquire_step-caller.ensures.step)
