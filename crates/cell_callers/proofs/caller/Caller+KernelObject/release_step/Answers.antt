use Rattle.std.proofs.Common.{sym}
use Rattle.cell_callers.proofs.caller.Caller+KernelObject.release_step.Goals as goal

pub returns-clause-step : goal.returns-clause-step
returns-clause-step c = rw (sym c.deref.ensures) (c.take.result, c.release_step-caller.result.0, c.take.ensures.state, c.put.ensures, c.release_step-caller.ensures.step)
