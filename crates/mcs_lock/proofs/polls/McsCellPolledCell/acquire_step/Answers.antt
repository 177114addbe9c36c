use Rattle.std.proofs.Common.{inl}
use Rattle.mcs_lock.proofs.McsPolls.{clear_woken}
use Rattle.mcs_lock.proofs.polls.McsCellPolledCell.acquire_step.Goals as goal

pub returns-in-Rested-clause-step : goal.returns-in-Rested-clause-step
returns-in-Rested-clause-step g c = rw c.in-Rested.is (inl (clear_woken g.O.SeqObject _ _ _ c.wake.ensures.step c.clear-in-Rested.ensures.step))
