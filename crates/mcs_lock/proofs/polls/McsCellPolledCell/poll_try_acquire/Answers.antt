use Rattle.std.proofs.Common.{refl}
use Rattle.mcs_lock.proofs.McsPolls.{has_tried, was_busy}
use Rattle.mcs_lock.proofs.polls.McsCellPolledCell.poll_try_acquire.Goals as goal

pub returns-in-Ok-clause-tried : goal.returns-in-Ok-clause-tried
returns-in-Ok-clause-tried g c = rw c.in-Idle.is (refl, has_tried g.O.SeqObject _ c.prepare.result c.in-Ok.hold c.prepare.ensures.step c.in-Ok.ensures.got.1)

pub returns-in-Err-clause-tried : goal.returns-in-Err-clause-tried
returns-in-Err-clause-tried g c = rw c.in-Idle.is (refl, refl, was_busy g.O.SeqObject _ c.prepare.result c.in-Err.pass c.prepare.ensures.step c.in-Err.ensures.busy.1)

pub returns-in-Ok-try_enter-clause-tried : goal.returns-in-Ok-try_enter-clause-tried
returns-in-Ok-try_enter-clause-tried g c = rw c.in-Rested.is (refl, has_tried g.O.SeqObject _ c.ready.result c.in-Ok-try_enter.hold c.ready.ensures.step c.in-Ok-try_enter.ensures.got.1)

pub returns-in-Err-try_enter-clause-tried : goal.returns-in-Err-try_enter-clause-tried
returns-in-Err-try_enter-clause-tried g c = rw c.in-Rested.is (refl, refl, was_busy g.O.SeqObject _ c.ready.result c.in-Err-try_enter.pass c.ready.ensures.step c.in-Err-try_enter.ensures.busy.1)
