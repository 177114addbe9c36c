use Rattle.std.proofs.Common.{inl, inr}
use Rattle.mcs_lock.proofs.McsPolls.{goes_after}
use Rattle.mcs_lock.specs.declared.caller.McsCaller.TheVariants as at
use Rattle.mcs_lock.proofs.cell.McsCell.line_up.Goals as goal

pub returns-clause-goes : goal.returns-clause-goes
returns-clause-goes g c = goes_after _ _ _ _ (at.Armed c.arm.result) (at.Waiting c.link.result) _ (inr (inr (inl c.arm.ensures.step))) (inr (inr (inr c.link.ensures.step))) c.poll_look.ensures.goes
