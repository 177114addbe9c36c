use Rattle.std.proofs.Common.{zero, suc, inl, inr}
use Rattle.word_rule.specs.Passes.{state_of_hold}
use Rattle.mcs_lock.proofs.McsPolls.{goes_after, goes_polled}
use Rattle.mcs_lock.specs.declared.caller.McsCaller.TheVariants as at
use Rattle.mcs_lock.proofs.polls.McsCellPolledCell.poll_acquire.Goals as goal

pub returns-in-Hold-clause-polled : goal.returns-in-Hold-clause-polled
returns-in-Hold-clause-polled g c = rw c.in-Idle.is (suc zero, (at.Ready c.clear.result, inl c.clear.ensures.step, c.in-Hold.ensures.got.1))

pub returns-in-Behind-clause-polled : goal.returns-in-Behind-clause-polled
returns-in-Behind-clause-polled g c = rw c.in-Idle.is (goes_polled _ state_of_hold _ (at.Idle c.in-Idle.pass) _ (goes_after _ _ _ _ (at.Ready c.clear.result) (at.Behind c.in-Behind.behind) _ (inl c.clear.ensures.step) (inr (inl c.in-Behind.ensures.queued.1)) c.line_up.ensures.goes))

pub returns-in-Hold-arrive-clause-polled : goal.returns-in-Hold-arrive-clause-polled
returns-in-Hold-arrive-clause-polled g c = let t = c.in-Hold-arrive.ensures.got.1 in rw c.in-Rested.is (suc zero, (at.Ready t.0, inl t.2, t.3))

pub returns-in-Behind-arrive-clause-polled : goal.returns-in-Behind-arrive-clause-polled
returns-in-Behind-arrive-clause-polled g c = let t = c.in-Behind-arrive.ensures.queued.1 in
    rw c.in-Rested.is (goes_polled _ state_of_hold _ (at.Rested c.in-Rested.rested) _ (goes_after _ _ _ _ (at.Ready t.0) (at.Behind c.in-Behind-arrive.behind) _ (inl t.2) (inr (inl t.3)) c.line_up-in-Behind-arrive.ensures.goes))

pub returns-in-Waiting-clause-polled : goal.returns-in-Waiting-clause-polled
returns-in-Waiting-clause-polled g c = rw c.in-Waiting.is (goes_polled _ state_of_hold _ (at.Waiting c.in-Waiting.waiting) _ c.poll_look.ensures.goes)
