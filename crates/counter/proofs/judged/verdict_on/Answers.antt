use Rattle.std.proofs.Common.{◌≡◌, ◌∷◌, [], ◌↔◌, IfOk, subst}
use Rattle.sound_run.specs.Sound.{Sound}
use Rattle.auditor.specs.Faults.{IsFirstFault}
use Rattle.counter.specs.contracts.counter.BoundedCounterSeqObject.TheImpl.{ghosts}
use Rattle.counter.proofs.JudgedRuns.{three, sound_if_one, fault_unless_one}
use Rattle.auditor.specs.declared.fault.Fault.TheVariants as fault
use Rattle.auditor.specs.declared.fault.Verdict.TheVariants as verdict
use Rattle.counter.proofs.judged.verdict_on.Goals as goal

pub returns-clause-sound : goal.returns-clause-sound
returns-clause-sound c = sound_if_one c.judge_run.result c.args.read
    (subst (λ run. IfOk c.judge_run.result (λ v. (v ≡ verdict.Sound) ↔ Sound ghosts (three ∷ []) run)) c.in_ok-run.ensures c.judge_run.ensures.sound)

pub returns-clause-fault : goal.returns-clause-fault
returns-clause-fault c = fault_unless_one c.judge_run.result c.args.read
    (subst (λ run. IfOk c.judge_run.result (λ v. (v ≡ verdict.Unsound (fault.WrongStep 0 1 0)) ↔ IsFirstFault ghosts (three ∷ []) run (fault.WrongStep 0 1 0)))
    c.in_ok-run.ensures (c.judge_run.ensures.fault (fault.WrongStep 0 1 0)))
