use Rattle.std.proofs.Common.{zero, suc, inl, inr, refl}
use Rattle.mcs_lock.specs.declared.caller.McsCaller.TheVariants as at
use Rattle.mcs_lock.proofs.polls.McsCellPolledCell.poll_release.Goals as goal

pub returns-in-Ok-clause-released : goal.returns-in-Ok-clause-released
returns-in-Ok-clause-released g c = (suc zero, (at.Passing c.in-Ok.passing, inl (inl c.in-Ok.ensures.found.1), inr c.pass_on.ensures.step))

pub returns-in-Ok-rest-clause-released : goal.returns-in-Ok-rest-clause-released
returns-in-Ok-rest-clause-released g c = (suc zero, (at.Alone c.in-Err.alone, inl (inr c.in-Err.ensures.none.1), inl c.in-Ok-rest.ensures.home.1))

pub returns-in-Err-rest-clause-released : goal.returns-in-Err-rest-clause-released
returns-in-Err-rest-clause-released g c = (suc zero, (at.Alone c.in-Err.alone, inl (inr c.in-Err.ensures.none.1), inr (inl c.in-Err-rest.ensures.missed.1)), refl)
