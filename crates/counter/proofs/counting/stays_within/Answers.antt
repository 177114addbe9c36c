use Rattle.event_log.proofs.Replays.{replay_has, state_has}
use Rattle.counter.specs.{contracts.counter.BoundedCounterSeqObject.TheImpl.ghosts, State.IsCounterOf}
use Rattle.counter.proofs.Keeps.{keeps, opens}
use Rattle.counter.proofs.counting.stays_within.Goals as goal

pub returns-clause-opening : goal.returns-clause-opening
returns-clause-opening c = opens

pub returns-clause-call : goal.returns-clause-call
returns-clause-call c = keeps

pub returns-clause-log : goal.returns-clause-log
returns-clause-log c n log = replay_has ghosts (IsCounterOf n) (keeps n) n log (opens n)

pub returns-clause-logged : goal.returns-clause-logged
returns-clause-logged c h kept = state_has ghosts (IsCounterOf h.params) (keeps h.params) h kept (opens h.params)
