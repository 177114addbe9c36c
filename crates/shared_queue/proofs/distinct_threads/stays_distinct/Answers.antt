use Rattle.event_log.proofs.Replays.{replay_has, state_has}
use Rattle.shared_queue.specs.{contracts.queue.ThreadQueueSeqObject.TheImpl.ghosts, State.IsQueueOf}
use Rattle.shared_queue.proofs.Keeps.{keeps, opens}
use Rattle.shared_queue.proofs.distinct_threads.stays_distinct.Goals as goal

pub returns-clause-opening : goal.returns-clause-opening
returns-clause-opening c = opens

pub returns-clause-call : goal.returns-clause-call
returns-clause-call c = keeps

pub returns-clause-log : goal.returns-clause-log
returns-clause-log c n log = replay_has ghosts (IsQueueOf n) (keeps n) n log (opens n)

pub returns-clause-logged : goal.returns-clause-logged
returns-clause-logged c h kept = state_has ghosts (IsQueueOf h.params) (keeps h.params) h kept (opens h.params)
