use Rattle.std.proofs.Common.{◌≡◌, ℕ, ap, ◌∙◌, zero-add, arith}
use Rattle.event_log.specs.Log.{steps_of, Legal, replay}
use Rattle.event_log.proofs.Replays.{log_leads}
use Rattle.counter.specs.{contracts.counter.BoundedCounterSeqObject.TheImpl.ghosts, Counting.ok_count}
use Rattle.counter.proofs.Keeps.{Counts, one_step}
use Rattle.counter.proofs.counting.counts_each_once.Goals as goal

counted : (n : ℕ) (log : _) → Legal ghosts n log → (replay ghosts n log).value ≡ ok_count (steps_of log)
counted n log legal = log_leads ghosts Counts (λ c. omega arith) one_step n log legal ∙ zero-add _

pub returns-clause-log : goal.returns-clause-log
returns-clause-log c = counted

pub returns-clause-logged : goal.returns-clause-logged
returns-clause-logged c h kept = ap (λ s. s.value) kept.replayed ∙ counted h.params h.log kept.legal
