use Rattle.event_log.proofs.Replays.{replay_has, state_has}
use Rattle.console_ring.specs.{contracts.console.ConsoleSeqObject.TheImpl.ghosts, State.IsConsoleOf}
use Rattle.console_ring.proofs.Keeps.{keeps, opens}
use Rattle.console_ring.proofs.passing.stays_within.Goals as goal

pub returns-clause-opening : goal.returns-clause-opening
returns-clause-opening c = opens

pub returns-clause-call : goal.returns-clause-call
returns-clause-call c = keeps

pub returns-clause-log : goal.returns-clause-log
returns-clause-log c n log in_range = replay_has ghosts (IsConsoleOf n) (keeps n) n log (opens n in_range)

pub returns-clause-logged : goal.returns-clause-logged
returns-clause-logged c h kept = state_has ghosts (IsConsoleOf h.params) (keeps h.params) h kept (opens h.params kept.in_range)
