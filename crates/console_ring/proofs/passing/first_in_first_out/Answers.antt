use Rattle.std.proofs.Common.{append-nil}
use Rattle.event_log.proofs.Replays.{log_leads}
use Rattle.console_ring.specs.contracts.console.ConsoleSeqObject.TheImpl.{ghosts}
use Rattle.console_ring.proofs.Orders.{in_order, PassesOn, one_step}
use Rattle.console_ring.proofs.passing.first_in_first_out.Goals as goal

pub returns-clause-log : goal.returns-clause-log
returns-clause-log c n log legal = log_leads ghosts PassesOn (λ s. append-nil s.bytes) one_step n log legal

pub returns-clause-calls : goal.returns-clause-calls
returns-clause-calls c = in_order
