use Rattle.std.proofs.Common.{zero}
use Rattle.ticket_lock.proofs.polls.TicketCellPolledCell.poll_release.Goals as goal

pub returns-clause-released : goal.returns-clause-released
returns-clause-released g c = (zero, c.serve.ensures.step)
