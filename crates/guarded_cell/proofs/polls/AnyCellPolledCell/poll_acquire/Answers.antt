use Rattle.std.proofs.Common.{refl}
use Rattle.word_rule.specs.Passes.{state_of_hold}
use Rattle.guarded_cell.specs.AnyCallers.{state_of_caller}
use Rattle.guarded_cell.proofs.PollsOfLocks.{polled_of}
use Rattle.ticket_lock.specs.Callers as ticket
use Rattle.mcs_lock.specs.Callers as mcs
use Rattle.sound_run.specs.declared.lock_kind.LockKind.TheVariants as kinds
use Rattle.guarded_cell.specs.declared.any_caller.AnyCaller.TheVariants as callers
use Rattle.guarded_cell.proofs.polls.AnyCellPolledCell.poll_acquire.Goals as goal

pub returns-in-Ticket-Ticket-clause-polled : goal.returns-in-Ticket-Ticket-clause-polled
returns-in-Ticket-Ticket-clause-polled g c = let it = c.in-Ticket-Ticket in
    rw it.is-0 (rw it.is-1 (rw c.polled_ticket.ensures (polled_of g.O.SeqObject state_of_hold ticket.state_of_caller state_of_caller callers.Ticket (λ s. refl) kinds.Ticket it.caller c.poll_acquire.result c.poll_acquire.ensures.polled)))

pub returns-in-Mcs-Mcs-clause-polled : goal.returns-in-Mcs-Mcs-clause-polled
returns-in-Mcs-Mcs-clause-polled g c = let it = c.in-Mcs-Mcs in
    rw it.is-0 (rw it.is-1 (rw c.polled_mcs.ensures (polled_of g.O.SeqObject state_of_hold mcs.state_of_caller state_of_caller callers.Mcs (λ s. refl) kinds.Mcs it.caller c.poll_acquire-in-Mcs-Mcs.result c.poll_acquire-in-Mcs-Mcs.ensures.polled)))
