use Rattle.std.proofs.Common.{refl}
use Rattle.word_rule.specs.Passes.{state_of_hold}
use Rattle.guarded_cell.specs.AnyCallers.{state_of_caller}
use Rattle.guarded_cell.proofs.PollsOfLocks.{released_of}
use Rattle.ticket_lock.specs.Callers as ticket
use Rattle.mcs_lock.specs.Callers as mcs
use Rattle.sound_run.specs.declared.lock_kind.LockKind.TheVariants as kinds
use Rattle.guarded_cell.specs.declared.any_caller.AnyCaller.TheVariants as callers
use Rattle.guarded_cell.proofs.polls.AnyCellPolledCell.poll_release.Goals as goal

pub returns-in-Ticket-clause-released : goal.returns-in-Ticket-clause-released
returns-in-Ticket-clause-released g c = rw c.in-Ticket.is (let r = c.poll_release-caller in
    released_of g.O.SeqObject ticket.state_of_caller state_of_caller callers.Ticket (λ s. refl) kinds.Ticket (state_of_hold c.args.hold) r.result.1 r.result.0 r.ensures.released)

pub returns-in-Mcs-clause-released : goal.returns-in-Mcs-clause-released
returns-in-Mcs-clause-released g c = rw c.in-Mcs.is (let r = c.poll_release-caller-in-Mcs in
    released_of g.O.SeqObject mcs.state_of_caller state_of_caller callers.Mcs (λ s. refl) kinds.Mcs (state_of_hold c.args.hold) r.result.1 r.result.0 r.ensures.released)
