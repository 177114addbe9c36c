use Rattle.std.proofs.Common.{refl}
use Rattle.ticket_lock.proofs.TicketPolls.{tried_as}
use Rattle.word_rule.specs.declared.progress.Tried.TheVariants as tried
use Rattle.ticket_lock.specs.declared.caller.TicketCaller.TheVariants as at
use Rattle.ticket_lock.proofs.polls.TicketCellPolledCell.poll_try_acquire.Goals as goal

pub returns-in-Ok-clause-tried : goal.returns-in-Ok-clause-tried
returns-in-Ok-clause-tried g c = let e = c.in-Ok.ensures in
    tried_as g.O.SeqObject c.args.caller (at.Idle c.in-Idle.pass) (tried.Held c.in-Ok.hold) c.in-Idle.is (refl, record { caller = e.caller; grows = e.grows; run = e.run })

pub returns-in-Err-clause-tried : goal.returns-in-Err-clause-tried
returns-in-Err-clause-tried g c = let e = c.in-Err.ensures in
    tried_as g.O.SeqObject c.args.caller (at.Idle c.in-Idle.pass) (tried.Busy (at.Idle c.in-Err.pass)) c.in-Idle.is (refl, refl, record { busy = e.busy; run = e.busy_run })
