use Rattle.std.proofs.Common.{zero, suc, true}
use Rattle.ticket_lock.proofs.TicketPolls.{polled_as}
use Rattle.word_rule.specs.declared.progress.Polled.TheVariants as polled
use Rattle.ticket_lock.specs.declared.caller.TicketCaller.TheVariants as at
use Rattle.ticket_lock.proofs.polls.TicketCellPolledCell.poll_acquire.Goals as goal

pub returns-in-Ok-clause-polled : goal.returns-in-Ok-clause-polled
returns-in-Ok-clause-polled g c = let t = c.in-Ok.ensures.got.1 in
    polled_as g.O.SeqObject c.args.caller (at.Idle c.in-Idle.pass) (polled.Held c.in-Ok.hold true) c.in-Idle.is (suc zero, (at.Drawn t.0, t.2, t.3))

pub returns-in-Err-clause-polled : goal.returns-in-Err-clause-polled
returns-in-Err-clause-polled g c = let t = c.in-Err.ensures.missed.1 in
    polled_as g.O.SeqObject c.args.caller (at.Idle c.in-Idle.pass) (polled.Waits (at.Drawn c.in-Err.drawn)) c.in-Idle.is (suc zero, (at.Drawn t.0, t.2, t.3))

pub returns-in-Ok-look-clause-polled : goal.returns-in-Ok-look-clause-polled
returns-in-Ok-look-clause-polled g c = polled_as g.O.SeqObject c.args.caller (at.Drawn c.in-Drawn.drawn) (polled.Held c.in-Ok-look.hold true) c.in-Drawn.is (zero, c.in-Ok-look.ensures.got.1)

pub returns-in-Err-look-clause-polled : goal.returns-in-Err-look-clause-polled
returns-in-Err-look-clause-polled g c = polled_as g.O.SeqObject c.args.caller (at.Drawn c.in-Drawn.drawn) (polled.Waits (at.Drawn c.in-Err-look.drawn)) c.in-Drawn.is (zero, c.in-Err-look.ensures.missed.1)
