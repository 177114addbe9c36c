use Rattle.std.proofs.Common.{rules, refl, subst, arith}
use Rattle.word_rule.specs.{declared.lock_kind.Stage.TheVariants.Ticket, declared.lock_kind.TicketStage.TheVariants.Served, Keeping.IsKeeping}
use Rattle.word_rule.proofs.{Acting.{left, rests_now, gives_now}, KeptSlots.{as_hold, filled}}
use Rattle.ticket_lock.proofs.TicketRule.{adding_now, subtracting_now}
use Rattle.ticket_lock.proofs.cell.TicketCell.serve_kept.Goals as goal

pub fetch_sub-requires : goal.fetch_sub-requires
fetch_sub-requires g c = let x = c.args.hold in let o = x.outside in let s = c.args.self.now in let h = s.table.table.shared.key in
    let w = subst (λ k. IsKeeping g.O.SeqObject k o.cpu.number (Ticket (Served x.ticket)) o.seat.me) c.requires.reported x.keeps in (
      g.met.O.SeqObject.event_fits,
      (search rules, search rules, (subtracting_now g.O.SeqObject h s.kind _ _ o.cpu.number x.ticket _ _ o.seat.me (as_hold g.O.SeqObject h o.cpu.number _ o.seat.me w) s.table.sized (filled g.O.SeqObject h o.cpu.number _ o.seat.me w) (omega (arith, c.if-ticket.true)))),
    )

pub fetch_add-requires : goal.fetch_add-requires
fetch_add-requires g c = let x = c.args.hold in let o = x.outside in let s = c.args.self.now in let h = s.table.table.shared.key in
    let w = subst (λ k. IsKeeping g.O.SeqObject k o.cpu.number (Ticket (Served x.ticket)) o.seat.me) c.requires.reported x.keeps in (
      g.met.O.SeqObject.event_fits,
      (search rules, search rules, (adding_now g.O.SeqObject h s.kind _ _ o.cpu.number x.ticket _ _ o.seat.me (as_hold g.O.SeqObject h o.cpu.number _ o.seat.me w) s.table.sized (filled g.O.SeqObject h o.cpu.number _ o.seat.me w) (λ e. c.if-ticket.false (omega (arith, e))))),
    )

pub invariant_of-result : goal.invariant_of-result
invariant_of-result g c = let x = c.args.hold in let o = x.outside in let h = o.key.value in let w = as_hold g.O.SeqObject h o.cpu.number _ o.seat.me x.keeps in
    record { idle = rests_now g.O.SeqObject h o.cpu.number _ _ _ _ _ c.fetch_sub.new.seat.me w (left g.O.SeqObject _ _ _ o.seat.me c.fetch_sub.new.seat.me _ refl (filled g.O.SeqObject h o.cpu.number _ o.seat.me x.keeps) c.fetch_sub.ensures.2) }

pub returns-then-ticket-clause-step : goal.returns-then-ticket-clause-step
returns-then-ticket-clause-step g c = let x = c.args.hold in let o = x.outside in let h = o.key.value in let w = as_hold g.O.SeqObject h o.cpu.number _ o.seat.me x.keeps in
    (x.ticket, gives_now g.O.SeqObject h o.cpu.number _ _ _ _ _ c.fetch_sub.new.seat.me w (left g.O.SeqObject _ _ _ o.seat.me c.fetch_sub.new.seat.me _ refl (filled g.O.SeqObject h o.cpu.number _ o.seat.me x.keeps) c.fetch_sub.ensures.2))

pub invariant_of-result-2 : goal.invariant_of-result-2
invariant_of-result-2 g c = let x = c.args.hold in let o = x.outside in let h = o.key.value in let w = as_hold g.O.SeqObject h o.cpu.number _ o.seat.me x.keeps in
    record { idle = rests_now g.O.SeqObject h o.cpu.number _ _ _ _ _ c.fetch_add.new.seat.me w (left g.O.SeqObject _ _ _ o.seat.me c.fetch_add.new.seat.me _ refl (filled g.O.SeqObject h o.cpu.number _ o.seat.me x.keeps) c.fetch_add.ensures.2) }

pub returns-clause-step : goal.returns-clause-step
returns-clause-step g c = let x = c.args.hold in let o = x.outside in let h = o.key.value in let w = as_hold g.O.SeqObject h o.cpu.number _ o.seat.me x.keeps in
    (x.ticket, gives_now g.O.SeqObject h o.cpu.number _ _ _ _ _ c.fetch_add.new.seat.me w (left g.O.SeqObject _ _ _ o.seat.me c.fetch_add.new.seat.me _ refl (filled g.O.SeqObject h o.cpu.number _ o.seat.me x.keeps) c.fetch_add.ensures.2))
