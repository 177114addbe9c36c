use Rattle.std.proofs.Common.{rules, sym, ◌∙◌}
use Rattle.word_rule.proofs.{Known.idle_alone, Acting.{goes_without, lags_without}, KeptSlots.{keeps_from, takes_kept}}
use Rattle.ticket_lock.proofs.TicketRule.{looking}
use Rattle.ticket_lock.proofs.cell.TicketCell.look_kept.Goals as goal

pub load-word-requires : goal.load-word-requires
load-word-requires g c = let d = c.args.drawn in let o = d.outside in let w = d.drawn in let h = c.args.self.now.table.table.shared.key in
    (g.met.O.SeqObject.event_fits, (search rules, search rules, (looking g.O.SeqObject h _ _ o.seat.me w.pass_view.caller.acts c.args.self.now.kind d.ticket w.at.stands (idle_alone o.seat.me.0.others w.at.alone))))

pub invariant_of-result : goal.invariant_of-result
invariant_of-result g c = let d = c.args.drawn in let o = d.outside in let t = (c.load-word.ensures.2 d.ticket d.drawn.at.stands).hit (sym c.served_ticket.ensures ∙ c.if-served_ticket-ticket.true) in
    record { keeps = keeps_from g.O.SeqObject o.key.value o.cpu.number _ _ _ o.seat.me c.load-word.new.seat.me d.drawn t }

pub invariant_of-result-else-served_ticket-ticket : goal.invariant_of-result-else-served_ticket-ticket
invariant_of-result-else-served_ticket-ticket g c = let d = c.args.drawn in let o = d.outside in let t = (c.load-word.ensures.2 d.ticket d.drawn.at.stands).miss (λ e. c.if-served_ticket-ticket.false (c.served_ticket.ensures ∙ e)) in
    record { drawn = goes_without g.O.SeqObject o.key.value o.cpu.number _ _ _ o.seat.me c.load-word.new.seat.me d.drawn t.goes }

pub returns-then-served_ticket-ticket-clause-got : goal.returns-then-served_ticket-ticket-clause-got
returns-then-served_ticket-ticket-clause-got g c = let d = c.args.drawn in let o = d.outside in let t = (c.load-word.ensures.2 d.ticket d.drawn.at.stands).hit (sym c.served_ticket.ensures ∙ c.if-served_ticket-ticket.true) in
    (search rules, (d.ticket, takes_kept g.O.SeqObject o.key.value o.cpu.number _ _ _ o.seat.me c.load-word.new.seat.me d.drawn t))

pub returns-else-served_ticket-ticket-clause-missed : goal.returns-else-served_ticket-ticket-clause-missed
returns-else-served_ticket-ticket-clause-missed g c = let d = c.args.drawn in let o = d.outside in let t = (c.load-word.ensures.2 d.ticket d.drawn.at.stands).miss (λ e. c.if-served_ticket-ticket.false (c.served_ticket.ensures ∙ e)) in
    (search rules, (d.ticket, lags_without g.O.SeqObject o.key.value o.cpu.number _ _ _ o.seat.me c.load-word.new.seat.me d.drawn t))
