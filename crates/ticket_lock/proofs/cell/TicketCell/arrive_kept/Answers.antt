use Rattle.std.proofs.Common.{rules, sym, ◌∙◌}
use Rattle.word_rule.proofs.{Known.idle_alone, Acting.{goes_without, lags_without}, KeptSlots.{keeps_from, takes_kept}}
use Rattle.ticket_lock.proofs.TicketAtOnce.{arrived, arriving}
use Rattle.ticket_lock.proofs.cell.TicketCell.arrive_kept.Goals as goal

pub arrive_adding-word-requires : goal.arrive_adding-word-requires
arrive_adding-word-requires g c = let o = c.args.pass.outside in let w = c.args.pass.idle in let h = c.args.self.now.table.table.shared.key in (
  g.met.O.SeqObject.event_fits,
  (search rules, search rules, arriving g.O.SeqObject h _ _ o.seat.me w.pass_view.caller.acts c.args.self.now.kind w.at.stands (idle_alone o.seat.me.0.others w.at.alone)),
)

pub invariant_of-result : goal.invariant_of-result
invariant_of-result g c = let o = c.args.pass.outside in let t = c.arrive_adding-word.ensures.2 in
    let a = arrived g.O.SeqObject o.key.value o.cpu.number _ _ o.seat.me _ c.args.pass.idle t c.next_ticket-ticket.ensures in
    let got = a.looks.hit (sym c.served_ticket.ensures ∙ c.if-served_ticket-ticket.true) in
    record { keeps = keeps_from g.O.SeqObject o.key.value o.cpu.number _ _ _ t.between c.arrive_adding-word.new.seat.me a.drawn got }

pub returns-then-served_ticket-ticket-clause-got : goal.returns-then-served_ticket-ticket-clause-got
returns-then-served_ticket-ticket-clause-got g c = let o = c.args.pass.outside in let t = c.arrive_adding-word.ensures.2 in
    let a = arrived g.O.SeqObject o.key.value o.cpu.number _ _ o.seat.me _ c.args.pass.idle t c.next_ticket-ticket.ensures in
    let got = a.looks.hit (sym c.served_ticket.ensures ∙ c.if-served_ticket-ticket.true) in (
      search rules,
      (
        record { outside = record { cpu = o.cpu; key = o.key; seat = record o.seat { me = t.between } }; ticket = c.next_ticket-ticket.result; drawn = a.drawn },
        c.requires,
        a.draws,
        (c.next_ticket-ticket.result, takes_kept g.O.SeqObject o.key.value o.cpu.number _ _ _ t.between c.arrive_adding-word.new.seat.me a.drawn got),
      ),
    )

pub invariant_of-result-else-served_ticket-ticket : goal.invariant_of-result-else-served_ticket-ticket
invariant_of-result-else-served_ticket-ticket g c = let o = c.args.pass.outside in let t = c.arrive_adding-word.ensures.2 in
    let a = arrived g.O.SeqObject o.key.value o.cpu.number _ _ o.seat.me _ c.args.pass.idle t c.next_ticket-ticket.ensures in
    let lag = a.looks.miss (λ e. c.if-served_ticket-ticket.false (c.served_ticket.ensures ∙ e)) in
    record { drawn = goes_without g.O.SeqObject o.key.value o.cpu.number _ _ _ t.between c.arrive_adding-word.new.seat.me a.drawn lag.goes }

pub returns-else-served_ticket-ticket-clause-missed : goal.returns-else-served_ticket-ticket-clause-missed
returns-else-served_ticket-ticket-clause-missed g c = let o = c.args.pass.outside in let t = c.arrive_adding-word.ensures.2 in
    let a = arrived g.O.SeqObject o.key.value o.cpu.number _ _ o.seat.me _ c.args.pass.idle t c.next_ticket-ticket.ensures in
    let lag = a.looks.miss (λ e. c.if-served_ticket-ticket.false (c.served_ticket.ensures ∙ e)) in (
      search rules,
      (
        record { outside = record { cpu = o.cpu; key = o.key; seat = record o.seat { me = t.between } }; ticket = c.next_ticket-ticket.result; drawn = a.drawn },
        c.requires,
        a.draws,
        (c.next_ticket-ticket.result, lags_without g.O.SeqObject o.key.value o.cpu.number _ _ _ t.between c.arrive_adding-word.new.seat.me a.drawn lag),
      ),
    )
