use Rattle.std.proofs.Common.{rules, sym, ap, subst, ◌∙◌}
use Rattle.word_rule.specs.{Cell.Grows, Rule.Callers.caller_of}
use Rattle.word_rule.proofs.{Acting.not_all, Lists.grows_self}
use Rattle.ticket_lock.proofs.TicketRule.{reading}
use Rattle.ticket_lock.proofs.cell.TicketCell.read.Goals as goal

pub read-word-requires : goal.read-word-requires
read-word-requires g c = let p = c.args.pass in let w = p.idle in let h = c.args.self.now.table.table.shared.key in
    (g.met.O.SeqObject.event_fits, (search rules, search rules, reading g.O.SeqObject h _ _ p.outside.seat.me w.pass_view.caller.acts c.args.self.now.kind w.at.stands w.at.alone))

pub returns-else-next_ticket-served_ticket-clause-busy : goal.returns-else-next_ticket-served_ticket-clause-busy
returns-else-next_ticket-served_ticket-clause-busy g c = let p = c.args.pass in let o = p.outside in let m = o.seat.me in let e = c.read-word.ensures.2 in
    let lacks = e.busy (λ same. c.if-next_ticket-served_ticket.false (c.next_ticket.ensures ∙ (same ∙ sym c.served_ticket.ensures))) in (
      search rules,
      record {
        caller = ap (λ z. caller_of o.key.value z.0) e.seat;
        grows = subst (λ z. Grows (caller_of o.key.value m.0).owned m.0.main.seen z.0.main.seen) (sym e.seat) (grows_self (caller_of o.key.value m.0).owned m.0.main.seen);
        another = not_all g.O.SeqObject o.key.value m p.idle.at.reported lacks;
      },
      ap (λ z. z.0.main.run) e.seat,
    )
