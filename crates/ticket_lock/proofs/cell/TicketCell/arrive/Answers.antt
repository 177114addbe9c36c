use Rattle.std.proofs.Common.{rules, ◌∷◌, refl, sym, ap, ◌∙◌, Some}
use Rattle.atomic_table.specs.Table.{rest}
use Rattle.word_rule.specs.Locks.{holder}
use Rattle.word_rule.proofs.{Known.idle_alone, Acting.{took, takes_from, holds_from, goes_without, lags_without}}
use Rattle.ticket_lock.proofs.TicketAtOnce.{arrived, arriving}
use Rattle.ticket_lock.proofs.cell.TicketCell.arrive.Goals as goal

pub arrive_adding-word-requires : goal.arrive_adding-word-requires
arrive_adding-word-requires g c = let o = c.args.pass.outside in let w = c.args.pass.idle in let h = c.args.self.now.table.table.shared.key in (
  g.met.O.SeqObject.event_fits,
  (search rules, search rules, arriving g.O.SeqObject h _ _ o.seat.me w.pass_view.caller.acts c.args.self.now.kind w.at.stands (idle_alone o.seat.me.0.others w.at.alone)),
)

pub take-logged-requires : goal.take-logged-requires
take-logged-requires g c = let o = c.args.pass.outside in let t = c.arrive_adding-word.ensures.2 in
    let a = arrived g.O.SeqObject o.key.value o.cpu.number _ _ o.seat.me _ c.args.pass.idle t c.next_ticket-ticket.ensures in
    let got = a.looks.hit (sym c.served_ticket.ensures ∙ c.if-served_ticket-ticket.true) in
    let there = ap (λ m. m.1) got.seat ∙ ap (λ m. (0, Some got.object) ∷ rest m.1) (sym got.seat) in
    (g.met.O.SeqObject.event_fits, (c.arrive_adding-word.ensures.0 ∙ c.requires.table, (got.object, there)))

pub invariant_of-result : goal.invariant_of-result
invariant_of-result g c = let o = c.args.pass.outside in let t = c.arrive_adding-word.ensures.2 in
    let a = arrived g.O.SeqObject o.key.value o.cpu.number _ _ o.seat.me _ c.args.pass.idle t c.next_ticket-ticket.ensures in
    let got = a.looks.hit (sym c.served_ticket.ensures ∙ c.if-served_ticket-ticket.true) in
    let y = c.take-logged.result.0 in let e = c.take-logged.ensures in
    let out = took g.O.SeqObject _ _ t.between c.arrive_adding-word.new.seat.me c.take-logged.new.seat.me (Some y) y got e.2 e.3 refl in record {
      holds = holds_from g.O.SeqObject o.key.value o.cpu.number _ _ _ y t.between c.take-logged.new.seat.me a.drawn out;
      there = ap (λ z. z.0.main.stage) out.seat ∙ ap (λ k. holder k c.next_ticket-ticket.result) (sym (ap (λ k. k.kind) c.requires.reported ∙ c.args.self.now.kind));
    }

pub returns-then-served_ticket-ticket-clause-got : goal.returns-then-served_ticket-ticket-clause-got
returns-then-served_ticket-ticket-clause-got g c = let o = c.args.pass.outside in let t = c.arrive_adding-word.ensures.2 in
    let a = arrived g.O.SeqObject o.key.value o.cpu.number _ _ o.seat.me _ c.args.pass.idle t c.next_ticket-ticket.ensures in
    let got = a.looks.hit (sym c.served_ticket.ensures ∙ c.if-served_ticket-ticket.true) in
    let y = c.take-logged.result.0 in let e = c.take-logged.ensures in
    let out = took g.O.SeqObject _ _ t.between c.arrive_adding-word.new.seat.me c.take-logged.new.seat.me (Some y) y got e.2 e.3 refl in (
      search rules,
      (
        record { outside = record { cpu = o.cpu; key = o.key; seat = record o.seat { me = t.between } }; ticket = c.next_ticket-ticket.result; drawn = a.drawn },
        c.requires,
        a.draws,
        (c.next_ticket-ticket.result, takes_from g.O.SeqObject o.key.value o.cpu.number _ _ _ y t.between c.take-logged.new.seat.me a.drawn out),
      ),
    )

pub invariant_of-result-else-served_ticket-ticket : goal.invariant_of-result-else-served_ticket-ticket
invariant_of-result-else-served_ticket-ticket g c = let o = c.args.pass.outside in let t = c.arrive_adding-word.ensures.2 in
    let a = arrived g.O.SeqObject o.key.value o.cpu.number _ _ o.seat.me _ c.args.pass.idle t c.next_ticket-ticket.ensures in
    let lag = a.looks.miss (λ e. c.if-served_ticket-ticket.false (c.served_ticket.ensures ∙ e)) in
    record { drawn = goes_without g.O.SeqObject o.key.value o.cpu.number _ _ _ t.between c.arrive_adding-word.new.seat.me a.drawn lag.goes }

pub returns-else-served_ticket-ticket-clause-missed : goal.returns-else-served_ticket-ticket-clause-missed
returns-else-served_ticket-ticket-clause-missed g c = let o = c.args.pass.outside in let t = c.arrive_adding-word.ensures.2 in
    let a = arrived g.O.SeqObject o.key.value o.cpu.number _ _ o.seat.me _ c.args.pass.idle t c.next_ticket-ticket.ensures in
    let lag = a.looks.miss (λ e. c.if-served_ticket-ticket.false (c.served_ticket.ensures ∙ e)) in (
      search rules,
      (
        record { outside = record { cpu = o.cpu; key = o.key; seat = record o.seat { me = t.between } }; ticket = c.next_ticket-ticket.result; drawn = a.drawn },
        c.requires,
        a.draws,
        (c.next_ticket-ticket.result, lags_without g.O.SeqObject o.key.value o.cpu.number _ _ _ t.between c.arrive_adding-word.new.seat.me a.drawn lag),
      ),
    )
