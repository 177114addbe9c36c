use Rattle.std.proofs.Common.{rules, ◌∷◌, refl, sym, ap, ◌∙◌, Some}
use Rattle.atomic_table.specs.Table.{rest}
use Rattle.word_rule.specs.{declared.lock_kind.Stage.TheVariants.Ticket, declared.lock_kind.TicketStage.TheVariants.Served, Locks.holder}
use Rattle.word_rule.proofs.Acting.{took, holds_from, still_without, not_all}
use Rattle.ticket_lock.proofs.TicketRule.{trying}
use Rattle.ticket_lock.proofs.cell.TicketCell.exchange.Goals as goal

pub try_exchange-found-requires : goal.try_exchange-found-requires
try_exchange-found-requires g c = let t = c.args.trying in let w = t.idle in let h = c.args.self.now.table.table.shared.key in
    (g.met.O.SeqObject.event_fits, (search rules, search rules, (_, trying g.O.SeqObject h _ _ t.outside.seat.me w.pass_view.caller.acts c.args.self.now.kind t.word _ w.at.stands w.at.alone t.empty refl)))

pub take-logged-requires : goal.take-logged-requires
take-logged-requires g c = let t = c.try_exchange-found.ensures.2.hit c.if-found-word.true in
    (g.met.O.SeqObject.event_fits, (c.try_exchange-found.ensures.0 ∙ c.requires.table, (t.object, ap (λ m. m.1) t.seat ∙ ap (λ m. (0, Some t.object) ∷ rest m.1) (sym t.seat))))

pub invariant_of-result : goal.invariant_of-result
invariant_of-result g c = let a = c.args.trying in let o = a.outside in let t = c.try_exchange-found.ensures.2.hit c.if-found-word.true in let y = c.take-logged.result.0 in let e = c.take-logged.ensures in
    let got = took g.O.SeqObject _ _ o.seat.me c.try_exchange-found.new.seat.me c.take-logged.new.seat.me (Some y) y t e.2 e.3 refl in record {
      holds = holds_from g.O.SeqObject o.key.value o.cpu.number _ _ _ y o.seat.me c.take-logged.new.seat.me a.idle got;
      there = ap (λ z. z.0.main.stage) got.seat ∙ ((λ k. Ticket (Served (sym c.served_ticket-ticket.ensures k))) ∙ ap (λ k. holder k c.served_ticket-ticket.result) (sym (ap (λ k. k.kind) c.requires.reported ∙ c.args.self.now.kind)));
    }

pub returns-else-found-word-clause-busy : goal.returns-else-found-word-clause-busy
returns-else-found-word-clause-busy g c = let a = c.args.trying in let o = a.outside in let t = c.try_exchange-found.ensures.2 in
    (search rules, record { made = still_without g.O.SeqObject o.key.value o.cpu.number _ o.seat.me c.try_exchange-found.new.seat.me a.idle (t.same c.if-found-word.false); another = not_all g.O.SeqObject o.key.value o.seat.me a.idle.at.reported (t.lacks c.if-found-word.false a.read) })
