use Rattle.std.proofs.Common.{ap, ◌∙◌, sym}
use Rattle.word_rule.specs.declared.lock_kind.Stage.TheVariants.{Ticket}
use Rattle.word_rule.proofs.Ticket.Shown.{won, lost}
use Rattle.word_rule.proofs.machine.ticket.turn_in_line.Goals as goal

pub returns-then-served_ticket-ticket : goal.returns-then-served_ticket-ticket
returns-then-served_ticket-ticket c = λ l h. lost _ _ _ l h c.args.cpu c.requires.exists c.in-Drawn.ticket (c.requires.stands ∙ ap (λ q. Ticket q) c.in-Drawn.is) (λ e. c.if-served_ticket-ticket.true (c.served_ticket.ensures ∙ e))

pub returns-else-served_ticket-ticket : goal.returns-else-served_ticket-ticket
returns-else-served_ticket-ticket c = λ l h. won _ _ _ l h c.args.cpu c.requires.exists c.in-Drawn.ticket (c.requires.stands ∙ ap (λ q. Ticket q) c.in-Drawn.is) (sym c.served_ticket.ensures ∙ c.if-served_ticket-ticket.false)
