use Rattle.std.proofs.Common.{sym, ap, ◌∙◌}
use Rattle.word_rule.specs.Cell.{first_pass}
use Rattle.guarded_cell.proofs.cell.AnyCell.open.Goals as goal

pub returns-in_ok-cell-in-Ticket-clause-passes : goal.returns-in_ok-cell-in-Ticket-clause-passes
returns-in_ok-cell-in-Ticket-clause-passes g c k x at = let p = c.in_ok-cell-in-Ticket.ensures.passes k x at in (p.0, p.1 ∙ ap (λ z. first_pass z 0 c.args.logged c.args.cpus k) (sym c.in-Ticket.is))

pub returns-in_ok-cell-in-Mcs-clause-passes : goal.returns-in_ok-cell-in-Mcs-clause-passes
returns-in_ok-cell-in-Mcs-clause-passes g c k x at = let p = c.in_ok-cell-in-Mcs.ensures.passes k x at in (p.0, p.1 ∙ ap (λ z. first_pass z 0 c.args.logged c.args.cpus k) (sym c.in-Mcs.is))
