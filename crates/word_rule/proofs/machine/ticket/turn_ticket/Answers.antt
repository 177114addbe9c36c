use Rattle.word_rule.proofs.Ticket.Shown.{drew}
use Rattle.word_rule.proofs.machine.ticket.turn_ticket.Goals as goal

pub returns-in-Idle : goal.returns-in-Idle
returns-in-Idle c = λ l h. drew _ _ _ l h c.args.cpu c.requires.exists c.next_ticket.result c.in-Idle.is c.next_ticket.ensures
