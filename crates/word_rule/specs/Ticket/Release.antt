-- How a holder gives the object back at a ticket lock: it serves the next ticket.
use Rattle.std.specs.Prelude.{ℕ, ◌+◌, ◌%◌}
use Rattle.word_rule.specs.{Line.leaving, Ticket.State.{TicketLock, tickets}}

-- the object is at home, i leaves the line, and the next ticket is served
abbrev pub serve : TicketLock → ℕ → TicketLock
serve l i = record { line = leaving l.line i; extra = (l.extra + 1) % tickets }
