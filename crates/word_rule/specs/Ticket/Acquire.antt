-- How a CPU gets the object at a ticket lock: it draws a ticket, and looks until that is served.
use Rattle.std.specs.Prelude.{ℕ, ◌+◌, ◌%◌, true, false, if◌then◌else◌, length}
use Rattle.word_rule.specs.{declared.machine.step_done.StepDone.StepDone, declared.lock_kind.Stage.TheVariants.Ticket, declared.lock_kind.TicketStage.TheVariants.{Drawn, Served}, Line.{is_first, joining, taking}, Ticket.State.{TicketLock, tickets}}
use Rattle.word_rule.specs.declared.machine.step_done.StepDone.TheVariants as steps

-- i joins the end of the line, with the ticket that comes after those in line
abbrev pub draw : TicketLock → ℕ → TicketLock
draw l i = record l { line = joining l.line i (Ticket (Drawn ((l.extra + length l.line.cpus) % tickets))) }

-- the first of the line gets the object, and nobody else
abbrev pub look : TicketLock → ℕ → ℕ → TicketLock × StepDone
look l i t = if is_first i l.line.cpus then (record l { line = taking l.line i (Ticket (Served t)) }, steps.Look true) else (l, steps.Look false)
