-- A try at a ticket lock: the CPU gets the object where nobody is in line, and else goes without it.
use Rattle.std.specs.Prelude.{ℕ, true, ◌&&◌, ◌==◌, if◌then◌else◌, List, [], ◌∷◌}
use Rattle.word_rule.specs.{declared.machine.step_done.StepDone.StepDone, declared.lock_kind.Stage.TheVariants.Ticket, declared.lock_kind.TicketStage.TheVariants.Served, Line.{alone_with_it, is_empty}, Ticket.State.TicketLock}
use Rattle.word_rule.specs.declared.machine.step_done.StepDone.TheVariants as steps

-- i, which isn't in line, had found nobody there and that ticket served: where both are so still it draws, and gets the
-- object by its look at once
abbrev pub try_ticket : TicketLock → ℕ → ℕ → TicketLock × List StepDone
try_ticket l i ticket = if is_empty l.line.cpus && l.extra == ticket then (record l { line = alone_with_it l.line i (Ticket (Served ticket)) }, steps.Draw ∷ steps.Look true ∷ []) else (l, [])
