-- The ticket lock, as one record.
use Rattle.std.specs.Prelude.{ℕ, ◌%◌, ◌<◌, nat_lt}
use Rattle.word_rule.specs.{declared.machine.step_done.StepDone.StepDone, declared.lock_kind.Stage.Stage, declared.lock_kind.Stage.TheVariants.{Idle, Ticket}, declared.lock_kind.TicketStage.TheVariants.{Drawn, Served}, LockDefinition.LockDefinition, Ticket.Acquire.{draw, look}, Ticket.Release.serve, Ticket.State.{TicketLock, tickets, ticket_words, StandsInLine, is_served, without_tickets}, Ticket.Try.try_ticket}
use Rattle.word_rule.specs.declared.machine.step_done.StepDone.TheVariants as steps

-- a ticket lock's next step, of a CPU that stands there
abbrev pub ticket_turn : TicketLock → ℕ → Stage → TicketLock × StepDone
ticket_turn l i Idle = (draw l i, steps.Draw)
ticket_turn l i (Ticket (Drawn t)) = look l i t
ticket_turn l i (Ticket (Served t)) = (serve l i, steps.Serve)
ticket_turn l i _ = (l, steps.Idle)

abbrev pub ticket_lock : LockDefinition
ticket_lock = record {
  Extra = ℕ;
  opening = λ first. first % tickets;
  turn = λ l i. ticket_turn l i (l.line.stage i);
  attempt = try_ticket;
  prepare = λ l i. l;
  words = λ n l. ticket_words l;
  fits = λ n. nat_lt n tickets;
  Stands = λ n. StandsInLine;
  KeepsExtra = λ n serving cpus. (serving < tickets) × (n < tickets);
  erase = without_tickets;
  served = λ serving. serving;
  holding = is_served;
  holder = λ ticket. Ticket (Served ticket);
}
