-- The report of an arrival at a ticket lock, which is a draw and a look at once.
use Rattle.std.specs.Prelude.{ℕ, ◌/◌, Option}
use Rattle.atomic_table.specs.Table.{Step}
use Rattle.event_log.specs.{declared.object.SeqObject.Ghosts, History.History}
use Rattle.word_rule.specs.{Ticket.State.tickets, Rule.Seats.Seat}
use Rattle.ticket_lock.specs.Steps.{Draws, LookOutcome}

module _ {O P C R : Type 0} (meaning : Ghosts O P C R) where
  -- the caller draws, and then looks for its ticket in the word that it found
  pub record ArriveOutcome (m : Seat O P C R) (n : ℕ) (m' : Seat O P C R) : Type 0 where
    pub between : Seat O P C R
    pub draws : Draws meaning m n between
    pub looks : LookOutcome meaning (n / tickets) between n m'

  abbrev pub comes : Step (Option (History O P C R)) → Seat O P C R → ℕ → Seat O P C R → Type 0
  comes st m n m' = ArriveOutcome m n m'
