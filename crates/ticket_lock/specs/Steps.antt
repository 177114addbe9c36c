-- What the ticket lock's own steps report to the seat that does them.
use Rattle.std.specs.Prelude.{◌≡◌, ◌≢◌, ℕ, ◌/◌, ◌%◌, true, false, [], ◌∷◌, Option, Some}
use Rattle.atomic_table.specs.Table.{Step}
use Rattle.event_log.specs.{declared.object.SeqObject.Ghosts, History.History}
use Rattle.word_rule.specs.{declared.lock_kind.Stage.TheVariants.{Idle, Ticket}, declared.lock_kind.TicketStage.TheVariants.{Drawn, Served}, Cell.Cell, Ticket.State.tickets, Rule.Callers.caller_of, Rule.Seats.{Seat, noted}, Rule.Announced.{Lacks, Goes, Lags, Gets, Returns}, Ticket.Steps.HasDrawn}
use Rattle.word_rule.specs.declared.machine.step_done.StepDone.TheVariants as steps

module _ {O P C R : Type 0} where
  -- the caller keeps the word that was found; where its halves differ the seat doesn't have every number
  pub record Reads (m : Seat O P C R) (n : ℕ) (m' : Seat O P C R) : Type 0 where
    pub seat : m' ≡ (noted m.0 n, m.1)
    pub busy : n / tickets ≢ n % tickets → Lacks m.0

  abbrev pub reads : Step (Option (History O P C R)) → Seat O P C R → ℕ → Seat O P C R → Type 0
  reads st m n m' = Reads m n m'

  -- the object goes home
  abbrev pub serves : Step (Option (History O P C R)) → Seat O P C R → ℕ → Seat O P C R → Type 0
  serves st m n m' = Returns Idle steps.Serve m m'

module _ {O P C R : Type 0} (meaning : Ghosts O P C R) where
  -- the high half that was found is the ticket, which is the next one
  pub record Draws (m : Seat O P C R) (n : ℕ) (m' : Seat O P C R) : Type 0 where
    pub goes : Goes meaning (Ticket (Drawn (n / tickets))) (steps.Draw ∷ []) m m'
    pub drawn : (h : Cell O P C R) → m.0.reported ≡ h ∷ [] → HasDrawn (caller_of h m.0) (n / tickets) m'.0.main.run

  abbrev pub draws : Step (Option (History O P C R)) → Seat O P C R → ℕ → Seat O P C R → Type 0
  draws st m n m' = Draws m n m'

  -- the object comes where the served ticket is the caller's, and only then; else the seat doesn't have every number
  pub record LookOutcome (t : ℕ) (m : Seat O P C R) (n : ℕ) (m' : Seat O P C R) : Type 0 where
    pub hit : n % tickets ≡ t → Gets meaning (Ticket (Served t)) (steps.Look true ∷ []) m m'
    pub miss : n % tickets ≢ t → Lags meaning (Ticket (Drawn t)) (steps.Look false ∷ []) m m'

  abbrev pub looks : Step (Option (History O P C R)) → Seat O P C R → ℕ → Seat O P C R → Type 0
  looks st m n m' = (t : ℕ) → m.0.main.stage ≡ Ticket (Drawn t) → LookOutcome t m n m'

  -- the object comes where the word is still the one that was read; else nothing changes, and the seat doesn't have every
  -- number
  pub record TryOutcome (old : ℕ) (m : Seat O P C R) (n : ℕ) (m' : Seat O P C R) : Type 0 where
    pub hit : n ≡ old → Gets meaning (Ticket (Served (old % tickets))) (steps.Draw ∷ steps.Look true ∷ []) m m'
    pub same : n ≢ old → m' ≡ m
    pub lacks : n ≢ old → m.0.main.read ≡ Some old → Lacks m.0

  abbrev pub tries : Step (Option (History O P C R)) → Seat O P C R → ℕ → Seat O P C R → Type 0
  tries st m n m' = TryOutcome st.first m n m'
