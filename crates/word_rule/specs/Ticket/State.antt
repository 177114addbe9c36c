-- A ticket lock: beside the line the ticket that is served. The j-th in line, from 0, has the j-th ticket from that one on.
use Rattle.std.specs.Prelude.{◌≡◌, ℕ, ◌+◌, ◌*◌, ◌%◌, ◌^◌, Bool, true, false, List, [], ◌∷◌, length}
use mathlib.Core.Option.{some}
use lib.ListN.{get_elem?}
use Rattle.event_log.specs.Distinct.{has}
use Rattle.word_rule.specs.{declared.lock_kind.Stage.Stage, declared.lock_kind.Stage.TheVariants.{Idle, Ticket}, declared.lock_kind.TicketStage.TheVariants.{Drawn, Served}, Line.First, LockDefinition.LockState}

abbrev pub TicketLock : Type 0
TicketLock = LockState ℕ

-- how many tickets there are: as many as half of a word has values
abbrev pub tickets : ℕ
tickets = 2 ^ 32

-- the word with these halves
abbrev pub ticket_word : ℕ → ℕ → ℕ
ticket_word next serving = next * tickets + serving

-- one word: its high half is the next ticket, the one behind those in line, its low half the ticket that is served. No more
-- CPUs are in line than a cell has, so as there are more tickets than CPUs the halves are alike only where nobody is
abbrev pub ticket_words : TicketLock → List ℕ
ticket_words l = ticket_word ((l.extra + length l.line.cpus) % tickets) l.extra ∷ []

module _ (cpus : List ℕ) (out : Bool) (x : ℕ) where
  -- the j-th in line, from 0, has the ticket serving + j; the first hasn't taken the object yet
  pub record Waits (serving ticket : ℕ) : Type 0 where
    pub at : ℕ
    pub there : get_elem? cpus at ≡ some x
    pub drawn : ticket ≡ (serving + at) % tickets
    pub home : at ≡ 0 → out ≡ false

  -- the CPU x stands there
  abbrev pub StandsInLine : ℕ → Stage → Type 0
  StandsInLine serving Idle = has x cpus ≡ false
  StandsInLine serving (Ticket (Drawn t)) = Waits serving t
  StandsInLine serving (Ticket (Served t)) = First cpus out x true × (t ≡ serving)
  StandsInLine serving _ = ⊥

-- whether one that stands there has the object
abbrev pub is_served : Stage → Bool
is_served (Ticket (Served t)) = true
is_served _ = false

-- where one stands, without its ticket
abbrev pub without_ticket : Stage → Stage
without_ticket (Ticket (Drawn t)) = Ticket (Drawn 0)
without_ticket (Ticket (Served t)) = Ticket (Served 0)
without_ticket q = q

-- the lock without ticket numbers
abbrev pub without_tickets : TicketLock → TicketLock
without_tickets l = record { line = record { cpus = l.line.cpus; out = l.line.out; stage = λ x. without_ticket (l.line.stage x) }; extra = 0 }
