-- What a cell's own types say of their seats, and what the interface shows of them.
use Rattle.std.specs.Prelude.{◌≡◌, ◌≢◌, ℕ, List, [], ◌∷◌, Option, Some, None}
use Rattle.event_log.specs.{declared.object.SeqObject.Ghosts, declared.event.Event.Event, Distinct.has, History.History, Log.{Begins, of}}
use Rattle.word_rule.specs.{declared.lock_kind.Stage.Stage, Cell.{Cell, Caller, PassView, HoldView, IsPassView, IsHoldView}, CallerState.CallerState, LockRuns.HasRun, Rule.CellInvariant.SeatView, Rule.Seats.Seat}

module _ {O P C R : Type 0} where
  -- log b is log a, and after it events of this CPU alone
  pub record AddedBy (cpu : ℕ) (a b : List (Event O P C R)) : Type 0 where
    pub begins : Begins a b
    pub others : (x : ℕ) → x ≢ cpu → of x b ≡ of x a

  -- the caller of a seat
  abbrev pub caller_of : Cell O P C R → SeatView O P C R → Caller O P C R
  caller_of h v = record { cell = h; owned = λ k. has k v.main.owned; acting = v.main.cpu }

  -- what it knows without the object
  abbrev pub pass_view_of : Cell O P C R → SeatView O P C R → PassView O P C R
  pass_view_of h v = record { caller = caller_of h v; seen = v.main.seen }

  -- what it knows with the object
  abbrev pub hold_view_of : Cell O P C R → History O P C R → SeatView O P C R → HoldView O P C R
  hold_view_of h x v = record { caller = caller_of h v; history = x }

  -- where it stands without the object, and with it
  abbrev pub state_without : Cell O P C R → Stage → Seat O P C R → CallerState O P C R
  state_without h stage m = record { caller = caller_of h m.0; stage = stage; seen = m.0.main.seen; run = m.0.main.run; has = None }

  abbrev pub state_with : Cell O P C R → Stage → History O P C R → Seat O P C R → CallerState O P C R
  state_with h stage x m = record { caller = caller_of h m.0; stage = stage; seen = m.0.main.seen; run = m.0.main.run; has = Some x }

  -- a caller is of a cell: its seat is at the cell's table, and it has received the key that the table has received
  pub record IsAt {T : Type 0} (cell_table : T) (cell_key : Cell O P C R) (table_id : T) (key : Cell O P C R) : Type 0 where
    pub table : table_id ≡ cell_table
    pub reported : key ≡ cell_key

  -- the seat has one caller, which acts as that number and stands there, and these slots are out with it
  pub record StandsAt (h : Cell O P C R) (cpu : ℕ) (stage : Stage) (slots : List (ℕ × Option (History O P C R))) (m : Seat O P C R) : Type 0 where
    pub alone : m.0.others ≡ []
    pub number : m.0.main.cpu ≡ cpu
    pub carries : m.1 ≡ slots
    pub stands : m.0.main.stage ≡ stage
    pub reported : m.0.reported ≡ h ∷ []

module _ {O P C R : Type 0} (meaning : Ghosts O P C R) where
  -- a caller without the object, which stands there
  pub record IsWithout (h : Cell O P C R) (cpu : ℕ) (stage : Stage) (m : Seat O P C R) : Type 0 where
    pub at : StandsAt h cpu stage [] m
    pub pass_view : IsPassView meaning (pass_view_of h m.0)
    pub ran : HasRun h m.0.main.seen m.0.main.run

  -- a caller that has the object, to whose log it alone has added
  pub record IsWith (h : Cell O P C R) (cpu : ℕ) (stage : Stage) (x : History O P C R) (m : Seat O P C R) : Type 0 where
    pub at : StandsAt h cpu stage ((0, None) ∷ []) m
    pub added : AddedBy m.0.main.cpu m.0.main.seen x.log
    pub hold_view : IsHoldView meaning (hold_view_of h x m.0)
    pub ran : HasRun h m.0.main.seen m.0.main.run
