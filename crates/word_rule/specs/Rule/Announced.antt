-- What a step reports to the seat that does it, at every lock.
use Rattle.std.specs.Prelude.{◌≡◌, ℕ, ◌<◌, Bool, true, false, ◌||◌, List, [], ◌∷◌, ◌++◌, Option, Some}
use Rattle.atomic_table.specs.Table.{Step}
use Rattle.event_log.specs.{declared.object.SeqObject.Ghosts, declared.event.Event.Event, Distinct.has, History.History}
use Rattle.word_rule.specs.{declared.lock_kind.Stage.Stage, declared.machine.step_done.StepDone.StepDone, declared.view.TraceStep.TraceStep, declared.view.CallerView.CallerView, Cell.{Cell, Grows, Lawful, stored}, Rule.CellInvariant.{EachFrom, Caller, SeatView}, Locks.holding, LockRuns.{Extends, ExtendsUntil, HasRun}, OneHold.{leaving, silently}, Rule.Seats.{Seat, moved_on, settled, merged}}

-- one of the callers has the number
abbrev pub any_has : {E : Type 0} → ℕ → List (CallerView E) → Bool
any_has x [] = false
any_has x (c ∷ cs) = has x c.owned || any_has x cs

module _ {O P C R : Type 0} where
  -- the seat has each number of the cell
  pub record HasAll (v : SeatView O P C R) (h : Cell O P C R) : Type 0 where
    pub reported : v.reported ≡ h ∷ []
    pub each : (x : ℕ) → x < h.numbers → (has x v.main.owned || any_has x v.others) ≡ true

  -- the seat lacks a number of its cell
  abbrev pub Lacks : SeatView O P C R → Type 0
  Lacks v = (h : Cell O P C R) → HasAll v h → ⊥

  -- x is a number of the cell that isn't the caller's
  pub record IsElse (v : SeatView O P C R) (x : ℕ) : Type 0 where
    pub other : has x v.main.owned ≡ false
    pub inside : (h : Cell O P C R) → v.reported ≡ h ∷ [] → x < h.numbers

module _ {O P C R : Type 0} (meaning : Ghosts O P C R) where
  -- the log is lawful and the run left it; both begin with what the seat's callers have seen. The first has done these
  -- steps, and the others nothing
  pub record Learns (v : SeatView O P C R) (done : List (TraceStep (Event O P C R))) (log : List (Event O P C R)) (run : List (TraceStep (Event O P C R))) : Type 0 where
    pub grows : Grows (λ x. has x v.main.owned) v.main.seen log
    pub extends : Extends (λ x. has x v.main.owned) v.main.run done run
    pub others : EachFrom (λ _ (c : Caller O P C R). Grows (λ x. has x c.owned) c.seen log × Extends (λ x. has x c.owned) c.run [] run) 1 v.others
    pub valid : (h : Cell O P C R) → v.reported ≡ h ∷ [] → Lawful meaning h log
    pub ran : (h : Cell O P C R) → v.reported ≡ h ∷ [] → HasRun h log run

  -- the first caller has done these steps and stands there now; while it has the object no event comes
  pub record Goes (stage : Stage) (done : List StepDone) (m m' : Seat O P C R) : Type 0 where
    pub log : List (Event O P C R)
    pub run : List (TraceStep (Event O P C R))
    pub seat : m' ≡ (moved_on m.0 stage log run, m.1)
    pub learns : Learns m.0 (silently m.0.main.cpu done) log run
    pub still : holding m.0.main.stage ≡ true → log ≡ m.0.main.seen

  -- the same, and the seat doesn't have every number
  pub record Lags (stage : Stage) (done : List StepDone) (m m' : Seat O P C R) : Type 0 where
    pub goes : Goes stage done m m'
    pub lacks : Lacks m.0

  -- the object comes to the first caller by these steps, and it stands there now: it is the replay of a log that all callers
  -- of the seat have seen now
  pub record Gets (stage : Stage) (done : List StepDone) (m m' : Seat O P C R) : Type 0 where
    pub object : History O P C R
    pub run : List (TraceStep (Event O P C R))
    pub seat : m' ≡ (settled m.0 stage object.log run, (0, Some object) ∷ m.1)
    pub learns : Learns m.0 (silently m.0.main.cpu done) object.log run
    pub replayed : (h : Cell O P C R) → m.0.reported ≡ h ∷ [] → object ≡ stored meaning h object.log

  -- the callers of a seat learn one log and one run
  pub record Meets (become : List (Event O P C R) → List (TraceStep (Event O P C R)) → SeatView O P C R) (m m' : Seat O P C R) : Type 0 where
    pub log : List (Event O P C R)
    pub run : List (TraceStep (Event O P C R))
    pub seat : m' ≡ (become log run, m.1)
    pub learns : Learns m.0 [] log run

  abbrev pub meets : Step (Option (History O P C R)) → Seat O P C R → ℕ → Seat O P C R → Type 0
  meets st m n m' = Meets (settled m.0 m.0.main.stage) m m'

  -- and become one
  abbrev pub joins : Step (Option (History O P C R)) → Seat O P C R → ℕ → Seat O P C R → Type 0
  joins st m n m' = Meets (merged m.0) m m'

module _ {O P C R : Type 0} where
  -- the first caller has ended its hold by this step, the last of the run that it has seen now, and stands there. The object x
  -- goes home, with the events that were added to the log that it had seen
  pub record Left (stage : Stage) (step : StepDone) (v : SeatView O P C R) (m' : Seat O P C R) (x : History O P C R) (more : List (ℕ × Option (History O P C R))) : Type 0 where
    pub run : List (TraceStep (Event O P C R))
    pub events : List (Event O P C R)
    pub seat : m' ≡ (settled v stage x.log run, more)
    pub added : x.log ≡ v.main.seen ++ events
    pub extends : ExtendsUntil (λ y. has y v.main.owned) v.main.run [] (leaving v.main.cpu step events) run
    pub ran : (h : Cell O P C R) → v.reported ≡ h ∷ [] → HasRun h x.log run

  abbrev pub Returns : Stage → StepDone → Seat O P C R → Seat O P C R → Type 0
  Returns stage step m m' = (x : History O P C R) (more : List (ℕ × Option (History O P C R))) → m.1 ≡ (0, Some x) ∷ more → Left stage step m.0 m' x more

  -- the slot goes back, and the hold doesn't end
  abbrev pub returns_slot : Step (Option (History O P C R)) → Seat O P C R → ℕ → Seat O P C R → Type 0
  returns_slot st m n m' = m' ≡ (m.0, [])

  -- there is no such seat
  abbrev pub second_holder : Step (Option (History O P C R)) → Seat O P C R → ℕ → Seat O P C R → Type 0
  second_holder st m n m' = ⊥
