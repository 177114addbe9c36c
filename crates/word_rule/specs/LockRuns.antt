-- The run of a cell's lock: who did which step, in order, and the events that each step left in the log.
use Rattle.std.specs.{Prelude.{◌≡◌, ℕ, ◌<◌, Bool, true, false, cond, ◌==◌, List, [], ◌∷◌, ◌++◌, map}, List.{AllByRecursion, filter}}
use Rattle.event_log.specs.{declared.event.Event.Event, Log.Begins}
use Rattle.word_rule.specs.{declared.machine.step_done.StepDone.StepDone, declared.view.TraceStep.TraceStep, Cell.Cell, Locks.{Lock, Fits, opening_lock, turn}, StepKinds.{ends_hold, arrives}}

module _ {E : Type 0} where
  -- the steps of that CPU, in order
  abbrev pub by_cpu : ℕ → List (TraceStep E) → List (TraceStep E)
  by_cpu cpu run = filter (λ m. m.cpu == cpu) run

  -- all events that the steps left, in order
  abbrev pub events_in : List (TraceStep E) → List E
  events_in [] = []
  events_in (m ∷ ms) = m.events ++ events_in ms

  -- the CPUs whose steps pass a test, in the order of the steps
  abbrev pub doers_in : (StepDone → Bool) → List (TraceStep E) → List ℕ
  doers_in test [] = []
  doers_in test (m ∷ ms) = cond (test m.step) (m.cpu ∷ doers_in test ms) (doers_in test ms)

  -- who arrives in line, and who ends a hold
  abbrev pub arrivals_in : List (TraceStep E) → List ℕ
  arrivals_in = doers_in arrives

  abbrev pub endings_in : List (TraceStep E) → List ℕ
  endings_in = doers_in ends_hold

  -- run b begins with run a, and of the owned numbers it has these steps more and no others
  pub record Extends (owned : ℕ → Bool) (a added b : List (TraceStep E)) : Type 0 where
    pub begins : Begins a b
    pub own : (k : ℕ) → owned k ≡ true → by_cpu k b ≡ by_cpu k (a ++ added)

  -- the same, and then came this step, the last of run b
  pub record ExtendsUntil (owned : ℕ → Bool) (a added : List (TraceStep E)) (last : TraceStep E) (b : List (TraceStep E)) : Type 0 where
    pub before : List (TraceStep E)
    pub extends : Extends owned a added before
    pub is : b ≡ before ++ last ∷ []

  -- the lock after the CPUs' next steps, in this order
  abbrev pub lock_after : List (TraceStep E) → Lock → Lock
  lock_after [] l = l
  lock_after (m ∷ ms) l = lock_after ms (turn l m.cpu).0

  -- what these next steps are
  abbrev pub turns_after : List (TraceStep E) → Lock → List StepDone
  turns_after [] l = []
  turns_after (m ∷ ms) l = (turn l m.cpu).1 ∷ turns_after ms (turn l m.cpu).0

  -- each step is what the CPU's next step does to the lock that the steps before it have left
  abbrev pub AreTurns : List (TraceStep E) → Lock → Type 0
  AreTurns run l = map (λ m. m.step) run ≡ turns_after run l

module _ {O P C R : Type 0} where
  -- the CPU is one of n; the events are its own, and there are none where its step ends no hold
  pub record IsTraceStep (n : ℕ) (m : TraceStep (Event O P C R)) : Type 0 where
    pub inside : m.cpu < n
    pub own : AllByRecursion (λ e. e.cpu ≡ m.cpu) m.events
    pub silent : ends_hold m.step ≡ false → m.events ≡ []

  -- a run of the cell's lock that left this log: the steps are the lock's, whatever its first ticket was, and it is for so
  -- many CPUs
  pub record HasRun (cell : Cell O P C R) (log : List (Event O P C R)) (run : List (TraceStep (Event O P C R))) : Type 0 where
    pub turns : (first : ℕ) → AreTurns run (opening_lock cell.kind first)
    pub left : log ≡ cell.opening ++ events_in run
    pub each : AllByRecursion (IsTraceStep cell.numbers) run
    pub fits : Fits cell.kind cell.numbers
