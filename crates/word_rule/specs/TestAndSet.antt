-- A control: a test-and-set lock. It is free or held, and has no line: any CPU that looks while it is free gets it.
use Rattle.std.specs.Prelude.{◌≡◌, ℕ, zero, suc, Bool, true, false, List, [], ◌∷◌}
use Rattle.event_log.specs.Distinct.{has}
use Rattle.word_rule.specs.{declared.machine.step_done.StepDone.StepDone, declared.lock_kind.Stage.Stage, declared.lock_kind.Stage.TheVariants.{Idle, Ticket}, declared.lock_kind.TicketStage.TheVariants.Served, Line.{First, alone_with_it, leaving}, LockDefinition.{LockDefinition, LockState}, Ticket.State.is_served}
use Rattle.word_rule.specs.declared.machine.step_done.StepDone.TheVariants as steps

abbrev pub TestAndSetState : Type 0
TestAndSetState = LockState (Unit {0})

-- a CPU that comes while the object is at home takes it
abbrev pub turn_at : TestAndSetState → ℕ → Bool → Stage → TestAndSetState × StepDone
turn_at l i true Idle = (l, steps.Look false)
turn_at l i false Idle = (record l { line = alone_with_it l.line i (Ticket (Served 0)) }, steps.Look true)
turn_at l i out (Ticket (Served t)) = (record l { line = leaving l.line i }, steps.Serve)
turn_at l i out q = (l, steps.Idle)

abbrev pub StandsAt : List ℕ → Bool → ℕ → Stage → Type 0
StandsAt cpus out x Idle = has x cpus ≡ false
StandsAt cpus out x (Ticket (Served t)) = First cpus out x true
StandsAt cpus out x q = ⊥

abbrev pub test_and_set : LockDefinition
test_and_set = record {
  Extra = Unit {0};
  opening = λ first. tt;
  turn = λ l i. turn_at l i l.line.out (l.line.stage i);
  attempt = λ l i seen. (l, []);
  prepare = λ l i. l;
  words = λ n l. [];
  fits = λ n. true;
  Stands = λ n cpus out x extra. StandsAt cpus out x;
  KeepsExtra = λ n extra cpus. Unit {0};
  erase = λ l. l;
  served = λ extra. 0;
  holding = is_served;
  holder = λ ticket. Ticket (Served 0);
}

-- which CPU does which step of a lock under this schedule
abbrev pub done_by : (d : LockDefinition) → LockState d.Extra → List ℕ → List (ℕ × StepDone)
done_by d l [] = []
done_by d l (i ∷ is) = (i, (d.turn l i).1) ∷ done_by d (d.turn l i).0 is

-- the schedule of this many rounds, each of which names two CPUs
abbrev pub rounds : ℕ → List ℕ
rounds zero = []
rounds (suc n) = 0 ∷ 1 ∷ 0 ∷ rounds n

-- in each round CPU 0 gets the object, CPU 1 looks and doesn't get it, and CPU 0 ends its hold
abbrev pub passed_in : ℕ → List (ℕ × StepDone)
passed_in zero = []
passed_in (suc n) = (0, steps.Look true) ∷ (1, steps.Look false) ∷ (0, steps.Serve) ∷ passed_in n
