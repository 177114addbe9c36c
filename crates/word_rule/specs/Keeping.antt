-- The rule for a caller that holds the object and leaves it in its slot.
use Rattle.std.specs.Prelude.{ℕ, [], ◌∷◌, Some}
use Rattle.event_log.specs.{declared.object.SeqObject.Ghosts}
use Rattle.word_rule.specs.{declared.lock_kind.Stage.Stage, Cell.{Cell, IsPassView, stored}, LockRuns.HasRun, Rule.Callers.{StandsAt, pass_view_of}, Rule.Seats.Seat}

-- it is at this stage, and its slot has the replay of the log that it has seen, to which it adds nothing
pub record IsKeeping {O P C R : Type 0} (meaning : Ghosts O P C R) (h : Cell O P C R) (cpu : ℕ) (stage : Stage) (m : Seat O P C R) : Type 0 where
  pub at : StandsAt h cpu stage ((0, Some (stored meaning h m.0.main.seen)) ∷ []) m
  pub pass_view : IsPassView meaning (pass_view_of h m.0)
  pub ran : HasRun h m.0.main.seen m.0.main.run
