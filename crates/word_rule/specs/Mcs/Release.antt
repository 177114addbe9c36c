-- How a holder gives the object back at an MCS lock: it looks for a follower; with none it empties the queue, if it is the
-- last there; else it sees the follower once that has linked itself, and passes the object on.
use Rattle.std.specs.Prelude.{ℕ, true, false, if◌then◌else◌, Option, Some, None}
use Rattle.word_rule.specs.{declared.machine.step_done.StepDone.StepDone, declared.lock_kind.Stage.Stage, declared.lock_kind.Stage.TheVariants.Mcs, declared.lock_kind.McsStage.TheVariants.{Leaving, Passing}, Line.{last, is_named, going, leaving}, Mcs.State.McsLock}
use Rattle.word_rule.specs.declared.machine.step_done.StepDone.TheVariants as steps

-- the holder's follower, if there is one that has linked itself. With none the holder stands elsewhere
abbrev pub see : McsLock → ℕ → Stage → Option ℕ → McsLock × StepDone
see l i otherwise None = (record l { line = going l.line i otherwise }, steps.See false)
see l i otherwise (Some j) = (record l { line = going l.line i (Mcs (Passing j)) }, steps.See true)

-- the last of the queue leaves it empty, and the object is at home; another knows that it has a follower
abbrev pub empty : McsLock → ℕ → McsLock × StepDone
empty l i = if is_named i (last l.line.cpus) then (record l { line = leaving l.line i }, steps.Empty true) else (record l { line = going l.line i (Mcs Leaving) }, steps.Empty false)

-- the object is at home, and i leaves the queue
abbrev pub pass : McsLock → ℕ → McsLock
pass l i = record l { line = leaving l.line i }
