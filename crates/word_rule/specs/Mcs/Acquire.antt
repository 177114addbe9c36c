-- How a CPU gets the object at an MCS lock: it clears its `next` and enters the queue; behind another it arms itself, links
-- itself to that one, and looks until it is let go.
use Rattle.std.specs.Prelude.{ℕ, true, false, if◌then◌else◌, Option, Some, None}
use Rattle.word_rule.specs.{declared.machine.step_done.StepDone.StepDone, declared.lock_kind.Stage.TheVariants.Mcs, declared.lock_kind.McsStage.TheVariants.{Ready, Behind, Armed, Waiting, Holding}, Line.{alone_with_it, is_first, going, joining, taking}, Mcs.State.{McsLock, naming}}
use Rattle.word_rule.specs.declared.machine.step_done.StepDone.TheVariants as steps

-- the `next` of i becomes empty
abbrev pub clear : McsLock → ℕ → McsLock
clear l i = record { line = going l.line i (Mcs Ready); extra = naming l.extra i None }

-- i joins the queue. With nobody there it gets the object, else it is behind the old last
abbrev pub enter : McsLock → ℕ → Option ℕ → McsLock × StepDone
enter l i None = (record l { line = alone_with_it l.line i (Mcs Holding) }, steps.Enter true)
enter l i (Some p) = (record l { line = joining l.line i (Mcs (Behind p)) }, steps.Enter false)

abbrev pub arm : McsLock → ℕ → ℕ → McsLock
arm l i p = record l { line = going l.line i (Mcs (Armed p)) }

-- the `next` of p names i
abbrev pub link : McsLock → ℕ → ℕ → McsLock
link l i p = record { line = going l.line i (Mcs Waiting); extra = naming l.extra p (Some i) }

-- the first of the queue gets the object, and nobody else
abbrev pub look : McsLock → ℕ → McsLock × StepDone
look l i = if is_first i l.line.cpus then (record l { line = taking l.line i (Mcs Holding) }, steps.Look true) else (l, steps.Look false)
