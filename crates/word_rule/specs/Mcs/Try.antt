-- A try at an MCS lock: the CPU clears its `next`, gets the object where nobody is in the queue, and else goes without it.
use Rattle.std.specs.Prelude.{ℕ, true, if◌then◌else◌, List, [], ◌∷◌, None}
use Rattle.word_rule.specs.{declared.machine.step_done.StepDone.StepDone, declared.lock_kind.Stage.TheVariants.{Idle, Mcs, Trying}, declared.lock_kind.McsStage.TheVariants.Holding, Line.{alone_with_it, is_empty, going}, Mcs.State.{McsLock, naming}}
use Rattle.word_rule.specs.declared.machine.step_done.StepDone.TheVariants as steps

-- i, which isn't in the queue, clears its `next` for a try
abbrev pub prepare : McsLock → ℕ → McsLock
prepare l i = record { line = going l.line i Trying; extra = naming l.extra i None }

-- i has prepared its try: where nobody is in the queue it gets the object, by the clear that it has done and an enter; else it
-- is idle again, and has done nothing
abbrev pub try_queue : McsLock → ℕ → McsLock × List StepDone
try_queue l i = if is_empty l.line.cpus then (record l { line = alone_with_it l.line i (Mcs Holding) }, steps.Clear ∷ steps.Enter true ∷ []) else (record l { line = going l.line i Idle }, [])
