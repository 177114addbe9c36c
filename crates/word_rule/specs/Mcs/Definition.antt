-- The MCS lock, as one record.
use Rattle.std.specs.Prelude.{◌≡◌, ℕ, true, Option, Some, None}
use Rattle.word_rule.specs.{declared.machine.step_done.StepDone.StepDone, declared.lock_kind.Stage.Stage, declared.lock_kind.Stage.TheVariants.{Idle, Mcs}, declared.lock_kind.McsStage.TheVariants.{Ready, Behind, Armed, Waiting, Holding, Alone, Leaving, Passing}, Line.last, LockDefinition.LockDefinition, Mcs.Acquire.{clear, enter, arm, link, look}, Mcs.Release.{see, empty, pass}, Mcs.State.{McsLock, follower, mcs_words, StandsInQueue, is_at_head, without_tries}, Mcs.Try.{prepare, try_queue}}
use Rattle.word_rule.specs.declared.machine.step_done.StepDone.TheVariants as steps

-- an MCS lock's next step, of a CPU that stands there
abbrev pub mcs_turn : McsLock → ℕ → Stage → McsLock × StepDone
mcs_turn l i Idle = (clear l i, steps.Clear)
mcs_turn l i (Mcs Ready) = enter l i (last l.line.cpus)
mcs_turn l i (Mcs (Behind p)) = (arm l i p, steps.Arm)
mcs_turn l i (Mcs (Armed p)) = (link l i p, steps.Link)
mcs_turn l i (Mcs Waiting) = look l i
mcs_turn l i (Mcs Holding) = see l i (Mcs Alone) (follower l.line)
mcs_turn l i (Mcs Alone) = empty l i
mcs_turn l i (Mcs Leaving) = see l i (Mcs Leaving) (follower l.line)
mcs_turn l i (Mcs (Passing j)) = (pass l i, steps.Pass)
mcs_turn l i _ = (l, steps.Idle)

abbrev pub mcs_lock : LockDefinition
mcs_lock = record {
  Extra = ℕ → Option ℕ;
  opening = λ first x. None;
  turn = λ l i. mcs_turn l i (l.line.stage i);
  attempt = λ l i seen. try_queue l i;
  prepare = prepare;
  words = mcs_words;
  fits = λ n. true;
  Stands = λ n. StandsInQueue;
  -- nobody has linked itself to the last of the queue
  KeepsExtra = λ n next cpus. (p : ℕ) → last cpus ≡ Some p → next p ≡ None;
  erase = without_tries;
  served = λ next. 0;
  holding = is_at_head;
  holder = λ mark. Mcs Holding;
}
