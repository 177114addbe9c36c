-- Reports of MCS lock operations that aren't a single turn.
use Rattle.std.specs.Prelude.{◌≡◌, ◌≢◌, ℕ, true, false, [], ◌∷◌, Option}
use Rattle.atomic_table.specs.Table.{Step}
use Rattle.event_log.specs.{declared.object.SeqObject.Ghosts, History.History}
use Rattle.word_rule.specs.{declared.lock_kind.Stage.TheVariants.{Idle, Mcs, Trying}, declared.lock_kind.McsStage.TheVariants.{Ready, Leaving}, Rule.Seats.Seat, Rule.Announced.{Goes, Lags, Returns}}
use Rattle.mcs_lock.specs.Steps.{EnterOutcome}
use Rattle.word_rule.specs.declared.machine.step_done.StepDone.TheVariants as steps

module _ {O P C R : Type 0} (meaning : Ghosts O P C R) where
  -- the caller clears its `next`, which is clear already, and then enters
  pub record ArriveOutcome (m : Seat O P C R) (n : ℕ) (m' : Seat O P C R) : Type 0 where
    pub between : Seat O P C R
    pub clears : Goes meaning (Mcs Ready) (steps.Clear ∷ []) m between
    pub enters : EnterOutcome meaning between n m'

  abbrev pub comes : Step (Option (History O P C R)) → Seat O P C R → ℕ → Seat O P C R → Type 0
  comes st m n m' = ArriveOutcome m n m'

  -- if the tail was the expected word, the caller returns the object and its `next` is clear; else another CPU entered after it
  pub record RestOutcome (last : ℕ) (m : Seat O P C R) (n : ℕ) (m' : Seat O P C R) : Type 0 where
    pub hit : n ≡ last → Returns Trying (steps.Empty true) m m'
    pub miss : n ≢ last → Lags meaning (Mcs Leaving) (steps.Empty false ∷ []) m m'

  abbrev pub goes_to_rest : Step (Option (History O P C R)) → Seat O P C R → ℕ → Seat O P C R → Type 0
  goes_to_rest st m n m' = RestOutcome st.first m n m'

  abbrev pub gives_up : Step (Option (History O P C R)) → Seat O P C R → ℕ → Seat O P C R → Type 0
  gives_up st m n m' = Goes meaning Idle [] m m'
