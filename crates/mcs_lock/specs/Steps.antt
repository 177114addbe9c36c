-- What the MCS lock's own steps report to the seat that does them.
use Rattle.std.specs.Prelude.{◌≡◌, ◌≢◌, ℕ, ◌+◌, true, false, List, [], ◌∷◌, Option}
use Rattle.atomic_table.specs.Table.{Step}
use Rattle.event_log.specs.{declared.object.SeqObject.Ghosts, History.History}
use Rattle.word_rule.specs.{declared.machine.step_done.StepDone.StepDone, declared.lock_kind.Stage.Stage, declared.lock_kind.Stage.TheVariants.{Idle, Mcs, Trying}, declared.lock_kind.McsStage.TheVariants.{Ready, Behind, Armed, Waiting, Holding, Alone, Leaving, Passing}, Rule.Seats.Seat, Rule.Announced.{IsElse, Goes, Lags, Gets, Returns}}
use Rattle.word_rule.specs.declared.machine.step_done.StepDone.TheVariants as steps

module _ {O P C R : Type 0} (meaning : Ghosts O P C R) where
  -- the caller has cleared its `next`, to enter or for a try
  abbrev pub clears : Step (Option (History O P C R)) → Seat O P C R → ℕ → Seat O P C R → Type 0
  clears st m n m' = Goes meaning (Mcs Ready) (steps.Clear ∷ []) m m'

  abbrev pub prepares : Step (Option (History O P C R)) → Seat O P C R → ℕ → Seat O P C R → Type 0
  prepares st m n m' = Goes meaning Trying [] m m'

  -- the caller, behind p, has armed itself
  abbrev pub arms : Step (Option (History O P C R)) → Seat O P C R → ℕ → Seat O P C R → Type 0
  arms st m n m' = (p : ℕ) → m.0.main.stage ≡ Mcs (Behind p) → Goes meaning (Mcs (Armed p)) (steps.Arm ∷ []) m m'

  -- the caller has linked itself
  abbrev pub links : Step (Option (History O P C R)) → Seat O P C R → ℕ → Seat O P C R → Type 0
  links st m n m' = Goes meaning (Mcs Waiting) (steps.Link ∷ []) m m'

  -- the word n names a CPU that isn't the caller's, and the caller stands there now
  pub record Names (stage : ℕ → Stage) (done : List StepDone) (m : Seat O P C R) (n : ℕ) (m' : Seat O P C R) : Type 0 where
    pub cpu : ℕ
    pub word : n ≡ cpu + 1
    pub goes : Goes meaning (stage cpu) done m m'
    pub other : IsElse m.0 cpu

  -- the object comes where the tail named nobody, and else the caller is behind the one that it named
  pub record EnterOutcome (m : Seat O P C R) (n : ℕ) (m' : Seat O P C R) : Type 0 where
    pub first : n ≡ 0 → Gets meaning (Mcs Holding) (steps.Enter true ∷ []) m m'
    pub behind : n ≢ 0 → Names (λ p. Mcs (Behind p)) (steps.Enter false ∷ []) m n m'

  abbrev pub enters : Step (Option (History O P C R)) → Seat O P C R → ℕ → Seat O P C R → Type 0
  enters st m n m' = EnterOutcome m n m'

  -- the object comes where the tail named nobody, and else the caller is idle again
  pub record TryOutcome (m : Seat O P C R) (n : ℕ) (m' : Seat O P C R) : Type 0 where
    pub first : n ≡ 0 → Gets meaning (Mcs Holding) (steps.Clear ∷ steps.Enter true ∷ []) m m'
    pub busy : n ≢ 0 → Lags meaning Idle [] m m'

  abbrev pub tries : Step (Option (History O P C R)) → Seat O P C R → ℕ → Seat O P C R → Type 0
  tries st m n m' = TryOutcome m n m'

  -- the object comes where the caller's `locked` is clear, and only then
  pub record LookOutcome (m : Seat O P C R) (n : ℕ) (m' : Seat O P C R) : Type 0 where
    pub hit : n ≡ 0 → Gets meaning (Mcs Holding) (steps.Look true ∷ []) m m'
    pub miss : n ≢ 0 → Lags meaning (Mcs Waiting) (steps.Look false ∷ []) m m'

  abbrev pub looks : Step (Option (History O P C R)) → Seat O P C R → ℕ → Seat O P C R → Type 0
  looks st m n m' = LookOutcome m n m'

  -- the holder sees the one behind it where that has linked itself
  pub record SeeOutcome (m : Seat O P C R) (n : ℕ) (m' : Seat O P C R) : Type 0 where
    pub found : n ≢ 0 → Names (λ p. Mcs (Passing p)) (steps.See true ∷ []) m n m'
    pub none : n ≡ 0 → Goes meaning (Mcs Alone) (steps.See false ∷ []) m m'

  abbrev pub sees : Step (Option (History O P C R)) → Seat O P C R → ℕ → Seat O P C R → Type 0
  sees st m n m' = SeeOutcome m n m'

  -- the same, where there is one behind it
  pub record SeeAgainOutcome (m : Seat O P C R) (n : ℕ) (m' : Seat O P C R) : Type 0 where
    pub found : n ≢ 0 → Names (λ p. Mcs (Passing p)) (steps.See true ∷ []) m n m'
    pub none : n ≡ 0 → Lags meaning (Mcs Leaving) (steps.See false ∷ []) m m'

  abbrev pub sees_again : Step (Option (History O P C R)) → Seat O P C R → ℕ → Seat O P C R → Type 0
  sees_again st m n m' = SeeAgainOutcome m n m'

  -- the object goes home where the tail was the word that was asked for, and else there is one behind the holder
  pub record EmptyOutcome (last : ℕ) (m : Seat O P C R) (n : ℕ) (m' : Seat O P C R) : Type 0 where
    pub hit : n ≡ last → Returns Idle (steps.Empty true) m m'
    pub miss : n ≢ last → Lags meaning (Mcs Leaving) (steps.Empty false ∷ []) m m'

  abbrev pub empties : Step (Option (History O P C R)) → Seat O P C R → ℕ → Seat O P C R → Type 0
  empties st m n m' = EmptyOutcome st.first m n m'

-- the object goes home
abbrev pub passes : {O P C R : Type 0} → Step (Option (History O P C R)) → Seat O P C R → ℕ → Seat O P C R → Type 0
passes st m n m' = Returns Idle steps.Pass m m'
