-- Which steps are right.
use Rattle.std.specs.Prelude.{◌≡◌, ◌⊎◌, ℕ, zero, suc, ◌-◌, ◌<◌, ◌≤◌, true, false, List, [], ◌∷◌, length}
use Rattle.event_log.specs.{declared.object.SeqObject.Ghosts, declared.event.Step.Step, declared.event.Event.Event, declared.event.TheConstants.MOST_CALLS}

-- which replies refuse; whether a step is right in a state; the state behind a step that is
pub record StepModel (T O P C R : Type 0) : Type 1 where
  pub meaning : Ghosts O P C R
  pub Right : T → Step O P C R → Type 0
  pub behind : T → Step O P C R → T

module _ {T O P C R : Type 0} where
  -- these three
  abbrev pub model_by : Ghosts O P C R → (T → Step O P C R → Type 0) → (T → Step O P C R → T) → StepModel T O P C R
  model_by meaning right behind = record { meaning = meaning; Right = right; behind = behind }

module _ {O P C R : Type 0} where
  -- so many steps more are right
  abbrev pub IsCounted : ℕ → Step O P C R → Type 0
  IsCounted n x = 0 < n

  -- behind one of them
  abbrev pub one_less : ℕ → Step O P C R → ℕ
  one_less n x = n - 1

module _ {O P C R : Type 0} (meaning : Ghosts O P C R) where
  -- the reply is the object's answer
  abbrev pub IsAnswer : O → Step O P C R → Type 0
  IsAnswer s x = x.reply ≡ (meaning.answer s x.call).1

  -- the object's state behind the call
  abbrev pub state_behind : O → Step O P C R → O
  state_behind s x = (meaning.answer s x.call).0

  -- a step of an object is right if its reply is the object's answer
  abbrev pub object_model : StepModel O O P C R
  object_model = model_by meaning IsAnswer state_behind

  -- of a log so many steps, from the first on, are right
  abbrev pub counted_model : StepModel ℕ O P C R
  counted_model = model_by meaning IsCounted one_less

module _ {T O P C R : Type 0} (model : StepModel T O P C R) where
  -- the state behind the steps
  abbrev pub behind_all : T → List (Step O P C R) → T
  behind_all s [] = s
  behind_all s (x ∷ xs) = behind_all (model.behind s x) xs

  -- every step is right in the state reached so far, and only the last may refuse
  abbrev pub AreRightFrom : T → List (Step O P C R) → Type 0
  AreRightFrom s [] = Unit {0}
  AreRightFrom s (x ∷ []) = model.Right s x
  AreRightFrom s (x ∷ y ∷ ys) = model.Right s x × (model.meaning.refusing x.reply ≡ false) × AreRightFrom (model.behind s x) (y ∷ ys)

  -- an event that may come in the state: 1 to 8 steps, which are right
  pub record IsNextBy (s : T) (e : Event O P C R) : Type 0 where
    pub some : 0 < length e.steps.list.items
    pub few : length e.steps.list.items ≤ MOST_CALLS
    pub right : AreRightFrom s e.steps.list.items

  -- the state behind the events
  abbrev pub replay_by : T → List (Event O P C R) → T
  replay_by s [] = s
  replay_by s (e ∷ es) = replay_by (behind_all s e.steps.list.items) es

  -- each event may come in the state reached so far
  abbrev pub LegalBy : T → List (Event O P C R) → Type 0
  LegalBy s [] = Unit {0}
  LegalBy s (e ∷ es) = IsNextBy s e × LegalBy (behind_all s e.steps.list.items) es

  -- there is a step i, which isn't right in the state reached so far, or an earlier one refused
  abbrev pub StepIsWrongBy : T → List (Step O P C R) → ℕ → Type 0
  StepIsWrongBy s [] i = ⊥
  StepIsWrongBy s (x ∷ xs) zero = model.Right s x → ⊥
  StepIsWrongBy s (x ∷ xs) (suc i) = ((model.meaning.refusing x.reply ≡ true) × (i < length xs)) ⊎ StepIsWrongBy (model.behind s x) xs i

  -- step i of event e is wrong, in the state that the earlier events leave
  abbrev pub EventIsWrongBy : T → List (Event O P C R) → ℕ → ℕ → Type 0
  EventIsWrongBy s [] e i = ⊥
  EventIsWrongBy s (x ∷ xs) zero i = StepIsWrongBy s x.steps.list.items i
  EventIsWrongBy s (x ∷ xs) (suc e) i = EventIsWrongBy (behind_all s x.steps.list.items) xs e i

  -- all steps are right, and leave the state t
  pub record AreRight (s : T) (steps : List (Step O P C R)) (t : T) : Type 0 where
    pub answers : AreRightFrom s steps
    pub state : t ≡ behind_all s steps

  -- the first step that is wrong
  pub record IsFirstWrong (s : T) (steps : List (Step O P C R)) (i : ℕ) : Type 0 where
    pub wrong : StepIsWrongBy s steps i
    pub first : (k : ℕ) → k < i → StepIsWrongBy s steps k → ⊥

  -- the first event and step that are wrong
  pub record IsFirstWrongIn (s : T) (log : List (Event O P C R)) (e i : ℕ) : Type 0 where
    pub wrong : EventIsWrongBy s log e i
    pub first : (f k : ℕ) → (f < e) ⊎ ((f ≡ e) × (k < i)) → EventIsWrongBy s log f k → ⊥
