-- How many steps are right from the first on.
use Rattle.std.specs.Prelude.{◌≡◌, ℕ, ◌+◌, ◌<◌, ◌≤◌, Bool, true, false, List, [], ◌∷◌, ◌++◌, length, take}
use Rattle.kernel_object.specs.{declared.call.KParams.KParams, declared.object.KernelObject.KernelObject, Kernel.kernel_opening}
use Rattle.custom_records.specs.Custom.{CustomStep}
use Rattle.custom_kernel.specs.KernelModel.{answers_last}

-- each of the first n steps is right
abbrev pub AreRight : (List CustomStep → Bool) → List CustomStep → ℕ → Type 0
AreRight right steps n = (k : ℕ) → k < n → right (take (k + 1) steps) ≡ true

-- so many steps are right from the first on, and the next one isn't, if there is one
pub record IsCountOf (right : List CustomStep → Bool) (steps : List CustomStep) (n : ℕ) : Type 0 where
  pub within : n ≤ length steps
  pub all : AreRight right steps n
  pub next : n < length steps → right (take (n + 1) steps) ≡ false

-- whether the last of these steps is the answer of an object that was opened so
abbrev pub answers_of : KParams → List CustomStep → Bool
answers_of p steps = answers_last (kernel_opening p) steps

-- what an object was opened with, its steps so far, and how many of them are right from the first on
pub record Counted : Type 0 where
  pub params : KParams
  pub steps : List CustomStep
  pub right : ℕ

-- nothing but how the object was opened
abbrev pub none_counted : KParams → Counted
none_counted p = record { params = p; steps = []; right = 0 }

-- behind the steps the object answers as from that state
abbrev pub LeadsTo : KernelObject → List CustomStep → KernelObject → Type 0
LeadsTo o steps state = (s : CustomStep) (more : List CustomStep) → answers_last o (steps ++ s ∷ more) ≡ answers_last state (s ∷ more)

-- it is the count; as long as all steps are right, the state is the one that they lead to
pub record IsCounting (c : Counted) (state : KernelObject) (goes_on : Bool) : Type 0 where
  pub count : IsCountOf (answers_of c.params) c.steps c.right
  pub all : goes_on ≡ true → c.right ≡ length c.steps
  pub leads : goes_on ≡ true → LeadsTo (kernel_opening c.params) c.steps state
  pub ended : goes_on ≡ false → c.right < length c.steps
