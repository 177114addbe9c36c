-- The text of a schedule: whose turn each step is, one word a step.
use Rattle.std.specs.{Prelude.{ℕ, ◌+◌, ◌≡◌, ◌<◌, ◌≤◌, ◌==◌, ◌||◌, ◌⊎◌, Bool, not, List, ◌∷◌, ◌++◌, map, length, decimal}, List.{AllByRecursion, filter, slice_split}}
use Rattle.sound_run.specs.declared.limits.TheConstants.{MOST_CPUS}
use Rattle.scripts.specs.declared.schedule.TheConstants.{MOST_STEPS}

-- a space or a line end
abbrev pub is_gap : ℕ → Bool
is_gap b = b == 32 || b == 10

-- the longest runs of other bytes, in order
unfoldable pub schedule_words : List ℕ → List (List ℕ)
schedule_words text = filter (λ word. not (length word == 0)) (slice_split is_gap text)

-- the words are the numbers of these CPUs, in order, at most 100,000
pub record IsSchedule (cpus : ℕ) (text steps : List ℕ) : Type 0 where
  pub words : schedule_words text ≡ map decimal steps
  pub each : AllByRecursion (λ cpu. cpu < cpus) steps
  pub few : length steps ≤ MOST_STEPS

-- the word is no CPU's number
abbrev pub NamesNoCpu : ℕ → List ℕ → Type 0
NamesNoCpu cpus word = (cpu : ℕ) → cpu < cpus → word ≡ decimal cpu → ⊥

-- word n, from 1, is the first that is no CPU's number, or it is one too many
pub record IsFirstBadWord (cpus : ℕ) (text : List ℕ) (n : ℕ) : Type 0 where
  pub before : List ℕ
  pub word : List ℕ
  pub rest : List (List ℕ)
  pub words : schedule_words text ≡ map decimal before ++ word ∷ rest
  pub each : AllByRecursion (λ cpu. cpu < cpus) before
  pub few : length before ≤ MOST_STEPS
  pub number : n ≡ length before + 1
  pub bad : NamesNoCpu cpus word ⊎ (length before ≡ MOST_STEPS)

-- a schedule within all limits, whatever the settings
abbrev pub ScheduleWithin : List ℕ → Type 0
ScheduleWithin steps = (length steps ≤ MOST_STEPS) × AllByRecursion (λ cpu. cpu < MOST_CPUS) steps
