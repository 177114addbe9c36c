-- What was read of a schedule that comes in pieces, and the schedule that the rest of a source spells.
use Rattle.std.specs.{Prelude.{ℕ, ◌≡◌, ◌<◌, ◌≤◌, ◌⊎◌, false, List, [], ◌∷◌, ◌++◌, map, length, decimal, Option}, List.AllByRecursion}
use Rattle.scripts.specs.{declared.schedule.ScheduleFault.ScheduleFault, declared.schedule.ScheduleFault.TheVariants.{OutOfMemory, Word}, declared.schedule.TheConstants.MOST_STEPS, declared.schedule.step_reader.StepReader.StepReader, ScheduleText.{is_gap, schedule_words, IsSchedule, IsFirstBadWord}}
use Rattle.sound_run.specs.declared.limits.TheConstants.{MOST_CPUS}
use Rattle.record_lines.specs.{declared.streams.feeding.SourceFault.SourceFault, declared.streams.feeding.SourceFault.TheVariants.{ReadFailed, Reported}, Sources.IsRest}

-- the text's words are those of the steps, and then come the bytes of a word that may go on, if there are any
pub record HasReadSteps (cpus : ℕ) (text steps word : List ℕ) : Type 0 where
  pub words : (more : List ℕ) → schedule_words (text ++ more) ≡ map decimal steps ++ schedule_words (word ++ more)
  pub each : AllByRecursion (λ cpu. cpu < cpus) steps
  pub few : length steps ≤ MOST_STEPS
  pub room : 0 < length word → length steps < MOST_STEPS
  pub no_end : AllByRecursion (λ b. is_gap b ≡ false) word

-- where the word ends its CPU does the next step, and without a word there is none
abbrev pub EndsWord : ℕ → List ℕ → List ℕ → List ℕ → Type 0
EndsWord cpus word steps new = ((word ≡ []) × (new ≡ steps)) ⊎ ((cpu : ℕ) × (0 < length word) × (word ≡ decimal cpu) × (cpu < cpus) × (new ≡ steps ++ cpu ∷ []))

-- the steps that the rest of a source spells, for so many CPUs
abbrev pub SpellsScheduleRest : ℕ → Option (List ℕ) → List ℕ → Type 0
SpellsScheduleRest cpus remaining steps = (text : List ℕ) × IsRest remaining text × IsSchedule cpus text steps

-- the word that is named is the first of the rest of a source that can't come
abbrev pub NamesFirstBadWordOfRest : ℕ → Option (List ℕ) → SourceFault ScheduleFault → Type 0
NamesFirstBadWordOfRest cpus remaining ReadFailed = Unit {0}
NamesFirstBadWordOfRest cpus remaining (Reported OutOfMemory) = Unit {0}
NamesFirstBadWordOfRest cpus remaining (Reported (Word n)) = (text : List ℕ) × IsRest remaining text × IsFirstBadWord cpus text n

-- from the first on the text was read, for as many CPUs
pub record TakesSteps (first : StepReader) (text : List ℕ) (now : StepReader) : Type 0 where
  pub some : 1 ≤ first.cpus
  pub few : first.cpus ≤ MOST_CPUS
  pub same : now.cpus ≡ first.cpus
  pub read : HasReadSteps first.cpus text now.steps.items now.word.items

-- the word that is named is the first that can't come, whatever follows the text
abbrev pub RefusesSteps : StepReader → List ℕ → ScheduleFault → Type 0
RefusesSteps first text OutOfMemory = Unit {0}
RefusesSteps first text (Word n) = (more : List ℕ) → IsFirstBadWord first.cpus (text ++ more) n
