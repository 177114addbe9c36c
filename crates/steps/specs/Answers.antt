-- What the program answers by its words, and what it refuses.
use Rattle.std.specs.{Prelude.{◌≡◌, ◌⊎◌, ℕ, List, Option, Some, String}, Global.Global}
use Rattle.kernel_object.specs.KernelTypes.{KernelTodo}
use Rattle.program.specs.{Refusals.status_of, Texts.{RefusesSchedule, RefusesScripts, RefusesSettings, SpellsScheduleOf, SpellsScriptsOf, SpellsSettingsOf}, declared.refusal.Refusal.Refusal}
use Rattle.records.specs.Settings.{Settings}
use Rattle.steps.specs.{Asked.{AskNothing, AskedBy, MayHelp}, Lines.steps_text, declared.arguments.Arguments.Arguments}
use Rattle.program.specs.declared.refusal.Refusal.TheVariants as refusal

module _ (held : Option (List ℕ) → Option (List ℕ)) where
  -- the settings and scripts under those names
  pub record ReadsBoth (a : Arguments) (given : Settings) (asked : List (List KernelTodo)) : Type 0 where
    pub set : SpellsSettingsOf held a.settings.now given
    pub scripted : SpellsScriptsOf held (Some a.scripts.now) given asked

  -- the answer is the lines of the schedule's steps
  pub record AnswersTo (a : Arguments) (answer : List ℕ) : Type 0 where
    pub given : Settings
    pub asked : List (List KernelTodo)
    pub both : ReadsBoth a given asked
    pub steps : List ℕ
    pub scheduled : SpellsScheduleOf held a.schedule.now given.cpus steps
    pub is : answer ≡ steps_text given asked steps

  -- why a file is refused: each only where those before it are good
  abbrev pub RefusesTo : Arguments → Refusal → Type 0
  RefusesTo a f = RefusesSettings held a.settings.now f
      ⊎ (((given : Settings) × SpellsSettingsOf held a.settings.now given × RefusesScripts held (Some a.scripts.now) given f)
      ⊎ ((given : Settings) × (asked : List (List KernelTodo)) × ReadsBoth a given asked × RefusesSchedule held a.schedule.now given.cpus f))

  -- the text answers the words, by the files that they ask for; or they ask for help
  abbrev pub Answers : List (String Global) → List ℕ → Type 0
  Answers words text = ((arguments : Arguments) × AskedBy words arguments × AnswersTo arguments text) ⊎ MayHelp words

  -- the words are refused so: for want of memory, as they ask for nothing, or for a file that they ask for
  abbrev pub Refuses : List (String Global) → Refusal → Type 0
  Refuses words f = ((f ≡ refusal.OutOfMemory) ⊎ ((f ≡ refusal.BadWords) × AskNothing words)) ⊎ ((arguments : Arguments) × AskedBy words arguments × RefusesTo arguments f)

  -- such a refusal has that status
  abbrev pub RefusesWith : List (String Global) → ℕ → Type 0
  RefusesWith words status = (f : Refusal) × (status_of f ≡ status) × Refuses words f
