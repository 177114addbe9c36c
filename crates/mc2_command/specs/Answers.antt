-- What the program prints by the words: the record of a run or of a simulation, a record that was read, and its report,
-- verdict or order.
use Rattle.std.specs.{Prelude.{◌≡◌, ◌⊎◌, ℕ, List, Option, Some, None, String}, Borrow.Bor, Global.Global}
use Rattle.kernel_object.specs.{contracts.object.KernelObjectSeqObject.TheImpl.{ghosts as kernel}, KernelTypes.KernelTodo}
use Rattle.auditor.specs.{declared.fault.Fault.Fault, declared.fault.Verdict.Verdict, Audits.IsVerdict, Faults.IsFirstFault, VerdictText.{fault_text, verdict_text}}
use Rattle.cpu_worker.specs.{Report.report_text, Simulation.simulated}
use Rattle.sound_run.specs.{declared.place.Place.Place, Orders.HasOrder, Sound.Sound}
use Rattle.log_merge.specs.{CycleText.cycle_text, MergedRecords.{IsMerged, HasCycle}, MergedText.merged_text}
use Rattle.program.specs.{Inputs.{bytes_of, Reads}, Texts.{SpellsRecordOf, SpellsSettingsOf}}
use Rattle.records.specs.{RecordFaults.text_of, RecordRanges.Record, Runs.{opened_of, AsksFor}, Settings.{Settings, built_in_settings}}
use Rattle.scripts.specs.{ScheduleText.IsSchedule, ScriptText.AreScripts}
use Rattle.mc2_command.specs.{declared.arguments.Arguments.Arguments, Asked.Asks}
use Rattle.auditor.specs.declared.fault.Verdict.TheVariants as verdicts
use Rattle.mc2_command.specs.declared.arguments.Arguments.TheVariants as forms

-- a sound run of the scripts that the text spells, each CPU's whole
pub record IsRunOf (settings : Settings) (text : List ℕ) (r : Record) : Type 0 where
  pub under : r.settings ≡ settings
  pub asked : List (List KernelTodo)
  pub spelled : AreScripts settings text asked
  pub asks : AsksFor asked r.run
  pub sound : Sound kernel (opened_of settings) r.run

-- the run of those scripts whose steps are done in the order of the schedule; its entries have one order
pub record IsSimulationOf (settings : Settings) (text turns : List ℕ) (r : Record) : Type 0 where
  pub under : r.settings ≡ settings
  pub asked : List (List KernelTodo)
  pub spelled : AreScripts settings text asked
  pub steps : List ℕ
  pub scheduled : IsSchedule settings.cpus turns steps
  pub is : r.run ≡ simulated settings asked steps
  pub sound : Sound kernel (opened_of settings) r.run
  pub ordered : HasOrder r.run

module _ (held : Option (List ℕ) → Option (List ℕ)) where
  -- the settings under that name, or the built-in ones
  abbrev pub ReadsSettings : Option (List ℕ) → Settings → Type 0
  ReadsSettings None given = given ≡ built_in_settings
  ReadsSettings (Some name) given = SpellsSettingsOf held name given

  -- what `run` answers: a run of the scripts under that name, on the objects of the settings
  pub record AnswersRun (settings scripts : Option (List ℕ)) (r : Record) : Type 0 where
    pub given : Settings
    pub set : ReadsSettings settings given
    pub text : List ℕ
    pub read : Reads held scripts text
    pub is : IsRunOf given text r

  -- what `sim` answers: the simulation of the scripts and the schedule under those names, on the objects of the settings
  pub record AnswersSim (settings scripts schedule : List ℕ) (r : Record) : Type 0 where
    pub given : Settings
    pub set : ReadsSettings (Some settings) given
    pub text : List ℕ
    pub read : Reads held (Some scripts) text
    pub turns : List ℕ
    pub scheduled : Reads held (Some schedule) turns
    pub is : IsSimulationOf given text turns r

  -- what `report` answers: the report on the record under that name
  pub record AnswersReport (name : Option (List ℕ)) (answer : List ℕ) : Type 0 where
    pub of : Record
    pub read : SpellsRecordOf held name of
    pub is : answer ≡ report_text of

  -- what `audit` answers: the verdict on the record under that name
  pub record AnswersAudit (name : Option (List ℕ)) (verdict : Verdict) (answer : List ℕ) : Type 0 where
    pub of : Record
    pub read : SpellsRecordOf held name of
    pub judged : IsVerdict of verdict
    pub is : answer ≡ verdict_text of.settings verdict

  -- what `merge` answers: the order of all entries of the record under that name, which is sound
  pub record AnswersMerge (name : Option (List ℕ)) (of : Record) (places : List Place) : Type 0 where
    pub read : SpellsRecordOf held name of
    pub merged : IsMerged kernel (opened_of of.settings) of.run places

  -- why `merge` refuses the record under that name: this is its first fault
  pub record RefusesUnsound (name : Option (List ℕ)) (answer : List ℕ) : Type 0 where
    pub of : Record
    pub read : SpellsRecordOf held name of
    pub fault : Fault
    pub first : IsFirstFault kernel (opened_of of.settings) of.run fault
    pub is : answer ≡ fault_text of.settings fault

  -- or: it is sound, and this is a cycle of its entries, which excludes an order
  pub record RefusesCycle (name : Option (List ℕ)) (answer : List ℕ) : Type 0 where
    pub of : Record
    pub read : SpellsRecordOf held name of
    pub cycle : List Place
    pub has : HasCycle kernel (opened_of of.settings) of.run cycle
    pub is : answer ≡ cycle_text cycle

  -- the text answers those arguments
  abbrev pub AnswersTo : Arguments → List ℕ → Type 0
  AnswersTo (forms.Run settings scripts) text = (r : Record) × AnswersRun (bytes_of settings) (bytes_of scripts) r × (text ≡ text_of r)
  AnswersTo (forms.Sim settings scripts schedule) text = (r : Record) × AnswersSim settings.now scripts.now schedule.now r × (text ≡ text_of r)
  AnswersTo (forms.Report name) text = AnswersReport (bytes_of name) text
  AnswersTo (forms.Audit name) text = AnswersAudit (bytes_of name) verdicts.Sound text
  AnswersTo (forms.Merge name) text = (of : Record) × (places : List Place) × AnswersMerge (bytes_of name) of places × (text ≡ merged_text of places)
  AnswersTo (forms.Upgrade name) text = (of : Record) × SpellsRecordOf held (bytes_of name) of × (text ≡ text_of of)

  -- the verdict, for which those arguments ask, that names the first fault of a record
  abbrev pub FindsIn : Arguments → List ℕ → Type 0
  FindsIn (forms.Audit name) text = (fault : Fault) × AnswersAudit (bytes_of name) (verdicts.Unsound fault) text
  FindsIn _ text = ⊥

  -- the text goes with those arguments and the status: 0 for an answer, 1 where a fault was found
  abbrev pub AnswersFor : Arguments → ℕ → List ℕ → Type 0
  AnswersFor arguments status text = ((status ≡ 0) × AnswersTo arguments text) ⊎ ((status ≡ 1) × FindsIn arguments text)

  -- the text answers the words, by the command that they ask for
  abbrev pub Answers : List (String Global) → List ℕ → Type 0
  Answers words text = (arguments : Arguments) × Asks words arguments × AnswersTo arguments text

  -- the verdict, for which the words ask, that names the first fault of a record
  abbrev pub Finds : List (String Global) → List ℕ → Type 0
  Finds words text = (arguments : Arguments) × Asks words arguments × FindsIn arguments text

  -- what `merge` found, which the words ask for, where it gives no order
  abbrev pub FindsNoOrder : List (String Global) → Type 0
  FindsNoOrder words = (name : Option (Bor (List ℕ))) × Asks words (forms.Merge name) × (text : List ℕ) × (RefusesUnsound (bytes_of name) text ⊎ RefusesCycle (bytes_of name) text)

  -- the text goes with the words and the status
  abbrev pub AnswersWith : List (String Global) → ℕ → List ℕ → Type 0
  AnswersWith words status text = ((status ≡ 0) × Answers words text) ⊎ ((status ≡ 1) × Finds words text)

  -- it goes with the words and some status
  abbrev pub AnswersAny : List (String Global) → List ℕ → Type 0
  AnswersAny words text = (status : ℕ) × AnswersWith words status text
