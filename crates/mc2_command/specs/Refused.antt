-- Why a command refuses what its words ask for: for which cause, and what was read before.
use Rattle.std.specs.{Prelude.{◌≡◌, ◌⊎◌, ◌<◌, ℕ, List, Option, Some, None, String, string_bytes}, Global.Global}
use Rattle.kernel_object.specs.KernelTypes.{KernelTodo}
use Rattle.auditor.specs.VerdictText.{fault_text}
use Rattle.log_merge.specs.{CycleText.cycle_text, declared.record_merge.MergeFault.MergeFault}
use Rattle.program.specs.{Inputs.bytes_of, Texts.{RefusesRecord, RefusesSchedule, RefusesScripts, RefusesSettings, SpellsScriptsOf}, declared.refusal.Refusal.Refusal}
use Rattle.records.specs.Settings.{Settings}
use Rattle.mc2_command.specs.{declared.arguments.Arguments.Arguments, declared.fault.CommandFault.CommandFault, Answers.{ReadsSettings, RefusesCycle, RefusesUnsound}, Asked.{AskNothing, Asks}, Faults.status_of}
use Rattle.log_merge.specs.declared.record_merge.MergeFault.TheVariants as merging
use Rattle.program.specs.declared.refusal.Refusal.TheVariants as refusal
use Rattle.mc2_command.specs.declared.arguments.Arguments.TheVariants as forms
use Rattle.mc2_command.specs.declared.fault.CommandFault.TheVariants as fault

-- memory ran out
abbrev pub IsMemory : CommandFault → Type 0
IsMemory f = f ≡ fault.Common refusal.OutOfMemory

-- the fault that a record's cause becomes, in words, unless memory ran out
abbrev pub IsNoOrder : Settings → MergeFault → CommandFault → Type 0
IsNoOrder settings merging.OutOfMemory f = IsMemory f
IsNoOrder settings (merging.Unsound cause) f = IsMemory f ⊎ ((text : String Global) × (f ≡ fault.Unsound text) × (string_bytes text ≡ fault_text settings cause))
IsNoOrder settings (merging.Cycle cycle) f = IsMemory f ⊎ ((text : String Global) × (f ≡ fault.Cycle text) × (string_bytes text ≡ cycle_text cycle))

-- the refusal is one that programs share, for such a cause
abbrev pub IsCommon : (Refusal → Type 0) → CommandFault → Type 0
IsCommon Is f = (cause : Refusal) × (f ≡ fault.Common cause) × Is cause

module _ (held : Option (List ℕ) → Option (List ℕ)) where
  -- why the settings under that name are refused; the built-in ones only for want of memory
  abbrev pub RefusesSettingsOf : Option (List ℕ) → Refusal → Type 0
  RefusesSettingsOf None cause = cause ≡ refusal.OutOfMemory
  RefusesSettingsOf (Some name) cause = RefusesSettings held name cause

  -- the settings under the first name are good, and so are the scripts under the second on their objects
  abbrev pub ReadsBoth : Option (List ℕ) → Option (List ℕ) → Settings → Type 0
  ReadsBoth settings scripts given = ReadsSettings held settings given × ((asked : List (List KernelTodo)) × SpellsScriptsOf held scripts given asked)

  -- why one of both is refused: the scripts only under good settings
  abbrev pub RefusesBoth : Option (List ℕ) → Option (List ℕ) → Refusal → Type 0
  RefusesBoth settings scripts cause = RefusesSettingsOf settings cause ⊎ ((given : Settings) × ReadsSettings held settings given × RefusesScripts held scripts given cause)

  -- why `run` refuses: one of both is bad, or both are good and memory or a thread of a CPU of theirs is wanting
  abbrev pub RefusesRun : Option (List ℕ) → Option (List ℕ) → CommandFault → Type 0
  RefusesRun settings scripts f = IsCommon (RefusesBoth settings scripts) f ⊎ ((given : Settings) × ReadsBoth settings scripts given × (IsMemory f ⊎ ((cpu : ℕ) × (f ≡ fault.NoThreadStarted cpu) × (cpu < given.cpus))))

  -- why `sim` refuses: the schedule only if both are good
  abbrev pub RefusesSim : List ℕ → List ℕ → List ℕ → CommandFault → Type 0
  RefusesSim settings scripts schedule f = IsCommon (RefusesBoth (Some settings) (Some scripts)) f ⊎ ((given : Settings) × ReadsBoth (Some settings) (Some scripts) given × IsCommon (RefusesSchedule held schedule given.cpus) f)

  -- why `merge` refuses beside: this is the record's first fault, or a cycle of its entries
  abbrev pub RefusesOrder : Option (List ℕ) → CommandFault → Type 0
  RefusesOrder name (fault.Common cause) = ⊥
  RefusesOrder name (fault.NoThreadStarted cpu) = ⊥
  RefusesOrder name (fault.Unsound text) = RefusesUnsound held name (string_bytes text)
  RefusesOrder name (fault.Cycle text) = RefusesCycle held name (string_bytes text)

  -- why `merge` refuses
  abbrev pub RefusesMerge : Option (List ℕ) → CommandFault → Type 0
  RefusesMerge name f = IsCommon (RefusesRecord held name) f ⊎ RefusesOrder name f

  -- those arguments are refused so
  abbrev pub RefusesTo : Arguments → CommandFault → Type 0
  RefusesTo (forms.Run settings scripts) f = RefusesRun (bytes_of settings) (bytes_of scripts) f
  RefusesTo (forms.Sim settings scripts schedule) f = RefusesSim settings.now scripts.now schedule.now f
  RefusesTo (forms.Report name) f = IsCommon (RefusesRecord held (bytes_of name)) f
  RefusesTo (forms.Audit name) f = IsCommon (RefusesRecord held (bytes_of name)) f
  RefusesTo (forms.Merge name) f = RefusesMerge (bytes_of name) f
  RefusesTo (forms.Upgrade name) f = IsCommon (RefusesRecord held (bytes_of name)) f

  -- the words are refused so: for want of memory, as none of the forms, or by the command that they ask for
  abbrev pub Refuses : List (String Global) → CommandFault → Type 0
  Refuses words f = (IsMemory f ⊎ ((f ≡ fault.Common refusal.BadWords) × AskNothing words)) ⊎ ((arguments : Arguments) × Asks words arguments × RefusesTo arguments f)

  -- such a refusal has that status
  abbrev pub RefusesWith : List (String Global) → ℕ → Type 0
  RefusesWith words status = (f : CommandFault) × (status_of f ≡ status) × Refuses words f
