-- What a line of the scripts does, and what reading them answers.
use Rattle.std.specs.Prelude.{ℕ, ◌≡◌, ◌<◌, ◌≤◌, ◌⊎◌, Bool, List, [], ◌∷◌, ◌++◌, length, Option, Some, slice_get, slice_set}
use Rattle.kernel_object.specs.KernelTypes.{KernelTodo}
use Rattle.record_lines.specs.{declared.text.line_machine.TheConstants.MOST_BYTES, declared.text.fault.LinesFault.LinesFault, declared.text.fault.LinesFault.TheVariants.{OutOfMemory, Line}, declared.text.fault.TextFault.TextFault, LineMachine.HasTaken, declared.text.line_machine.Pieces.Pieces, Sources.IsRest}
use Rattle.records.specs.{declared.record.TheConstants.MOST_ENTRIES, Settings.Settings}
use Rattle.scripts.specs.ScriptText.{Request, IsBlank, IsRequest, IsFirstBad, AreScripts, dealt}
use Rattle.record_lines.specs.declared.text.fault.TextFault.TheVariants as stream

-- an entry is added to its CPU's script, which has room for it
pub record Adds (old new : List (List KernelTodo)) (r : Request) : Type 0 where
  pub script : List KernelTodo
  pub is : slice_get old r.cpu ≡ Some script
  pub room : length script < MOST_ENTRIES
  pub added : new ≡ slice_set old r.cpu (script ++ r.todo ∷ [])

-- the CPU's script has no room
abbrev pub IsFull : List (List KernelTodo) → ℕ → Type 0
IsFull scripts cpu = (script : List KernelTodo) → slice_get scripts cpu ≡ Some script → MOST_ENTRIES ≤ length script

module _ (settings : Settings) where
  -- the line adds nothing, or the entry that it asks for
  abbrev pub TakesLine : List ℕ → List (List KernelTodo) → List (List KernelTodo) → Type 0
  TakesLine line old new = (IsBlank line × (new ≡ old)) ⊎ ((r : Request) × IsRequest settings line r × Adds old new r)

  -- the line adds nothing that could come there: it is no entry, or its CPU's script is full
  pub record IsNotTaken (line : List ℕ) (scripts : List (List KernelTodo)) : Type 0 where
    pub no_blank : IsBlank line → ⊥
    pub no_room : (r : Request) → IsRequest settings line r → IsFull scripts r.cpu

-- the line that is named is the first that can't come
abbrev pub NamesFirstBad : Settings → List ℕ → LinesFault → Type 0
NamesFirstBad settings text OutOfMemory = Unit {0}
NamesFirstBad settings text (Line n) = IsFirstBad settings text n

-- what was read: the scripts, under these settings
pub record ScriptState : Type 0 where
  pub settings : Settings
  pub lists : List (List KernelTodo)

-- the line adds nothing, or the entry that it asks for
pub record TakesScriptLine (line : List ℕ) (old new : ScriptState) : Type 0 where
  pub same : new.settings ≡ old.settings
  pub takes : TakesLine old.settings line old.lists new.lists

-- the line adds nothing that could come there
abbrev pub RefusesScriptLine : List ℕ → ScriptState → Type 0
RefusesScriptLine line state = IsNotTaken state.settings line state.lists

-- a line may have so many bytes, unless it is a comment
abbrev pub FitsScriptLine : ℕ → ℕ → Type 0
FitsScriptLine first count = (first ≡ 35 → ⊥) → count ≤ MOST_BYTES

-- nothing was read
abbrev pub no_entries : Settings → ScriptState
no_entries settings = record { settings = settings; lists = dealt settings.cpus [] }

-- the whole lines of the text were taken, and what follows them is kept
abbrev pub HasRead : Settings → List ℕ → ScriptState → ℕ → Bool → List ℕ → Type 0
HasRead settings text state number passing pending = HasTaken TakesScriptLine (no_entries settings) text state number passing pending

-- the scripts that the rest of a source spells
abbrev pub SpellsRest : Settings → Option (List ℕ) → List (List KernelTodo) → Type 0
SpellsRest settings remaining scripts = (text : List ℕ) × IsRest remaining text × AreScripts settings text scripts

-- the first line of the rest of a source that can't come
abbrev pub IsFirstBadOfRest : Settings → Option (List ℕ) → ℕ → Type 0
IsFirstBadOfRest settings remaining n = (text : List ℕ) × IsRest remaining text × IsFirstBad settings text n

-- the line that is named is the first that can't come
abbrev pub NamesFirstBadOfRest : Settings → Option (List ℕ) → TextFault → Type 0
NamesFirstBadOfRest settings remaining stream.OutOfMemory = Unit {0}
NamesFirstBadOfRest settings remaining stream.ReadFailed = Unit {0}
NamesFirstBadOfRest settings remaining (stream.BadLine n) = IsFirstBadOfRest settings remaining n

-- the whole lines of the text were read as scripts, and what follows them is kept
abbrev pub HasReadScripts : Settings → List ℕ → Pieces ScriptState → Type 0
HasReadScripts settings text p = HasRead settings text p.lines p.number p.passing p.pending.items
