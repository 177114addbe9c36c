-- The text of scripts: what each CPU does, one entry a line.
use Rattle.std.specs.{Prelude.{ℕ, ◌+◌, ◌≡◌, ◌<◌, ◌≤◌, ◌==◌, ◌⊎◌, List, [], ◌∷◌, ◌++◌, map, length, decimal, count_by}, List.{AllByRecursion, filter, range_with_len}}
use Rattle.sound_run.specs.{declared.limits.TheConstants.MOST_CPUS, declared.limits.TheConstants.MOST_CELLS}
use Rattle.kernel_object.specs.KernelTypes.{KernelTodo}
use Rattle.records.specs.{declared.record.TheConstants.MOST_ENTRIES, Settings.{Settings, name_at}, RecordRanges.TodoFits}
use Rattle.kernel_words.specs.{Row.spelled, Rows.call_row}
use Rattle.record_lines.specs.Words.{sentence, separated, text_of_lines, NoEnd}

-- at most 10,000 entries on so many objects
abbrev pub ScriptFits : ℕ → List KernelTodo → Type 0
ScriptFits objects script = (length script ≤ MOST_ENTRIES) × AllByRecursion (TodoFits objects) script

-- scripts of so many CPUs on so many objects
abbrev pub ScriptsFit : ℕ → ℕ → List (List KernelTodo) → Type 0
ScriptsFit cpus objects scripts = (length scripts ≡ cpus) × AllByRecursion (ScriptFits objects) scripts

-- scripts within all limits, whatever the settings
abbrev pub ScriptsWithin : List (List KernelTodo) → Type 0
ScriptsWithin scripts = (length scripts ≤ MOST_CPUS) × AllByRecursion (ScriptFits MOST_CELLS) scripts

-- an empty line, or a comment
abbrev pub IsBlank : List ℕ → Type 0
IsBlank [] = Unit {0}
IsBlank (b ∷ bytes) = b ≡ 35

-- an entry of the scripts, with its CPU
pub record Request : Type 0 where
  pub cpu : ℕ
  pub todo : KernelTodo

-- how many of the requests are of that CPU
abbrev pub count_of : ℕ → List Request → ℕ
count_of cpu requests = count_by (λ r. r.cpu == cpu) requests

-- the entries of that CPU, in order
abbrev pub script_of : ℕ → List Request → List KernelTodo
script_of cpu requests = map (λ r. r.todo) (filter (λ r. r.cpu == cpu) requests)

-- for each of so many CPUs its entries
abbrev pub dealt : ℕ → List Request → List (List KernelTodo)
dealt cpus requests = map (λ cpu. script_of cpu requests) (range_with_len 0 cpus)

module _ (settings : Settings) where
  -- `CPU NAME CALLS`
  abbrev pub request_words : Request → List (List ℕ)
  request_words r = decimal r.cpu ∷ name_at settings r.todo.object ∷ separated (map (λ c. spelled (call_row c)) r.todo.calls.items)

  -- the line asks for this, by a CPU of the settings
  pub record IsRequest (line : List ℕ) (r : Request) : Type 0 where
    pub text : line ≡ sentence (request_words r)
    pub cpu : r.cpu < settings.cpus
    pub todo : TodoFits (length settings.objects) r.todo

  -- the lines ask for these requests, in order, and for nothing else
  abbrev pub AskFor : List (List ℕ) → List Request → Type 0
  AskFor [] requests = requests ≡ []
  AskFor (line ∷ lines) [] = IsBlank line × AskFor lines []
  AskFor (line ∷ lines) (r ∷ requests) = (IsBlank line × AskFor lines (r ∷ requests)) ⊎ (IsRequest line r × AskFor lines requests)

  -- the bytes are lines that ask for these requests, at most 10,000 of each CPU
  pub record AreRequests (bytes : List ℕ) (requests : List Request) : Type 0 where
    pub lines : List (List ℕ)
    pub text : bytes ≡ text_of_lines lines
    pub each : AllByRecursion NoEnd lines
    pub asked : AskFor lines requests
    pub within : (cpu : ℕ) → count_of cpu requests ≤ MOST_ENTRIES

  -- the scripts that the bytes spell: for each CPU of the settings its requests, in order
  pub record AreScripts (bytes : List ℕ) (scripts : List (List KernelTodo)) : Type 0 where
    pub requests : List Request
    pub spelled : AreRequests bytes requests
    pub each : scripts ≡ dealt settings.cpus requests

  -- a line that can't come after these requests: it is no entry, or one too many of its CPU
  pub record IsRefused (requests : List Request) (line : List ℕ) : Type 0 where
    pub no_blank : IsBlank line → ⊥
    pub no_room : (r : Request) → IsRequest line r → count_of r.cpu requests ≡ MOST_ENTRIES

  -- line n, from 1, is the first that can't come, or that has no end
  pub record IsFirstBad (bytes : List ℕ) (n : ℕ) : Type 0 where
    pub before : List ℕ
    pub requests : List Request
    pub good : AreRequests before requests
    pub number : n ≡ length good.lines + 1
    pub line : List ℕ
    pub no_end : NoEnd line
    pub bad : ((bytes ≡ before ++ line) × (0 < length line)) ⊎ ((rest : List ℕ) × (bytes ≡ before ++ (line ++ 10 ∷ rest)) × IsRefused requests line)
