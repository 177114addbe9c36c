-- What the words ask for, by the table of forms: which command, and which files.
use Rattle.std.specs.{Prelude.{◌≡◌, ◌||◌, ℕ, Bool, false, List, [], nat_eq, Some, map, slice_get, codes, option_map, String, string_bytes}, Global.Global, List.{list_any, starts_with}, Str.bytes_eq}
use Rattle.clap.specs.Words.{Row, fault_of, first_of, subcommand_of}
use Rattle.program.specs.{FileNames.{IsFile, IsWanted}, Inputs.bytes_of}
use Rattle.mc2_command.specs.{Forms.forms, declared.arguments.Arguments.Arguments}
use Rattle.mc2_command.specs.declared.arguments.Arguments.TheVariants as asked

-- the name of each command
abbrev pub command_name : Arguments → List ℕ
command_name (asked.Run settings scripts) = codes "run"
command_name (asked.Sim settings scripts schedule) = codes "sim"
command_name (asked.Report name) = codes "report"
command_name (asked.Audit name) = codes "audit"
command_name (asked.Merge name) = codes "merge"
command_name (asked.Upgrade name) = codes "upgrade"

-- the files are those that were found for the option and the places of these names
abbrev pub AreFiles : List Row → Arguments → Type 0
AreFiles rows (asked.Run settings scripts) = IsFile (first_of (codes "settings") rows) (bytes_of settings) × IsFile (first_of (codes "scripts") rows) (bytes_of scripts)
AreFiles rows (asked.Sim settings scripts schedule) = IsWanted (first_of (codes "settings") rows) settings.now × IsWanted (first_of (codes "scripts") rows) scripts.now × IsWanted (first_of (codes "schedule") rows) schedule.now
AreFiles rows (asked.Report name) = IsFile (first_of (codes "record") rows) (bytes_of name)
AreFiles rows (asked.Audit name) = IsFile (first_of (codes "record") rows) (bytes_of name)
AreFiles rows (asked.Merge name) = IsFile (first_of (codes "record") rows) (bytes_of name)
AreFiles rows (asked.Upgrade name) = IsFile (first_of (codes "record") rows) (bytes_of name)

-- the word is `--`, or begins with `--settings=`: a command line often takes it, but no form has it
abbrev pub is_no_form : List ℕ → Bool
is_no_form word = bytes_eq word (codes "--") || starts_with nat_eq word (codes "--settings=")

-- the words ask for that: none is a word that no form has, the reader of words takes them all by the table of forms, and the
-- command that it enters is the first word and has these files
pub record Asks (words : List (String Global)) (arguments : Arguments) : Type 0 where
  pub in_forms : list_any (λ word. is_no_form (string_bytes word)) words ≡ false
  pub taken : fault_of forms (map string_bytes words) ≡ []
  pub rows : List Row
  pub read : subcommand_of forms (map string_bytes words) ≡ Some (command_name arguments, rows)
  pub first : option_map string_bytes (slice_get words 0) ≡ Some (command_name arguments)
  pub files : AreFiles rows arguments

-- they ask for nothing
abbrev pub AskNothing : List (String Global) → Type 0
AskNothing words = (arguments : Arguments) → Asks words arguments → ⊥
