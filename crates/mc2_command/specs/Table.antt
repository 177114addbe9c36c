-- The forms of words, in plain words.
use Rattle.std.specs.Prelude.{◌≡◌, ◌⊎◌, [], ◌∷◌, false, List, Option, Some, None, codes, IfSome}
use Rattle.clap.specs.Words.{Text}
use Rattle.program.specs.{Inputs.bytes_of, FileNames.is_no_name}
use Rattle.mc2_command.specs.declared.arguments.Arguments.{Arguments}
use Rattle.mc2_command.specs.declared.arguments.Arguments.TheVariants as asked

-- `run [--settings F] [SCRIPTS]`, with the option anywhere
abbrev pub IsRunForm : Option Text → Option Text → List Text → Type 0
IsRunForm None None words = words ≡ codes "run" ∷ []
IsRunForm None (Some s) words = words ≡ codes "run" ∷ s ∷ []
IsRunForm (Some f) None words = words ≡ codes "run" ∷ codes "--settings" ∷ f ∷ []
IsRunForm (Some f) (Some s) words = (words ≡ codes "run" ∷ codes "--settings" ∷ f ∷ s ∷ []) ⊎ (words ≡ codes "run" ∷ s ∷ codes "--settings" ∷ f ∷ [])

-- `sim --settings F SCRIPTS SCHEDULE`, with the option anywhere
abbrev pub IsSimForm : Text → Text → Text → List Text → Type 0
IsSimForm f s t words = (words ≡ codes "sim" ∷ codes "--settings" ∷ f ∷ s ∷ t ∷ []) ⊎ ((words ≡ codes "sim" ∷ s ∷ codes "--settings" ∷ f ∷ t ∷ []) ⊎ (words ≡ codes "sim" ∷ s ∷ t ∷ codes "--settings" ∷ f ∷ []))

-- `NAME [RECORD]`
abbrev pub IsRecordForm : Text → Option Text → List Text → Type 0
IsRecordForm command None words = words ≡ command ∷ []
IsRecordForm command (Some r) words = words ≡ command ∷ r ∷ []

-- the words are the form with those files
abbrev pub IsForm : Arguments → List Text → Type 0
IsForm (asked.Run settings scripts) words = IsRunForm (bytes_of settings) (bytes_of scripts) words
IsForm (asked.Sim settings scripts schedule) words = IsSimForm settings.now scripts.now schedule.now words
IsForm (asked.Report name) words = IsRecordForm (codes "report") (bytes_of name) words
IsForm (asked.Audit name) words = IsRecordForm (codes "audit") (bytes_of name) words
IsForm (asked.Merge name) words = IsRecordForm (codes "merge") (bytes_of name) words
IsForm (asked.Upgrade name) words = IsRecordForm (codes "upgrade") (bytes_of name) words

-- the file has a name, if there is one
abbrev pub IsNamed : Option Text → Type 0
IsNamed name = IfSome name (λ n. is_no_name n ≡ false)

-- all files have names
abbrev pub AreNamed : Arguments → Type 0
AreNamed (asked.Run settings scripts) = IsNamed (bytes_of settings) × IsNamed (bytes_of scripts)
AreNamed (asked.Sim settings scripts schedule) = IsNamed (Some settings.now) × IsNamed (Some scripts.now) × IsNamed (Some schedule.now)
AreNamed (asked.Report name) = IsNamed (bytes_of name)
AreNamed (asked.Audit name) = IsNamed (bytes_of name)
AreNamed (asked.Merge name) = IsNamed (bytes_of name)
AreNamed (asked.Upgrade name) = IsNamed (bytes_of name)
