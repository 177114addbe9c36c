-- What the words ask for, by the form: which files, or help.
use Rattle.std.specs.{Prelude.{◌≡◌, ◌⊎◌, ◌||◌, Bool, true, false, List, [], ◌∷◌, map, codes, nat_eq, String, string_bytes}, Global.Global, List.{list_any, starts_with}, Str.bytes_eq}
use Rattle.clap.specs.{Words.{IsAmong, Kinds, Row, Text, fault_of, first_of, matches_of}, declared.error.kind.ErrorKind.TheVariants.{DisplayHelp, DisplayVersion}}
use Rattle.program.specs.FileNames.{IsWanted, is_no_name}
use Rattle.steps.specs.{Form.form, declared.arguments.Arguments.Arguments, declared.arguments.Asked.Asked}
use Rattle.steps.specs.declared.arguments.Asked.TheVariants as asked

-- the files are those that were found for the option and the places of these names
abbrev pub AreFound : List Row → Arguments → Type 0
AreFound rows a = IsWanted (first_of (codes "settings") rows) a.settings.now × IsWanted (first_of (codes "SCRIPTS") rows) a.scripts.now × IsWanted (first_of (codes "SCHEDULE") rows) a.schedule.now

-- the word is `--`, or begins with `--settings=`: a command line often takes it, but the form hasn't
abbrev pub is_no_form : Text → Bool
is_no_form word = bytes_eq word (codes "--") || starts_with nat_eq word (codes "--settings=")

-- one of the words is such a word
abbrev pub has_no_form : List (String Global) → Bool
has_no_form words = list_any (λ word. is_no_form (string_bytes word)) words

-- what the reader of words has against them by the form: nothing, if it takes them
abbrev pub faults : List (String Global) → Kinds
faults words = fault_of form (map string_bytes words)

-- the words ask for these files: none is a word that the form hasn't, and the reader of words takes them all and finds these
pub record AskedBy (words : List (String Global)) (arguments : Arguments) : Type 0 where
  pub in_form : has_no_form words ≡ false
  pub taken : faults words ≡ []
  pub found : AreFound (matches_of form (map string_bytes words)) arguments

-- the words for help and for the version, the short ones with further letters behind them
abbrev pub is_help : Text → Bool
is_help word = bytes_eq word (codes "--help") || (bytes_eq word (codes "--version") || (starts_with nat_eq word (codes "-h") || starts_with nat_eq word (codes "-V")))

-- one of the words asks for help or for the version
abbrev pub AsksHelp : List (String Global) → Type 0
AsksHelp words = list_any (λ word. is_help (string_bytes word)) words ≡ true

-- the words may come to a text of help or of the version: one of them asks for it, and none is a word that the form hasn't
pub record MayHelp (words : List (String Global)) : Type 0 where
  pub in_form : has_no_form words ≡ false
  pub asked : AsksHelp words
  pub met : IsAmong DisplayHelp (faults words) ⊎ IsAmong DisplayVersion (faults words)

-- they have to: the reader of words has nothing else against them
pub record MustHelp (words : List (String Global)) : Type 0 where
  pub in_form : has_no_form words ≡ false
  pub asked : AsksHelp words
  pub only : (faults words ≡ DisplayHelp ∷ []) ⊎ (faults words ≡ DisplayVersion ∷ [])

-- the words ask for these files, or for help
abbrev pub IsAskedBy : List (String Global) → Asked → Type 0
IsAskedBy words (asked.For arguments) = AskedBy words arguments
IsAskedBy words (asked.Help text) = MayHelp words

-- they ask for nothing
pub record AskNothing (words : List (String Global)) : Type 0 where
  pub none : (arguments : Arguments) → AskedBy words arguments → ⊥
  pub no_help : MustHelp words → ⊥

-- the form in plain words, with the option before the places
abbrev pub words_for : Arguments → List Text
words_for a = codes "--settings" ∷ a.settings.now ∷ a.scripts.now ∷ a.schedule.now ∷ []

-- no word for a file is empty or begins with `-`
abbrev pub CanBeAsked : Arguments → Type 0
CanBeAsked a = (is_no_name a.settings.now ≡ false) × (is_no_name a.scripts.now ≡ false) × (is_no_name a.schedule.now ≡ false)
