-- All forms of words that there are, as the reader of words (`clap`) receives them.
use Rattle.std.specs.Prelude.{List, [], ◌∷◌, Some, true, false, codes}
use Rattle.clap.specs.{Words.{App, Rule, Shape, Text, new_rule}, Simple.new_shape, declared.builder.action.ArgAction.TheVariants.Set}

-- a file at a place of its own, which may be left out
abbrev pub place : Text → Rule
place id = record (new_rule id) { action = Some Set }

-- `--settings F`, anywhere, which may be left out
abbrev pub option : Rule
option = record (new_rule (codes "settings")) { action = Some Set; long = Some (codes "settings") }

-- what may not be left out
abbrev pub needed : Rule → Rule
needed r = record r { required = true }

-- a command without help and version
abbrev pub plain : Text → Shape
plain name = record (new_shape name) { disable_help_flag = true; disable_version_flag = true }

-- with these options and places
abbrev pub with_places : Text → List Rule → Shape
with_places name rules = record (plain name) { rules = rules }

-- the command of that name on a record, `NAME [RECORD]`
abbrev pub on_record : Text → Shape
on_record name = with_places name (place (codes "record") ∷ [])

-- `run [--settings F] [SCRIPTS]`
abbrev pub run_form : Shape
run_form = with_places (codes "run") (option ∷ place (codes "scripts") ∷ [])

-- `sim --settings F SCRIPTS SCHEDULE`
abbrev pub sim_form : Shape
sim_form = with_places (codes "sim") (needed option ∷ needed (place (codes "scripts")) ∷ needed (place (codes "schedule")) ∷ [])

-- each command has its form
abbrev pub commands : List Shape
commands = run_form ∷ sim_form ∷ on_record (codes "report") ∷ on_record (codes "audit") ∷ on_record (codes "merge") ∷ on_record (codes "upgrade") ∷ []

-- before it nothing stands, and it has to be there
abbrev pub top : Shape
top = record (plain (codes "mc2")) { disable_help_subcommand = true; no_binary_name = true; subcommand_required = true; is_leaf = false }

-- the table of all forms
abbrev pub forms : App
forms = record { top = top; subs = commands }
