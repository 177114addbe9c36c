-- The only form of words that there is, as the reader of words (`clap`) receives it.
use Rattle.std.specs.Prelude.{[], ◌∷◌, Some, true, codes}
use Rattle.clap.specs.{Words.{App, Rule, Text, new_rule}, Simple.new_shape, declared.builder.action.ArgAction.TheVariants.Set}

-- a file at a place of its own, which may not be left out
abbrev pub place : Text → Rule
place id = record (new_rule id) { action = Some Set; required = true }

-- `--settings F`, anywhere, which may not be left out
abbrev pub option : Rule
option = record (new_rule (codes "settings")) { action = Some Set; long = Some (codes "settings"); value_names = 1; required = true }

-- `steps --settings F SCRIPTS SCHEDULE`, or a word for help or for the version
abbrev pub form : App
form = record { top = record (new_shape (codes "steps")) { rules = option ∷ place (codes "SCRIPTS") ∷ place (codes "SCHEDULE") ∷ []; has_version = true; no_binary_name = true }; subs = [] }
