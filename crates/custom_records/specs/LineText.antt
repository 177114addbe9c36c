-- The lines of a record 3, as their words.
use Rattle.std.specs.Prelude.{ℕ, List, [], ◌∷◌, ◌++◌, map, codes, decimal}
use Rattle.event_log.specs.declared.entry.Done.TheVariants.{Steps, NoRoom}
use Rattle.custom_records.specs.{Custom.{CustomStep, CustomEvent, CustomDone, CustomEntry}, Said.Said, Settings.{CustomSettings, CustomHead, names_of, word_in}}
use Rattle.record_lines.specs.Words.{separated}

-- the decimal texts of the numbers
abbrev pub number_words : List ℕ → List (List ℕ)
number_words numbers = map (λ n. decimal n) numbers

-- a word, and the numbers behind it
abbrev pub said_words : Said → List (List ℕ)
said_words s = s.word ∷ number_words s.numbers

-- `CALL = REPLY`
abbrev pub custom_step_words : CustomStep → List (List ℕ)
custom_step_words s = said_words s.call ++ (codes "=" ∷ said_words s.reply.said)

-- the steps, or `noroom`
abbrev pub custom_done_words : CustomDone → List (List ℕ)
custom_done_words (Steps s) = separated (map custom_step_words s.list.items)
custom_done_words NoRoom = codes "noroom" ∷ []

-- `CPU STEPS`
abbrev pub custom_event_words : CustomEvent → List (List ℕ)
custom_event_words e = decimal e.cpu ∷ separated (map custom_step_words e.steps.list.items)

-- `NAME LOOKS CALLS | DONE`
abbrev pub custom_entry_words : CustomHead → CustomEntry → List (List ℕ)
custom_entry_words head e = word_in (names_of head) e.object ∷ decimal e.looks ∷ (separated (map said_words e.asked.items) ++ (codes "|" ∷ custom_done_words e.done))

-- `object NAME LOCK EVENTS KIND NUMBERS`
abbrev pub custom_object_words : CustomSettings → List (List ℕ)
custom_object_words o = codes "object" ∷ o.name ∷ o.lock ∷ decimal o.events ∷ o.kind ∷ number_words o.numbers

-- `refuses WORDS`
abbrev pub refuses_words : List (List ℕ) → List (List ℕ)
refuses_words refusing = codes "refuses" ∷ refusing

-- `record 3`
abbrev pub first_words : List (List ℕ)
first_words = codes "record" ∷ codes "3" ∷ []

-- `cpus CPUS`
abbrev pub cpus_words : ℕ → List (List ℕ)
cpus_words cpus = codes "cpus" ∷ decimal cpus ∷ []

-- `objects OBJECTS`
abbrev pub count_words : ℕ → List (List ℕ)
count_words count = codes "objects" ∷ decimal count ∷ []

-- `log NAME EVENTS`
abbrev pub log_words : List ℕ → ℕ → List (List ℕ)
log_words name count = codes "log" ∷ name ∷ decimal count ∷ []

-- `cpu CPU ENTRIES`
abbrev pub cpu_words : ℕ → ℕ → List (List ℕ)
cpu_words cpu count = codes "cpu" ∷ decimal cpu ∷ decimal count ∷ []

-- `end`
abbrev pub last_words : List (List ℕ)
last_words = codes "end" ∷ []
