-- Reading the lines of a record 3 from left to right. The laws in proofs/ tie this to the texts.
use Rattle.std.specs.{Prelude.{ℕ, zero, suc, List, [], ◌∷◌, ◌++◌, Option, Some, None, Bool, false, if◌then◌else◌, codes, decimal, not, ◌&&◌, nat_le, nat_lt, position}, Option.option_map_or, Str.bytes_eq}
use Rattle.event_log.specs.declared.entry.Done.TheVariants.{Steps, NoRoom}
use Rattle.custom_records.specs.{declared.settings.TheConstants.{MOST_CUSTOM_CPUS, MOST_CUSTOM_OBJECTS, MOST_SIZES, MOST_WORDS}, declared.spoken.TheConstants.MOST_NUMBERS, Custom.{CustomStep, CustomEvent, CustomDone, CustomEntry}, Ranges.most_lines, Said.Said, Settings.{CustomSettings, CustomHead, refuses_word}, LineText.{first_words, last_words}}
use Rattle.record_lines.specs.{Reading.{◌>>=◌, word_at, key_at, number_at}, LineParts.{is_nil, list_at, fixed_at, head_at, name_word_at}, Names.{is_name, is_digit}}

-- the greatest number of 64 bits
abbrev pub most_number : ℕ
most_number = 18446744073709551615

-- the word begins with a digit
abbrev pub begins_number : List ℕ → Bool
begins_number [] = false
begins_number (b ∷ bs) = is_digit b

-- the next word begins with a digit
abbrev pub number_next : List (List ℕ) → Bool
number_next [] = false
number_next (w ∷ ws) = begins_number w

-- up to n numbers, as long as the next word begins with a digit, and the words behind them
unfoldable pub sizes_at : ℕ → List (List ℕ) → Option (List ℕ × List (List ℕ))
sizes_at zero ws = Some ([], ws)
sizes_at (suc n) ws = if number_next ws then (number_at most_number ws >>= λ next. sizes_at n next.1 >>= λ more. Some (next.0 ∷ more.0, more.1)) else Some ([], ws)

-- a word with up to 6 numbers, and the words behind them
unfoldable pub said_at : List (List ℕ) → Option (Said × List (List ℕ))
said_at ws = do
  name ← name_word_at ws
  numbers ← sizes_at MOST_NUMBERS name.1
  Some (record { word = name.0; numbers = numbers.0 }, numbers.1)

-- a call and its reply, which refuses exactly if its word is one of those
unfoldable pub custom_step_at : List (List ℕ) → List (List ℕ) → Option (CustomStep × List (List ℕ))
custom_step_at refusing ws = do
  call ← said_at ws
  rest ← key_at (codes "=") call.1
  reply ← said_at rest
  Some (record { call = call.0; reply = record { said = reply.0; refuses = refuses_word refusing reply.0.word } }, reply.1)

-- all words, as 1 to 8 steps
unfoldable pub custom_steps_at : List (List ℕ) → List (List ℕ) → Option (List CustomStep)
custom_steps_at refusing ws = do
  steps ← list_at (custom_step_at refusing) ws
  if is_nil steps.1 then Some steps.0 else None

-- all words, as `noroom` alone, or as steps
unfoldable pub custom_done_at : List (List ℕ) → List (List ℕ) → Option CustomDone
custom_done_at refusing ws = option_map_or (λ u. Some NoRoom) (fixed_at (codes "noroom" ∷ []) ws) (custom_steps_at refusing ws >>= λ steps. Some (Steps (record { list = record { items = steps } })))

-- all words, as an event of one of the CPUs
unfoldable pub custom_event_at : CustomHead → List (List ℕ) → Option CustomEvent
custom_event_at head ws = do
  cpu ← number_at 255 ws
  steps ← custom_steps_at head.refusing cpu.1
  if nat_lt cpu.0 head.cpus then Some (record { cpu = cpu.0; steps = record { list = record { items = steps } } }) else None

-- a head of 256 CPUs and no objects, in which no word refuses: a single line is read by it
abbrev pub any_head : CustomHead
any_head = record { cpus = 256; objects = []; refusing = [] }

-- the place of the object whose name is next, from 0
unfoldable pub custom_place_at : List CustomSettings → List (List ℕ) → Option (ℕ × List (List ℕ))
custom_place_at objects ws = do
  w ← word_at ws
  i ← position (λ o. bytes_eq o.name w.0) objects
  Some (i, w.1)

-- all words, as an entry of a transcript
unfoldable pub custom_entry_at : CustomHead → List (List ℕ) → Option CustomEntry
custom_entry_at head ws = do
  object ← custom_place_at head.objects ws
  looks ← number_at most_number object.1
  calls ← list_at said_at looks.1
  rest ← key_at (codes "|") calls.1
  done ← custom_done_at head.refusing rest
  Some (record { object = object.0; asked = record { items = calls.0 }; done = done; looks = looks.0 })

-- the most events of a log: a number from 1
unfoldable pub custom_events_at : List (List ℕ) → Option (ℕ × List (List ℕ))
custom_events_at ws = do
  n ← number_at most_lines ws
  if nat_le 1 n.0 then Some n else None

-- all words, as an object's settings
unfoldable pub custom_object_at : List (List ℕ) → Option CustomSettings
custom_object_at ws = do
  rest ← key_at (codes "object") ws
  name ← name_word_at rest
  lock ← name_word_at name.1
  events ← custom_events_at lock.1
  kind ← name_word_at events.1
  numbers ← sizes_at MOST_SIZES kind.1
  if is_nil numbers.1 then Some (record { name = name.0; lock = lock.0; events = events.0; kind = kind.0; numbers = numbers.0 }) else None

-- the word, if it is a name and none of the earlier words
unfoldable pub new_name_in : List (List ℕ) → List ℕ → Option (List ℕ)
new_name_in earlier w = if is_name w && not (refuses_word earlier w) then Some w else None

-- the earlier words, and all words behind them: at most n names that differ from all before
unfoldable pub new_words_at : List (List ℕ) → ℕ → List (List ℕ) → Option (List (List ℕ))
new_words_at earlier n [] = Some earlier
new_words_at earlier zero (w ∷ ws) = None
new_words_at earlier (suc n) (w ∷ ws) = new_name_in earlier w >>= λ name. new_words_at (earlier ++ name ∷ []) n ws

-- all words, as up to 32 different words that refuse
unfoldable pub refuses_at : List (List ℕ) → Option (List (List ℕ))
refuses_at ws = key_at (codes "refuses") ws >>= λ rest. new_words_at [] MOST_WORDS rest

-- all words, as the first line
abbrev pub first_at : List (List ℕ) → Option (Unit {0})
first_at ws = fixed_at first_words ws

-- all words, as the number of CPUs
abbrev pub cpus_at : List (List ℕ) → Option ℕ
cpus_at ws = head_at (codes "cpus" ∷ []) 1 MOST_CUSTOM_CPUS ws

-- all words, as the number of objects
abbrev pub count_at : List (List ℕ) → Option ℕ
count_at ws = head_at (codes "objects" ∷ []) 1 MOST_CUSTOM_OBJECTS ws

-- all words, as the head of the log of an object of that name, with the number of its events
abbrev pub log_at : List ℕ → List (List ℕ) → Option ℕ
log_at name ws = head_at (codes "log" ∷ name ∷ []) 0 most_lines ws

-- all words, as the head of that CPU's transcript, with the number of its entries
abbrev pub cpu_at : ℕ → List (List ℕ) → Option ℕ
cpu_at cpu ws = head_at (codes "cpu" ∷ decimal cpu ∷ []) 0 most_lines ws

-- all words, as the last line
abbrev pub last_at : List (List ℕ) → Option (Unit {0})
last_at ws = fixed_at last_words ws
