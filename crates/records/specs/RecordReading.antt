-- Reading the lines of records and scripts from left to right. The laws in proofs/ tie this to the texts.
use Rattle.std.specs.{Prelude.{ℕ, List, [], ◌∷◌, Option, Some, None, if◌then◌else◌, codes, ◌&&◌, nat_lt, position}, Option.option_map_or, List.list_any, Str.bytes_eq}
use Rattle.event_log.specs.declared.logged.TheConstants.{MOST_EVENTS}
use Rattle.kernel_object.specs.KernelTypes.{KernelEvent, KernelEntry}
use Rattle.kernel_words.specs.{declared.form.Form.Form, declared.form.Form.TheVariants.{One, Two}, Forms.{version, has_steps, has_done}, Row.{field_at, limit}, ItemReading.{step_at, call_at, done_at}, ParameterReading.{lock_at, params_at}}
use Rattle.record_lines.specs.{Reading.{◌>>=◌, word_at, key_at, number_at}, LineParts.{name_word_at, is_nil, list_at, fixed_at}}
use Rattle.records.specs.Settings.{ObjectSettings}

-- all words, as an event of one of so many CPUs
unfoldable pub event_at : Form → ℕ → List (List ℕ) → Option KernelEvent
event_at form cpus ws = do
  cpu ← number_at 255 ws
  steps ← list_at step_at cpu.1
  if nat_lt cpu.0 cpus && is_nil steps.1 && has_steps form steps.0 then Some (record { cpu = cpu.0; steps = record { list = record { items = steps.0 } } }) else None

-- all words, as the first line of a form
unfoldable pub form_at : List (List ℕ) → Option Form
form_at ws = option_map_or (λ u. Some One) (fixed_at (codes "record" ∷ version One ∷ []) ws) (fixed_at (codes "record" ∷ version Two ∷ []) ws >>= λ u. Some Two)

-- the place of the object whose name is next, from 0
unfoldable pub place_at : List ObjectSettings → List (List ℕ) → Option (ℕ × List (List ℕ))
place_at objects ws = do
  w ← word_at ws
  i ← position (λ o. bytes_eq o.name w.0) objects
  Some (i, w.1)

-- all words, as an entry of a transcript
unfoldable pub entry_at : Form → List ObjectSettings → List (List ℕ) → Option KernelEntry
entry_at form objects ws = do
  object ← place_at objects ws
  looks ← number_at 18446744073709551615 object.1
  calls ← list_at call_at looks.1
  rest ← key_at (codes "|") calls.1
  done ← done_at rest
  if is_nil done.1 && has_done form done.0 then Some (record { object = object.0; asked = record { items = calls.0 }; done = done.0; looks = looks.0 }) else None

-- all words, as an object's settings
unfoldable pub object_at : Form → List (List ℕ) → Option ObjectSettings
object_at form ws = do
  rest ← key_at (codes "object") ws
  name ← name_word_at rest
  lock ← lock_at name.1
  events ← field_at (limit MOST_EVENTS 0) lock.1
  params ← params_at form events.1
  if is_nil params.1 then Some (record { name = name.0; lock = lock.0; events = events.0; params = params.0 }) else None

-- an object whose name is none of the earlier
unfoldable pub new_object_at : Form → List ObjectSettings → List (List ℕ) → Option ObjectSettings
new_object_at form earlier ws = option_map_or (λ o. if list_any (λ e. bytes_eq e.name o.name) earlier then None else Some o) (object_at form ws) None
