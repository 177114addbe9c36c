-- An object and its log among the lines of a text.
use Rattle.std.specs.{Prelude.{◌≡◌, ◌⊎◌, ◌==◌, ℕ, zero, suc, if◌then◌else◌, List, [], ◌∷◌, Option, Some, None, drop}, Option.option_map_or}
use Rattle.event_log.specs.Log.{steps_of}
use Rattle.kernel_object.specs.declared.call.KParams.{KParams}
use Rattle.custom_records.specs.{LineReading.{any_head, log_at, custom_object_at, custom_event_at}, Custom.CustomEvent, Settings.CustomSettings}
use Rattle.record_lines.specs.{Reading.{◌>>=◌, words, word_at}, LineParts.name_word_at}
use Rattle.custom_kernel.specs.{Counts.IsCountOf, KernelModel.{params_of, kernel_right}}

-- the first line, if it has its end, and what stands behind that
abbrev pub line_of : List ℕ → Option (List ℕ × List ℕ)
line_of [] = None
line_of (b ∷ bs) = if b == 10 then Some ([], bs) else (line_of bs >>= λ l. Some (b ∷ l.0, l.1))

-- the object whose line begins at that byte
abbrev pub object_from : List ℕ → ℕ → Option CustomSettings
object_from text at = line_of (drop at text) >>= λ l. custom_object_at (words l.0)

-- all words, as the head of a log of whatever name: how many events it has
unfoldable pub events_at : List (List ℕ) → Option ℕ
events_at ws = do
  first ← word_at ws
  name ← name_word_at first.1
  log_at name.0 ws

-- the event of the first line, and what stands behind it
abbrev pub event_of : List ℕ → Option (CustomEvent × List ℕ)
event_of text = line_of text >>= λ l. custom_event_at any_head (words l.0) >>= λ e. Some (e, l.1)

-- the events of the first lines, up to n and up to a line that is none
abbrev pub events_of : ℕ → List ℕ → List CustomEvent
events_of zero text = []
events_of (suc n) text = option_map_or (λ e. e.0 ∷ events_of n e.1) (event_of text) []

-- how many events the head that begins at that byte says, and what stands behind it
abbrev pub head_from : List ℕ → ℕ → Option (ℕ × List ℕ)
head_from text at = line_of (drop at text) >>= λ l. events_at (words l.0) >>= λ n. Some (n, l.1)

-- the events behind the head of a log that begins at that byte
abbrev pub events_from : List ℕ → ℕ → Option (List CustomEvent)
events_from text at = head_from text at >>= λ h. Some (events_of h.0 h.1)

-- what the object whose line begins at that byte is opened with, if it is one of the four kinds
abbrev pub params_from_line : List ℕ → ℕ → Option KParams
params_from_line text at = object_from text at >>= λ o. params_of o.kind o.numbers

-- an object of the four kinds has its line there, and a log its head: so many steps of that log's events are right
pub record IsKernelCount (text : List ℕ) (object log n : ℕ) : Type 0 where
  pub settings : CustomSettings
  pub there : object_from text object ≡ Some settings
  pub params : KParams
  pub opened : params_of settings.kind settings.numbers ≡ Some params
  pub events : List CustomEvent
  pub log_there : events_from text log ≡ Some events
  pub count : IsCountOf (kernel_right settings.kind settings.numbers) (steps_of events) n

-- no object of the four kinds has its line there, or no log its head
abbrev pub NoKernelLog : List ℕ → ℕ → ℕ → Type 0
NoKernelLog text object log = (params_from_line text object ≡ None) ⊎ (events_from text log ≡ None)
