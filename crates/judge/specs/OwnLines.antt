-- What is reported of a single line of a record of one's own.
use Rattle.std.specs.Prelude.{ℕ, ◌≡◌, ◌+◌, List, ◌∷◌, ◌++◌, length, map, drop, Option, Some, None}
use Rattle.custom_records.specs.{LineReading.{any_head, log_at, custom_object_at, custom_event_at}, Custom.{CustomStep, CustomEvent}, Said.{Said, padded}, Settings.CustomSettings}
use Rattle.record_lines.specs.{Reading.{◌>>=◌, words, word_at}, LineParts.name_word_at, Words.NoEnd}
use Rattle.judge.specs.{declared.custom_report.LineReport.LineReport, declared.custom_report.SaidReport.SaidReport, declared.custom_report.StepReport.StepReport}

-- a line with its end begins at that byte
pub record IsLineAt (text : List ℕ) (at : ℕ) (line : List ℕ) : Type 0 where
  pub front : List ℕ
  pub rest : List ℕ
  pub parts : text ≡ front ++ (line ++ 10 ∷ rest)
  pub place : length front ≡ at
  pub no_end : NoEnd line

-- all words, as the head of a log of whatever name, with the number of its events
unfoldable pub any_log_at : List (List ℕ) → Option (List ℕ × ℕ)
any_log_at ws = do
  first ← word_at ws
  name ← name_word_at first.1
  count ← log_at name.0 ws
  Some (name.0, count)

-- a word with its numbers, in the arrays of C
abbrev pub said_report : Said → SaidReport
said_report s = record { word = padded 16 s.word; numbers = padded 6 s.numbers; count = length s.numbers }

-- a call with its reply
abbrev pub step_report : CustomStep → StepReport
step_report s = record { call = said_report s.call; reply = said_report s.reply.said }

-- the items at the front of what was there
abbrev pub at_front : {T : Type 0} → List T → List T → List T
at_front items old = items ++ drop (length items) old

-- an object's line: its name, its kind with its numbers, and the most events of its log
abbrev pub object_report : LineReport → CustomSettings → LineReport
object_report old o = record old { kind = 1; limit = o.events; count = length o.numbers; name = padded 16 o.name; object_kind = padded 16 o.kind; numbers = at_front o.numbers old.numbers }

-- the head of a log: its object's name, and how many events it has
abbrev pub log_report : LineReport → List ℕ × ℕ → LineReport
log_report old (name, n) = record old { kind = 2; limit = n; name = padded 16 name }

-- an event: its CPU and its steps
abbrev pub event_report : LineReport → CustomEvent → LineReport
event_report old e = record old { kind = 3; cpu = e.cpu; count = length e.steps.list.items; steps = at_front (map step_report e.steps.list.items) old.steps }

-- what the words of a line are: an object, the head of a log, an event, or another line
abbrev pub words_report : LineReport → Option CustomSettings → Option (List ℕ × ℕ) → Option CustomEvent → LineReport
words_report old (Some o) log event = object_report old o
words_report old None (Some l) event = log_report old l
words_report old None None (Some e) = event_report old e
words_report old None None None = record old { kind = 4 }

-- what is reported of the line: what its words are, and where the line behind it begins
abbrev pub line_report : LineReport → ℕ → List ℕ → LineReport
line_report old at line = words_report (record old { next = at + length line + 1 }) (custom_object_at (words line)) (any_log_at (words line)) (custom_event_at any_head (words line))

-- no line with its end begins there, or that is reported of the one that does
pub record IsLineReported (text : List ℕ) (at : ℕ) (old new : LineReport) : Type 0 where
  pub line : (line : List ℕ) → IsLineAt text at line → new ≡ line_report old at line
  pub none : ((line : List ℕ) → IsLineAt text at line → ⊥) → new ≡ record old { kind = 0 }
