-- The text of a record in any form: its head, a log for each object, a transcript for each CPU, and its end.
use Rattle.std.specs.Prelude.{ℕ, ◌+◌, List, [], ◌∷◌, ◌++◌, map, length}
use Rattle.record_lines.specs.{declared.forms.form.RecordForm.Ghosts, Received.Whole, Words.text_of_lines}

-- part i of n items: its head, and a line for each of the items that are there; and whole parts, from number i on
module _ {T : Type 0} (head : ℕ → ℕ → List ℕ) (text_of : T → List ℕ) where
  abbrev pub part_text : ℕ → ℕ → List T → List (List ℕ)
  part_text i n items = head i n ∷ map text_of items

  abbrev pub parts_text : ℕ → List (List T) → List (List ℕ)
  parts_text i [] = []
  parts_text i (part ∷ parts) = part_text i (length part) part ++ parts_text (i + 1) parts

module _ {S H E T : Type 0} (f : Ghosts S H E T) where
  -- the head and whole logs, and whole transcripts behind them
  abbrev pub logs_front : H → List (List E) → List (List ℕ)
  logs_front h logs = f.head_text h ++ parts_text (f.log_text h) (f.event_text h) 0 logs

  abbrev pub transcripts_front : H → List (List E) → List (List T) → List (List ℕ)
  transcripts_front h logs ts = logs_front h logs ++ parts_text (f.cpu_text h) (f.entry_text h) 0 ts

  -- each line of a record
  abbrev pub whole_lines : Whole H E T → List (List ℕ)
  whole_lines w = transcripts_front w.head w.logs w.transcripts ++ f.end_text ∷ []

  -- the text of a record
  abbrev pub whole_text : Whole H E T → List ℕ
  whole_text w = text_of_lines (whole_lines w)
