-- What the sink of a record in any form was handed over. H, E and T are the types of the form's heads, events and entries.
use Rattle.std.specs.{Prelude.{ℕ, Bool, true, false, ◌≡◌, ◌<◌, ◌≤◌, List, [], ◌∷◌, ◌++◌, length}, List.AllByRecursion}
use Rattle.record_lines.specs.declared.forms.form.RecordForm.{Ghosts}

-- the head, whether a log or a transcript was begun that isn't whole, how many events or entries it will have, whole logs and
-- transcripts, and the events or the entries behind them
pub record Received (H E T : Type 0) : Type 0 where
  pub head : H
  pub begun : Bool
  pub count : ℕ
  pub logs : List (List E)
  pub events : List E
  pub transcripts : List (List T)
  pub entries : List T

-- a whole record: what its head says, its logs and its transcripts
pub record Whole (H E T : Type 0) : Type 0 where
  pub head : H
  pub logs : List (List E)
  pub transcripts : List (List T)

module _ {H E T : Type 0} where
  -- of this head nothing more was handed over
  abbrev pub only_head : H → Received H E T
  only_head h = record { head = h; begun = false; count = 0; logs = []; events = []; transcripts = []; entries = [] }

  -- a part of so many begins
  abbrev pub with_count : Received H E T → ℕ → Received H E T
  with_count p n = record p { begun = true; count = n }

  -- an event more
  abbrev pub with_event : Received H E T → E → Received H E T
  with_event p e = record p { events = p.events ++ e ∷ [] }

  -- the log is whole
  abbrev pub with_log : Received H E T → Received H E T
  with_log p = record p { begun = false; count = 0; logs = p.logs ++ p.events ∷ []; events = [] }

  -- an entry more
  abbrev pub with_entry : Received H E T → T → Received H E T
  with_entry p e = record p { entries = p.entries ++ e ∷ [] }

  -- the transcript is whole
  abbrev pub with_transcript : Received H E T → Received H E T
  with_transcript p = record p { begun = false; count = 0; transcripts = p.transcripts ++ p.entries ∷ []; entries = [] }

  -- its head comes: it wasn't begun, and nothing of it was handed over
  abbrev pub IsAtHead : {I : Type 0} → Received H E T → List I → Type 0
  IsAtHead p items = (items ≡ []) × (p.count ≡ 0) × (p.begun ≡ false)

  -- the record of that head and of what is whole
  abbrev pub received_whole : H → Received H E T → Whole H E T
  received_whole h p = record { head = h; logs = p.logs; transcripts = p.transcripts }

  -- that head was received, and all that was begun is whole
  pub record IsWholeWith (h : H) (p : Received H E T) : Type 0 where
    pub reported : p.head ≡ h
    pub begun : p.begun ≡ false
    pub events : p.events ≡ []
    pub entries : p.entries ≡ []

module _ {S H E T : Type 0} (f : Ghosts S H E T) where
  -- events of a log, and entries of a transcript
  abbrev pub EventsFit : H → List E → Type 0
  EventsFit h es = AllByRecursion (f.EventFits h) es

  abbrev pub EntriesFit : H → List T → Type 0
  EntriesFit h es = AllByRecursion (f.EntryFits h) es

  -- all events of a log, and all entries of a transcript
  abbrev pub LogFits : H → List E → Type 0
  LogFits h es = (length es ≤ f.most_events) × EventsFit h es

  abbrev pub TranscriptFits : H → List T → Type 0
  TranscriptFits h es = (length es ≤ f.most_entries) × EntriesFit h es

  -- a log for each object, and a transcript for each CPU
  pub record WholeFits (w : Whole H E T) : Type 0 where
    pub head : f.HeadFits w.head
    pub log_count : length w.logs ≡ f.objects w.head
    pub logs : AllByRecursion (LogFits w.head) w.logs
    pub transcript_count : length w.transcripts ≡ f.cpus w.head
    pub transcripts : AllByRecursion (TranscriptFits w.head) w.transcripts

  -- a log is read, or its head comes: all is within its limits
  pub record InLogs (p : Received H E T) : Type 0 where
    pub head : f.HeadFits p.head
    pub logs : AllByRecursion (LogFits p.head) p.logs
    pub more : length p.logs < f.objects p.head
    pub events : EventsFit p.head p.events
    pub few : p.count ≤ f.most_events
    pub transcripts : p.transcripts ≡ []
    pub entries : p.entries ≡ []

  -- a transcript is read, or its head comes
  pub record InTranscripts (p : Received H E T) : Type 0 where
    pub head : f.HeadFits p.head
    pub log_count : length p.logs ≡ f.objects p.head
    pub logs : AllByRecursion (LogFits p.head) p.logs
    pub events : p.events ≡ []
    pub transcripts : AllByRecursion (TranscriptFits p.head) p.transcripts
    pub more : length p.transcripts < f.cpus p.head
    pub entries : EntriesFit p.head p.entries
    pub few : p.count ≤ f.most_entries
