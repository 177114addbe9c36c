-- What was read of a record in any form, and which line can come next.
use Rattle.std.specs.{Prelude.{ℕ, false, ◌≡◌, ◌<◌, ◌≤◌, nat_lt, if◌then◌else◌, List, [], ◌∷◌, ◌++◌, length, Option, Some, None}, List.AllByRecursion}
use Rattle.record_lines.specs.{declared.forms.form.RecordForm.Ghosts, declared.forms.place.Next.Next, declared.forms.place.Next.TheVariants.{Head, Log, Event, Cpu, Entry, End, Done}, Reading.◌>>=◌, Received.{Whole, LogFits, TranscriptFits, EventsFit, EntriesFit}}

-- which line can come next, and what was read: the head, whole logs and transcripts, the events or the entries behind them, and how
-- many of what is being read its head said
pub record State (H E T : Type 0) : Type 0 where
  pub awaits : Next
  pub head : H
  pub count : ℕ
  pub logs : List (List E)
  pub events : List E
  pub transcripts : List (List T)
  pub entries : List T

-- the record that was read
abbrev pub whole_of : {H E T : Type 0} → State H E T → Whole H E T
whole_of s = record { head = s.head; logs = s.logs; transcripts = s.transcripts }

module _ {S H E T : Type 0} (f : Ghosts S H E T) where
  -- nothing was read
  abbrev pub nothing_read : State H E T
  nothing_read = record { awaits = Head; head = f.no_head; count = 0; logs = []; events = []; transcripts = []; entries = [] }

  -- behind a line of the head: others, or the first log
  unfoldable pub behind_head : State H E T → State H E T
  behind_head s = if f.is_whole s.head then record s { awaits = Log } else s

  -- behind a log: another, or the first transcript
  unfoldable pub behind_log : State H E T → State H E T
  behind_log s = if nat_lt (length s.logs) (f.objects s.head) then record s { awaits = Log } else record s { awaits = Cpu }

  -- behind events: others, or the end of the log
  unfoldable pub behind_events : State H E T → State H E T
  behind_events s = if nat_lt (length s.events) s.count then record s { awaits = Event } else behind_log (record s { count = 0; logs = s.logs ++ s.events ∷ []; events = [] })

  -- behind a transcript: another, or the record's end
  unfoldable pub behind_transcript : State H E T → State H E T
  behind_transcript s = if nat_lt (length s.transcripts) (f.cpus s.head) then record s { awaits = Cpu } else record s { awaits = End }

  -- behind entries: others, or the end of the transcript
  unfoldable pub behind_entries : State H E T → State H E T
  behind_entries s = if nat_lt (length s.entries) s.count then record s { awaits = Entry } else behind_transcript (record s { count = 0; transcripts = s.transcripts ++ s.entries ∷ []; entries = [] })

  -- behind the line, if it can come there
  unfoldable pub behind_line_at : Next → State H E T → List ℕ → Option (State H E T)
  behind_line_at Head s line = f.head_after s.head line >>= λ h. Some (behind_head (record s { head = h }))
  behind_line_at Log s line = f.log_at s.head (length s.logs) line >>= λ n. Some (behind_events (record s { count = n }))
  behind_line_at Event s line = f.event_at s.head line >>= λ e. Some (behind_events (record s { events = s.events ++ e ∷ [] }))
  behind_line_at Cpu s line = f.cpu_at s.head (length s.transcripts) line >>= λ n. Some (behind_entries (record s { count = n }))
  behind_line_at Entry s line = f.entry_at s.head line >>= λ e. Some (behind_entries (record s { entries = s.entries ++ e ∷ [] }))
  behind_line_at End s line = if f.ends line then Some (record s { awaits = Done }) else None
  behind_line_at Done s line = None

  -- the line can come there, and makes that state
  abbrev pub TakesLine : List ℕ → State H E T → State H E T → Type 0
  TakesLine line s t = behind_line_at s.awaits s line ≡ Some t

  -- it can't come there
  abbrev pub RefusesLine : List ℕ → State H E T → Type 0
  RefusesLine line s = behind_line_at s.awaits s line ≡ None

  -- logs are read
  pub record LogsFit (s : State H E T) : Type 0 where
    pub head : f.HeadFits s.head
    pub logs : AllByRecursion (LogFits f s.head) s.logs
    pub transcripts : s.transcripts ≡ []
    pub entries : s.entries ≡ []

  -- transcripts are
  pub record TranscriptsFit (s : State H E T) : Type 0 where
    pub head : f.HeadFits s.head
    pub log_count : length s.logs ≡ f.objects s.head
    pub logs : AllByRecursion (LogFits f s.head) s.logs
    pub events : s.events ≡ []
    pub transcripts : AllByRecursion (TranscriptFits f s.head) s.transcripts

  -- all of them were read
  pub record AllRead (s : State H E T) : Type 0 where
    pub fit : TranscriptsFit s
    pub none : (s.entries ≡ []) × (s.count ≡ 0)
    pub all : length s.transcripts ≡ f.cpus s.head

  -- what was read is within all limits, where that line can come next
  abbrev pub FitsAt : Next → State H E T → Type 0
  FitsAt Head s = (f.HeadPart s.head × (f.is_whole s.head ≡ false)) × (s ≡ record nothing_read { head = s.head })
  FitsAt Log s = LogsFit s × ((s.events ≡ []) × (s.count ≡ 0)) × (length s.logs < f.objects s.head)
  FitsAt Event s = LogsFit s × (EventsFit f s.head s.events × (length s.events < s.count) × (s.count ≤ f.most_events)) × (length s.logs < f.objects s.head)
  FitsAt Cpu s = TranscriptsFit s × ((s.entries ≡ []) × (s.count ≡ 0)) × (length s.transcripts < f.cpus s.head)
  FitsAt Entry s = TranscriptsFit s × (EntriesFit f s.head s.entries × (length s.entries < s.count) × (s.count ≤ f.most_entries)) × (length s.transcripts < f.cpus s.head)
  FitsAt End s = AllRead s
  FitsAt Done s = AllRead s
