-- What a reader of records knows of its place, and what its sink has received, say what was read.
use Rattle.std.specs.Prelude.{Bool, true, false, ◌≡◌, length}
use Rattle.record_lines.specs.{declared.forms.form.RecordForm.Ghosts, declared.forms.place.ReaderPlace.ReaderPlace, declared.forms.place.Next.Next, declared.forms.place.Next.TheVariants.{Head, Log, Event, Cpu, Entry, End, Done}, Received.{Received, only_head}, FormStates.{State, FitsAt}}

module _ {H E T : Type 0} where
  -- what was read, and which line can come next
  abbrev pub shown : ReaderPlace H → Received H E T → State H E T
  shown at p = record { awaits = at.awaits; head = at.head; count = at.count; logs = p.logs; events = p.events; transcripts = p.transcripts; entries = p.entries }

  -- the sink has received the head, whether a log or a transcript is being read, and how many items its head said
  pub record IsReceived (within : Bool) (at : ReaderPlace H) (p : Received H E T) : Type 0 where
    pub head : p.head ≡ at.head
    pub begun : p.begun ≡ within
    pub count : p.count ≡ at.count

  -- the numbers say how many were handed over
  pub record IsCounted (at : ReaderPlace H) (p : Received H E T) : Type 0 where
    pub logs : at.log_count ≡ length p.logs
    pub events : at.event_count ≡ length p.events
    pub transcripts : at.transcript_count ≡ length p.transcripts
    pub entries : at.entry_count ≡ length p.entries

module _ {S H E T : Type 0} (f : Ghosts S H E T) where
  -- where the head isn't whole it was handed over nothing
  abbrev pub IsReceivedAt : Next → ReaderPlace H → Received H E T → Type 0
  IsReceivedAt Head at p = p ≡ only_head f.no_head
  IsReceivedAt Log at p = IsReceived false at p
  IsReceivedAt Event at p = IsReceived true at p
  IsReceivedAt Cpu at p = IsReceived false at p
  IsReceivedAt Entry at p = IsReceived true at p
  IsReceivedAt End at p = IsReceived false at p
  IsReceivedAt Done at p = IsReceived false at p

  -- what was read is within all limits, and the reader and its sink agree on it
  abbrev pub Agree : ReaderPlace H → Received H E T → Type 0
  Agree at p = FitsAt f at.awaits (shown at p) × IsReceivedAt at.awaits at p × IsCounted at p
