-- What was read of a record 1 or 2, and which line can come next.
use Rattle.std.specs.Prelude.{ℕ, ◌≤◌, List}
use Rattle.kernel_object.specs.KernelTypes.{KernelEvent, KernelEntry}
use Rattle.record_lines.specs.{declared.text.line_machine.TheConstants.MOST_BYTES, Received.Received, FormStates.{State, nothing_read as nothing_read_in, TakesLine as TakesLineIn, RefusesLine as RefusesLineIn}}
use Rattle.records.specs.{contracts.record.kernel_form.KernelFormRecordForm.TheImpl.{ghosts as kernel_form}, KernelForm.{Head, settings_in}, RecordRanges.Record}

-- which line can come next, and what was read
abbrev pub RecordState : Type 0
RecordState = State Head KernelEvent KernelEntry

-- nothing was read
abbrev pub nothing_read : RecordState
nothing_read = nothing_read_in kernel_form

-- the record that was read
abbrev pub record_of : RecordState → Record
record_of s = record { settings = settings_in s.head; run = record { logs = s.logs; transcripts = s.transcripts } }

-- what was handed over of a record
abbrev pub KernelReceived : Type 0
KernelReceived = Received Head KernelEvent KernelEntry

-- the record of its head and of what is whole
abbrev pub received_record : KernelReceived → Record
received_record p = record { settings = settings_in p.head; run = record { logs = p.logs; transcripts = p.transcripts } }

-- the line can come there, and makes that state
abbrev pub TakesLine : List ℕ → RecordState → RecordState → Type 0
TakesLine line s t = TakesLineIn kernel_form line s t

-- it can't come there
abbrev pub RefusesLine : List ℕ → RecordState → Type 0
RefusesLine line s = RefusesLineIn kernel_form line s

-- a line may have so many bytes, whatever it begins with
abbrev pub FitsLine : ℕ → ℕ → Type 0
FitsLine first count = count ≤ MOST_BYTES
