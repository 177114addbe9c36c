-- Runs over objects of their writer's own.
use Rattle.std.specs.Prelude.{Bool, true, false, []}
use Rattle.event_log.specs.{declared.object.SeqObject.Ghosts, declared.event.Step.Step, declared.event.Event.Event, declared.entry.Done.Done, declared.entry.Entry.Entry, declared.entry.Run.Run}
use Rattle.custom_records.specs.{declared.object.CustomObject.CustomObject, declared.object.CustomReply.CustomReply, Said.Said}

-- every object can be opened
abbrev pub custom_in_range : Unit {0} → Bool
custom_in_range p = true

-- the one state
abbrev pub custom_opening : Unit {0} → CustomObject
custom_opening p = record {}

-- no word; no clause about records speaks of it
abbrev pub custom_answer : CustomObject → Said → CustomObject × CustomReply
custom_answer s c = (s, record { said = record { word = []; numbers = [] }; refuses = false })

-- whether a reply refuses its call
abbrev pub custom_refusing : CustomReply → Bool
custom_refusing r = r.refuses

-- of the objects no more is known than which replies refuse
abbrev pub custom : Ghosts CustomObject (Unit {0}) Said CustomReply
custom = record { in_range = custom_in_range; opening = custom_opening; answer = custom_answer; refusing = custom_refusing }

-- a call with its reply
abbrev pub CustomStep : Type 0
CustomStep = Step CustomObject (Unit {0}) Said CustomReply

-- what one CPU did in one go
abbrev pub CustomEvent : Type 0
CustomEvent = Event CustomObject (Unit {0}) Said CustomReply

-- what became of an entry
abbrev pub CustomDone : Type 0
CustomDone = Done CustomObject (Unit {0}) Said CustomReply

-- an entry of a transcript
abbrev pub CustomEntry : Type 0
CustomEntry = Entry CustomObject (Unit {0}) Said CustomReply

-- the logs and transcripts of a run
abbrev pub CustomRun : Type 0
CustomRun = Run CustomObject (Unit {0}) Said CustomReply
