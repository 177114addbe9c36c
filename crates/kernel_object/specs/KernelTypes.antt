-- The types of runs over objects of the kernel.
use Rattle.event_log.specs.{declared.event.Step.Step, declared.event.Steps.Steps, declared.event.Event.Event, declared.entry.Done.Done, declared.entry.Entry.Entry, declared.entry.Todo.Todo, declared.entry.Run.Run}
use Rattle.kernel_object.specs.{declared.call.KParams.KParams, declared.call.KCall.KCall, declared.call.KReply.KReply, declared.object.KernelObject.KernelObject}

-- a call with its reply
abbrev pub KernelStep : Type 0
KernelStep = Step KernelObject KParams KCall KReply

-- the steps of an event
abbrev pub KernelSteps : Type 0
KernelSteps = Steps KernelObject KParams KCall KReply

-- what one CPU did in one go
abbrev pub KernelEvent : Type 0
KernelEvent = Event KernelObject KParams KCall KReply

-- what became of an entry
abbrev pub KernelDone : Type 0
KernelDone = Done KernelObject KParams KCall KReply

-- an entry of a transcript
abbrev pub KernelEntry : Type 0
KernelEntry = Entry KernelObject KParams KCall KReply

-- an entry of a script
abbrev pub KernelTodo : Type 0
KernelTodo = Todo KernelObject KParams KCall KReply

-- the logs and transcripts of a run
abbrev pub KernelRun : Type 0
KernelRun = Run KernelObject KParams KCall KReply
