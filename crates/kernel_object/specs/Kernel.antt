-- What any object of the kernel answers: what its kind answers, or badcall where the call is of another kind.
use Rattle.std.specs.Prelude.{Bool, true, false}
use Rattle.kernel_object.specs.{declared.kind.Kind.Kind, declared.call.KParams.KParams, declared.call.KCall.KCall, declared.call.KReply.KReply, declared.call.KReply.TheVariants.{Ok, Already, BadThread, Thread, Empty, Absent, Count, Page, NoPage, OverQuota, BadOwner, NotYours, NotTaken, BadPage, Dropped, Byte, BadChannel, BadCall}, declared.object.KernelObject.KernelObject, Kinds.All.{definition_of, on_params, object_of}}
use Rattle.kernel_object.specs.declared.kind.Kind.TheVariants as kinds
use Rattle.kernel_object.specs.declared.call.KCall.TheVariants as Call
use Rattle.kernel_object.specs.declared.object.KernelObject.TheVariants as Object

-- whether an object can be opened with the parameters
abbrev pub kernel_in_range : KParams → Bool
kernel_in_range p = on_params (λ k own. (definition_of k).in_range own) p

-- a new object of the kind
abbrev pub kernel_opening : KParams → KernelObject
kernel_opening p = on_params (λ k own. object_of k ((definition_of k).opening own)) p

-- what an object of the kind in that state answers
abbrev pub answer_of : (k : Kind) → (definition_of k).State → (definition_of k).Call → KernelObject × KReply
answer_of k s c = (object_of k ((definition_of k).answer s c).0, ((definition_of k).answer s c).1)

-- what the kind answers, one line for each; a call of another kind is refused
abbrev pub kernel_answer : KernelObject → KCall → KernelObject × KReply
kernel_answer (Object.Queue s) (Call.Queue c) = answer_of kinds.Queue s c
kernel_answer (Object.Pool s) (Call.Pool c) = answer_of kinds.Pool s c
kernel_answer (Object.Console s) (Call.Console c) = answer_of kinds.Console s c
kernel_answer (Object.Sched s) (Call.Sched c) = answer_of kinds.Sched s c
kernel_answer o c = (o, BadCall)

-- whether a reply refuses its call
abbrev pub kernel_refusing : KReply → Bool
kernel_refusing Ok = false
kernel_refusing Already = true
kernel_refusing BadThread = true
kernel_refusing (Thread t) = false
kernel_refusing Empty = true
kernel_refusing Absent = true
kernel_refusing (Count n) = false
kernel_refusing (Page p) = false
kernel_refusing NoPage = true
kernel_refusing OverQuota = true
kernel_refusing BadOwner = true
kernel_refusing NotYours = true
kernel_refusing NotTaken = true
kernel_refusing BadPage = true
kernel_refusing (Dropped b) = false
kernel_refusing (Byte b) = false
kernel_refusing BadChannel = true
kernel_refusing BadCall = true
