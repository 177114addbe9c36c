-- Which kinds there are, and what all else takes of a kind.
use Rattle.std.specs.Prelude.{List, [], ◌∷◌}
use Rattle.kernel_object.specs.{declared.kind.Kind.Kind, declared.call.KParams.KParams, declared.call.KCall.KCall, declared.object.KernelObject.KernelObject, Kinds.Definition.KindDefinition, Kinds.Queue.queue_kind, Kinds.Pool.pool_kind, Kinds.Console.console_kind, Kinds.Sched.sched_kind}
use Rattle.kernel_object.specs.declared.kind.Kind.TheVariants as kinds
use Rattle.kernel_object.specs.declared.call.KParams.TheVariants as Params
use Rattle.kernel_object.specs.declared.call.KCall.TheVariants as Call
use Rattle.kernel_object.specs.declared.object.KernelObject.TheVariants as Object

-- one line for each kind, here and below
abbrev pub definition_of : Kind → KindDefinition
definition_of kinds.Queue = queue_kind
definition_of kinds.Pool = pool_kind
definition_of kinds.Console = console_kind
definition_of kinds.Sched = sched_kind

-- all kinds
abbrev pub all_kinds : List Kind
all_kinds = kinds.Queue ∷ kinds.Pool ∷ kinds.Console ∷ kinds.Sched ∷ []

-- of which kind of object parameters are
abbrev pub params_kind : KParams → Kind
params_kind (Params.Queue p) = kinds.Queue
params_kind (Params.Pool p) = kinds.Pool
params_kind (Params.Console p) = kinds.Console
params_kind (Params.Sched p) = kinds.Sched

-- the parameters as the kind has them
abbrev pub own_params : (p : KParams) → (definition_of (params_kind p)).Params
own_params (Params.Queue p) = p
own_params (Params.Pool p) = p
own_params (Params.Console p) = p
own_params (Params.Sched p) = p

-- parameters of the kind, as any object's
abbrev pub params_of : (k : Kind) → (definition_of k).Params → KParams
params_of kinds.Queue p = Params.Queue p
params_of kinds.Pool p = Params.Pool p
params_of kinds.Console p = Params.Console p
params_of kinds.Sched p = Params.Sched p

-- a function of kinds, as a match that a search can look into
abbrev pub by_kind : {X : Type 0} → (Kind → X) → Kind → X
by_kind f kinds.Queue = f kinds.Queue
by_kind f kinds.Pool = f kinds.Pool
by_kind f kinds.Console = f kinds.Console
by_kind f kinds.Sched = f kinds.Sched

-- what parameters are by their kind
abbrev pub on_params : {X : Type 0} → ((k : Kind) → (definition_of k).Params → X) → KParams → X
on_params f (Params.Queue p) = f kinds.Queue p
on_params f (Params.Pool p) = f kinds.Pool p
on_params f (Params.Console p) = f kinds.Console p
on_params f (Params.Sched p) = f kinds.Sched p

-- what a call is by its kind
abbrev pub on_call : {X : Type 0} → ((k : Kind) → (definition_of k).Call → X) → KCall → X
on_call f (Call.Queue c) = f kinds.Queue c
on_call f (Call.Pool c) = f kinds.Pool c
on_call f (Call.Console c) = f kinds.Console c
on_call f (Call.Sched c) = f kinds.Sched c

-- a call on the kind, as one on any object
abbrev pub call_of : (k : Kind) → (definition_of k).Call → KCall
call_of kinds.Queue c = Call.Queue c
call_of kinds.Pool c = Call.Pool c
call_of kinds.Console c = Call.Console c
call_of kinds.Sched c = Call.Sched c

-- an object of the kind in that state
abbrev pub object_of : (k : Kind) → (definition_of k).State → KernelObject
object_of kinds.Queue s = Object.Queue s
object_of kinds.Pool s = Object.Pool s
object_of kinds.Console s = Object.Console s
object_of kinds.Sched s = Object.Sched s
