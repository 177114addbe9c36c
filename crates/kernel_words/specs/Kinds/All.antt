-- How each kind is spelled.
use Rattle.kernel_object.specs.{declared.kind.Kind.Kind, Kinds.All.definition_of}
use Rattle.kernel_words.specs.{Kinds.Console.console_text, Kinds.Definition.KindText, Kinds.Pool.pool_text, Kinds.Queue.queue_text, Kinds.Sched.sched_text}
use Rattle.kernel_object.specs.declared.kind.Kind.TheVariants as kinds

-- one line for each kind
abbrev pub text_of : (k : Kind) → KindText (definition_of k)
text_of kinds.Queue = queue_text
text_of kinds.Pool = pool_text
text_of kinds.Console = console_text
text_of kinds.Sched = sched_text
