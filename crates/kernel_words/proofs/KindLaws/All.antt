-- What is proved of each kind, one line of each.
use Rattle.kernel_object.specs.declared.kind.Kind.{Kind}
use Rattle.kernel_words.specs.Kinds.All.{text_of}
use Rattle.kernel_words.proofs.{KindLaws.Console.console_laws, KindLaws.Laws.KindLaws, KindLaws.Pool.pool_laws, KindLaws.Queue.queue_laws, KindLaws.Sched.sched_laws}
use Rattle.kernel_object.specs.declared.kind.Kind.TheVariants as kinds

pub laws_of : (k : Kind) → KindLaws (text_of k)
laws_of kinds.Queue = queue_laws
laws_of kinds.Pool = pool_laws
laws_of kinds.Console = console_laws
laws_of kinds.Sched = sched_laws
