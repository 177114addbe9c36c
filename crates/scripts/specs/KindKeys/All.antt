-- What a table of settings says of each kind.
use Rattle.kernel_object.specs.{declared.kind.Kind.Kind, Kinds.All.definition_of}
use Rattle.scripts.specs.{KindKeys.Console.console_keys, KindKeys.Definition.KindKeys, KindKeys.Pool.pool_keys, KindKeys.Queue.queue_keys, KindKeys.Sched.sched_keys}
use Rattle.kernel_object.specs.declared.kind.Kind.TheVariants as kinds

-- one line for each kind
abbrev pub keys_by : (k : Kind) → KindKeys (definition_of k)
keys_by kinds.Queue = queue_keys
keys_by kinds.Pool = pool_keys
keys_by kinds.Console = console_keys
keys_by kinds.Sched = sched_keys
