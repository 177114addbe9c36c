-- What records were judged by before owners of pages had quotas.
use Rattle.event_log.specs.declared.object.SeqObject.{Ghosts}
use Rattle.page_pool.specs.Unlimited.{unlimited_answer}
use Rattle.sound_run.specs.Sound.{Sound}
use Rattle.kernel_object.specs.{declared.call.KParams.KParams, declared.call.KCall.KCall, declared.call.KCall.TheVariants.{Pool as PoolCalled}, declared.call.KReply.KReply, declared.object.KernelObject.KernelObject, declared.object.KernelObject.TheVariants.{Pool as PoolObject}, Kernel.kernel_answer, Kinds.Pool.of_pool}
use Rattle.records.specs.{RecordRanges.Record, Runs.opened_of}

-- what the kind answered, where pools had no quotas
abbrev pub unlimited_kernel_answer : KernelObject → KCall → KernelObject × KReply
unlimited_kernel_answer (PoolObject s) (PoolCalled c) = (PoolObject (unlimited_answer s c).0, of_pool (unlimited_answer s c).1)
unlimited_kernel_answer o c = kernel_answer o c

-- the meaning of the kernel's objects, with these answers
abbrev pub without_quotas : Ghosts KernelObject KParams KCall KReply → Ghosts KernelObject KParams KCall KReply
without_quotas meaning = record meaning { answer = unlimited_kernel_answer }

-- the record was sound by the definitions from before quotas
abbrev pub WasSound : Ghosts KernelObject KParams KCall KReply → Record → Type 0
WasSound meaning r = Sound (without_quotas meaning) (opened_of r.settings) r.run
