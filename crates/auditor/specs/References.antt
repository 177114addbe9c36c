-- What a reference object shows.
use Rattle.kernel_object.specs.{declared.object.KernelObject.KernelObject, declared.object.KernelObject.TheVariants.{Queue, Pool, Console, Sched}}
use Rattle.auditor.specs.declared.references.object.ReferenceKernelObject.{ReferenceKernelObject}
use Rattle.auditor.specs.declared.references.object.ReferenceKernelObject.TheVariants as reference

-- the object that would be in the same state
abbrev pub shown : ReferenceKernelObject → KernelObject
shown (reference.Queue q) = Queue q
shown (reference.Pool s) = Pool s
shown (reference.Console c) = Console c
shown (reference.Sched s) = Sched s
