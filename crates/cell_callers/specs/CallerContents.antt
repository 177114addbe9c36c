-- Effects on the content of a caller's handle: a step, or nothing.
use Rattle.std.specs.Prelude.{◌≡◌, is_some, Bool, true, List, Option, None, Result}
use Rattle.std_alloc.specs.Arc.{arc_value}
use Rattle.event_log.specs.{declared.logged.NoRoom.NoRoom}
use Rattle.kernel_object.specs.{declared.call.KCall.KCall, declared.call.KReply.KReply, contracts.object.KernelObjectSeqObject.TheImpl.ghosts}
use Rattle.word_rule.specs.{declared.progress.Progress.Progress, Polls.{IsAcquireStep, IsReleaseStep}}
use Rattle.guarded_cell.specs.{AnyCallers.state_of_caller, Kinds.kind_of}
use Rattle.cell_callers.specs.{declared.caller_content.CallerContent.CallerContent, declared.caller_content.CallerContent.TheVariants.{Empty, Caller}, KernelCallers.{KernelCell, KernelState, KernelSteps}, Places.{Between, idle_cpu}, Wholes.{IsApplied, IsTriedBy, IsCalled, IsBatched, IsTryCalled}, declared.whole.Whole.Whole, declared.whole.TriedCall.TriedCall}
use Rattle.cell_callers.specs.declared.whole.Whole.TheVariants as whole
use Rattle.cell_callers.specs.declared.whole.TriedCall.TheVariants as tried

-- a caller of the same cell has done that, and reports r; an empty handle is unchanged, and r says that nothing was done
abbrev pub IsDoneIn : {R : Type 0} → (KernelCell → KernelState → R → KernelState → Type 0) → R → CallerContent → R → CallerContent → Type 0
IsDoneIn Q none (Caller c) r (Caller d) = (arc_value d.cell ≡ arc_value c.cell) × Between (arc_value c.cell) c.place d.place (λ p q. Q (arc_value c.cell) p r q)
IsDoneIn Q none before r after = (r ≡ none) × (after ≡ before)

-- a step towards the lock, a step to release it, a try, and a call under a hold
abbrev pub IsAcquireStepIn : CallerContent → Option Progress → CallerContent → Type 0
IsAcquireStepIn = IsDoneIn (λ cell. IsAcquireStep ghosts state_of_caller (kind_of cell)) None

abbrev pub IsReleaseStepIn : CallerContent → Option Progress → CallerContent → Type 0
IsReleaseStepIn = IsDoneIn (λ cell. IsReleaseStep ghosts state_of_caller (kind_of cell)) None

abbrev pub IsTryIn : CallerContent → Option Bool → CallerContent → Type 0
IsTryIn = IsDoneIn (IsTriedBy ghosts) None

abbrev pub IsApplyIn : KCall → CallerContent → Option (Result KReply NoRoom) → CallerContent → Type 0
IsApplyIn call = IsDoneIn (λ cell before. IsApplied ghosts cell before call) None

-- a whole call, a batch, and a call by a try
abbrev pub IsCallIn : KCall → CallerContent → Whole (Result KReply NoRoom) → CallerContent → Type 0
IsCallIn call = IsDoneIn (λ cell before. IsCalled ghosts cell before call) whole.Refused

abbrev pub IsBatchIn : List KCall → CallerContent → Whole (Result KernelSteps NoRoom) → CallerContent → Type 0
IsBatchIn calls = IsDoneIn (λ cell before. IsBatched ghosts cell before calls) whole.Refused

abbrev pub IsTryCallIn : KCall → CallerContent → TriedCall (Result KReply NoRoom) → CallerContent → Type 0
IsTryCallIn call = IsDoneIn (λ cell before. IsTryCalled ghosts cell before call) tried.Refused

-- it may be freed unless it has a caller that isn't idle
abbrev pub may_be_freed : CallerContent → Bool
may_be_freed (Caller c) = is_some (idle_cpu c.place)
may_be_freed Empty = true
