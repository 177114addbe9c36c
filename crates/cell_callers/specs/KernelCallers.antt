-- Callers of a cell around an object of the kernel.
use Rattle.event_log.specs.declared.event.Steps.{Steps}
use Rattle.kernel_object.specs.{declared.call.KCall.KCall, declared.call.KReply.KReply, declared.call.KParams.KParams, declared.object.KernelObject.KernelObject, contracts.object.KernelObjectSeqObject.TheImpl.ghosts, contracts.call.KCallPartialEq.TheImpl.{ghosts as call_compares}, contracts.call.KCallDefault.TheImpl.{ghosts as call_defaults}, contracts.call.KReplyPartialEq.TheImpl.{ghosts as reply_compares}, contracts.call.KReplyDefault.TheImpl.{ghosts as reply_defaults}}
use Rattle.word_rule.specs.declared.hold.Hold.{Hold}
use Rattle.mcs_lock.specs.declared.states.Ready.{Ready}
use Rattle.guarded_cell.specs.{declared.cell.AnyCell.AnyCell, declared.any_caller.AnyCaller.AnyCaller}
use Rattle.cell_callers.specs.{declared.caller.Caller.{Caller as CallerOf}, declared.place.CallerPlace.CallerPlace}

-- a caller of a cell around an object of the kernel, and its parts
abbrev pub KernelCaller : Type 0
KernelCaller = CallerOf KernelObject KParams KCall KReply ghosts call_compares call_defaults reply_compares reply_defaults

abbrev pub KernelCell : Type 0
KernelCell = AnyCell KernelObject KParams KCall KReply

abbrev pub KernelHold : Type 0
KernelHold = Hold KernelObject KParams KCall KReply ghosts call_compares call_defaults reply_compares reply_defaults

abbrev pub KernelSteps : Type 0
KernelSteps = Steps KernelObject KParams KCall KReply

abbrev pub KernelState : Type 0
KernelState = AnyCaller KernelObject KParams KCall KReply ghosts call_compares call_defaults reply_compares reply_defaults

abbrev pub KernelReady : Type 0
KernelReady = Ready KernelObject KParams KCall KReply ghosts call_compares call_defaults reply_compares reply_defaults

abbrev pub KernelPlace : Type 0
KernelPlace = CallerPlace KernelObject KParams KCall KReply ghosts call_compares call_defaults reply_compares reply_defaults
