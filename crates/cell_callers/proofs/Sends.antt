-- The content of each handle may go to another thread: an open cell, a caller in any state, and the log of a closed cell.
use denote.{RattleType.RattleType, Param.Send.{IsSend, IsSync, sendable, struct_send}, Struct.Declared.{shape as fields}}
use Rattle.std.proofs.Crossing.{crosses}
use Rattle.std.below.core.specs.contracts.clone.Clone+copy.TheImpl.{ghosts as copied}
use Rattle.event_log.proofs.logged.Logged.TheSendSync.{the_send as logged_send}
use Rattle.atomic_table.proofs.shared.Seat.TheSendSync.{the_send as seat_send}
use Rattle.kernel_object.specs.{contracts.object.KernelObjectSeqObject.TheImpl.{ghosts as kernel}, contracts.call.KCallEq.TheImpl.{ghosts as call_eq}, contracts.call.KCallPartialEq.TheImpl.{ghosts as call_compares}, contracts.call.KCallDefault.TheImpl.{ghosts as call_defaults}, contracts.call.KReplyEq.TheImpl.{ghosts as reply_eq}, contracts.call.KReplyPartialEq.TheImpl.{ghosts as reply_compares}, contracts.call.KReplyDefault.TheImpl.{ghosts as reply_defaults}}
use Rattle.kernel_object.proofs.{object.KernelObject.TheSendSync.{the_send as object_send}, call.KParams.TheSendSync.{the_send as params_send}, call.KCall.TheSendSync.{the_send as call_send}, call.KReply.TheSendSync.{the_send as reply_send}}
use Rattle.word_rule.proofs.Sends.{slot_send}
use Rattle.guarded_cell.proofs.cell.AnyCell.TheSendSync.{the_send as any_send, the_sync as any_sync}
use Rattle.kernel_object.specs.contracts.object.KernelObject as Object
use Rattle.kernel_object.specs.contracts.call.KParams as Params
use Rattle.kernel_object.specs.contracts.call.KCall as Call
use Rattle.kernel_object.specs.contracts.call.KReply as Reply
use Rattle.word_rule.specs.contracts.caller.Outside as Outside
use Rattle.word_rule.specs.contracts.caller.Inside as Inside
use Rattle.event_log.specs.contracts.logged.Logged as Logged
use Rattle.word_rule.proofs.cpu.Cpu.TheSendSync as cpu
use Rattle.word_rule.proofs.loan_token.LoanToken.TheSendSync as loan
use Rattle.guarded_cell.specs.contracts.cell.AnyCell as AnyCell
use Rattle.cell_callers.specs.contracts.cell_content.CellContent as CellContent
use Rattle.cell_callers.specs.contracts.caller_content.CallerContent as CallerContent

-- a cell around an object of the kernel
abbrev cell : RattleType
cell = AnyCell.the_row Object.the_row Params.the_row Call.the_row Reply.the_row kernel (copied Call.the_row) call_eq call_compares call_defaults (copied Reply.the_row) reply_eq reply_compares reply_defaults

cell_send : IsSend cell
cell_send = any_send Object.the_row Params.the_row Call.the_row Reply.the_row kernel (copied Call.the_row) call_eq call_compares call_defaults (copied Reply.the_row) reply_eq reply_compares reply_defaults object_send params_send call_send reply_send

cell_sync : IsSync cell
cell_sync = any_sync Object.the_row Params.the_row Call.the_row Reply.the_row kernel (copied Call.the_row) call_eq call_compares call_defaults (copied Reply.the_row) reply_eq reply_compares reply_defaults object_send params_send call_send reply_send

-- a log of it, a caller without the object, and one with it
log_send : IsSend (Logged.the_row Object.the_row Params.the_row Call.the_row Reply.the_row kernel call_compares call_defaults reply_compares reply_defaults)
log_send = logged_send Object.the_row Params.the_row Call.the_row Reply.the_row kernel call_compares call_defaults reply_compares reply_defaults object_send params_send call_send reply_send

outside_send : IsSend (Outside.the_field Object.the_row Params.the_row Call.the_row Reply.the_row kernel call_compares call_defaults reply_compares reply_defaults).row
outside_send = struct_send (fields (Outside.the_type Object.the_row Params.the_row Call.the_row Reply.the_row kernel call_compares call_defaults reply_compares reply_defaults)) (cpu.the_field_send, (search crosses, (seat_send _ _ (slot_send Object.the_row Params.the_row Call.the_row Reply.the_row kernel call_compares call_defaults reply_compares reply_defaults object_send params_send call_send reply_send), tt)))

inside_send : IsSend (Inside.the_field Object.the_row Params.the_row Call.the_row Reply.the_row kernel call_compares call_defaults reply_compares reply_defaults).row
inside_send = search (sendable, crosses, outside_send, log_send, loan.the_field_send)

-- the content of a cell's handle, and of a caller's
pub cell_content_send : IsSend CellContent.the_row
cell_content_send = search (sendable, crosses, cell_send, cell_sync, outside_send, inside_send, log_send) depth 90 fits 20000

pub caller_content_send : IsSend CallerContent.the_row
caller_content_send = search (sendable, crosses, cell_send, cell_sync, outside_send, inside_send, log_send) depth 90 fits 20000
