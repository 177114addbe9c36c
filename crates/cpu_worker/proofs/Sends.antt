-- Cells around objects of the kernel, their passes and a worker's lists may go to other threads.
use denote.{Param.Send.{IsSend, IsSync, sendable}, RattleType.RattleType}
use Rattle.std.proofs.Crossing.{crosses}
use Rattle.std.specs.{contracts.impls.GlobalAllocator.TheImpl.{ghosts as heap}, declared.clone.Clone.{Ghosts as Clones}, declared.cmp.Eq.{Ghosts as Equals}, declared.cmp.PartialEq.{Ghosts as Compares}, declared.default.Default.{Ghosts as Defaults}}
use Rattle.kernel_object.specs.{contracts.object.KernelObjectSeqObject.TheImpl.{ghosts as kernel}, contracts.call.KCallPartialEq.TheImpl.{ghosts as call_compares}, contracts.call.KCallDefault.TheImpl.{ghosts as call_defaults}, contracts.call.KReplyPartialEq.TheImpl.{ghosts as reply_compares}, contracts.call.KReplyDefault.TheImpl.{ghosts as reply_defaults}}
use Rattle.kernel_object.proofs.{object.KernelObject.TheSendSync.{the_send as object_send}, call.KParams.TheSendSync.{the_send as params_send}, call.KCall.TheSendSync.{the_send as call_send}, call.KReply.TheSendSync.{the_send as reply_send}}
use Rattle.word_rule.proofs.Sends.{pass_send}
use Rattle.guarded_cell.proofs.cell.AnyCell.TheSendSync.{the_sync as any_sync}
use Rattle.std.specs.contracts.alloc.Global as Heap
use Rattle.std.specs.contracts.vec.Vec as Vec
use Rattle.event_log.specs.contracts.entry.Todo as Todo
use Rattle.event_log.specs.contracts.entry.Entry as Entry
use Rattle.kernel_object.specs.contracts.object.KernelObject as Object
use Rattle.kernel_object.specs.contracts.call.KParams as Params
use Rattle.kernel_object.specs.contracts.call.KCall as Call
use Rattle.kernel_object.specs.contracts.call.KReply as Reply
use Rattle.word_rule.specs.contracts.pass.Pass as Pass
use Rattle.guarded_cell.specs.contracts.cell.AnyCell as AnyCell

abbrev pub todos : RattleType
todos = Vec.the_row (Todo.the_row Object.the_row Params.the_row Call.the_row Reply.the_row) Heap.the_row heap

abbrev pub transcript : RattleType
transcript = Vec.the_row (Entry.the_row Object.the_row Params.the_row Call.the_row Reply.the_row) Heap.the_row heap

pub todos_send : IsSend todos
todos_send = search (sendable, crosses, call_send, reply_send) depth 60

pub transcript_send : IsSend transcript
transcript_send = search (sendable, crosses, call_send, reply_send) depth 60

pub vec_send : (T : RattleType) → IsSend T → IsSend (Vec.the_row T Heap.the_row heap)
vec_send T s = search (sendable, crosses, s) depth 60

pub vec_sync : (T : RattleType) → IsSync T → IsSync (Vec.the_row T Heap.the_row heap)
vec_sync T s = search (sendable, crosses, s) depth 60

-- a CPU's passes of all cells
abbrev pub passes : RattleType
passes = Vec.the_row (Pass.the_row Object.the_row Params.the_row Call.the_row Reply.the_row kernel call_compares call_defaults reply_compares reply_defaults) Heap.the_row heap

pub passes_send : IsSend passes
passes_send = vec_send _ (pass_send Object.the_row Params.the_row Call.the_row Reply.the_row kernel call_compares call_defaults reply_compares reply_defaults object_send params_send call_send reply_send)

-- all cells: how calls and replies are copied and compared is part of their type
pub cells_sync : (cl : Clones Call.the_row.Denot) (cq : Equals Call.the_row.Denot) (ce : Compares Call.the_row.Denot) (cd : Defaults Call.the_row.Denot) (rc : Clones Reply.the_row.Denot) (rq : Equals Reply.the_row.Denot) (re : Compares Reply.the_row.Denot) (rd : Defaults Reply.the_row.Denot)
    → IsSync (Vec.the_row (AnyCell.the_row Object.the_row Params.the_row Call.the_row Reply.the_row kernel cl cq ce cd rc rq re rd) Heap.the_row heap)
cells_sync cl cq ce cd rc rq re rd = vec_sync _ (any_sync Object.the_row Params.the_row Call.the_row Reply.the_row kernel cl cq ce cd rc rq re rd object_send params_send call_send reply_send)
