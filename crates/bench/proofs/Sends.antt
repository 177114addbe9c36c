-- A caller may go to another thread.
use mathlib.Core.List.{[], ◌∷◌}
use denote.{RattleType.RattleType, Struct.Tuple.TupleAt, Param.Send.{IsSend, sendable}, Param.SendFields.{declared_send, variants_send}}
use Rattle.std.specs.contracts.impls.GlobalAllocator.TheImpl.{ghosts as global}
use Rattle.std.proofs.Crossing.{Arc-send}
use Rattle.shared_queue.proofs.{queue.ThreadQueue.TheSendSync.{the_send as queue_send}, call.QueueCall.TheSendSync.{the_send as call_send}, call.QueueReply.TheSendSync.{the_send as reply_send}}
use Rattle.word_rule.proofs.Sends.{pass_send}
use Rattle.bench.proofs.{cells.Cell.TheSendSync.{the_send as cell_send, the_sync as cell_sync}, cells.InMutex.TheSendSync.{the_send as mutex_send, the_sync as mutex_sync}}
use Rattle.std.specs.contracts.alloc.Global as Global
use Rattle.std.specs.contracts.vec.Vec as Vec
use Rattle.bench.specs.contracts.calls.Calls as Calls
use Rattle.bench.specs.contracts.cells.ByLock as ByLock
use Rattle.bench.specs.contracts.cells.Caller as Caller

pub caller_send : IsSend Caller.the_row
caller_send =
    let by_lock : IsSend ByLock.the_row = declared_send ByLock.the_type (Arc-send _ cell_send cell_sync, (pass_send _ _ _ _ _ _ _ _ _ queue_send (search sendable) call_send reply_send, tt)) in
    variants_send Caller.enum ((by_lock, tt), ((Arc-send _ mutex_send mutex_sync, tt), tt))

-- a CPU's places: a list of pairs, whose name is `(,)`
abbrev pub Places : RattleType
Places = Vec.the_row (TupleAt (40 ∷ 44 ∷ 41 ∷ []) (Caller.the_row ∷ Calls.the_row ∷ [])) Global.the_row global
