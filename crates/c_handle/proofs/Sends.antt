-- What a handle owns may go to another thread if its content may.
use mir.Raw.{raw}
use base.Shift.{Keyless}
use denote.{RattleType.RattleType, Memory.lone, RawPtr.Ptr, Param.Send.IsSend}
use Rattle.std_alloc.proofs.SendSync.{lies}
use Rattle.std.specs.Global.{Global}
use Rattle.std.proofs.Crossing as heap
use Rattle.core.proofs.mem.manually_drop.ManuallyDrop.TheSendSync as manual
use Rattle.c_handle.specs.Handles.{kept, Slot, handle_owns}

pub owned_send : (T : RattleType) → IsSend T → (alloc : Global) (p : Ptr) (x : Slot T) → Keyless (handle_owns T alloc p x)
owned_send T s alloc p x = (lies (kept T) (manual.the_send T s) p x, heap.frees.frees alloc (raw (lone (kept T).mir)) p)
