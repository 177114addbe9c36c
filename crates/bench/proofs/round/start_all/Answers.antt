use mathlib.Core.List.{[], ◌∷◌}
use mir.Syntax.{named, w64}
use denote.{Exit.yes, Plain.UInt, Param.param, Ref.ShrRef, Param.Send.{sendable, param_send, arg_send, shr_send}}
use Rattle.std.proofs.Crossing.{crosses}
use Rattle.event_log.proofs.Sends.{captures_send}
use Rattle.bench.proofs.{Sends.{caller_send, Places}, BenchFault.TheSendSync.{the_send as fault_send}}
use Rattle.std.specs.contracts.alloc.Global as Global
use Rattle.std.specs.contracts.sync.atomic.AtomicUsize as AtomicUsize
use Rattle.bench.proofs.round.start_all.Goals as goal

pub spawn-requires-send-F : goal.spawn-requires-send-F
spawn-requires-send-F g c κs within =
    let runtime = ShrRef (named 5) κs.1.1.1.1.1.0 (param 1 g.row.R) in
    let gate = ShrRef (named 6) κs.1.1.1.1.1.1.0 AtomicUsize.the_row in
    param_send _ _ (arg_send _ yes _ (captures_send _ (runtime ∷ Global.the_row ∷ gate ∷ UInt w64 ∷ Places ∷ [])
    (shr_send (named 5) κs.1.1.1.1.1.0 (param 1 g.row.R) c.type_bounds.sync-R, (search (sendable, crosses), (shr_send (named 6) κs.1.1.1.1.1.1.0 AtomicUsize.the_row (search (sendable, crosses)), (search sendable, (search (sendable, crosses, caller_send) depth 40, tt)))))))

pub spawn-requires-send-T : goal.spawn-requires-send-T
spawn-requires-send-T g c κs within = search (sendable, crosses, caller_send, fault_send) depth 60
