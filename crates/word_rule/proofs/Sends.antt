-- What lies in a cell's slot, and a cell's passes, may go to another thread.
use denote.{RattleType.RattleType, Param.Send.{IsSend, sendable, recorded_send, enum_send, struct_send}, Enum.Declared.shape, Struct.Declared.{shape as fields}}
use Rattle.std.proofs.Crossing.{crosses}
use Rattle.std.specs.{declared.cmp.PartialEq.{Ghosts as Compares}, declared.default.Default.{Ghosts as Defaults}}
use Rattle.event_log.specs.declared.object.SeqObject.{Ghosts}
use Rattle.event_log.proofs.logged.Logged.TheSendSync.{the_send as logged_send}
use Rattle.atomic_table.proofs.shared.Seat.TheSendSync.{the_send as seat}
use Rattle.std.specs.contracts.option.Option as Option
use Rattle.event_log.specs.contracts.logged.Logged as Logged
use Rattle.word_rule.specs.contracts.caller.Outside as Outside
use Rattle.word_rule.specs.contracts.cpu.Cpu as Cpu
use Rattle.word_rule.specs.contracts.pass.Pass as Pass

-- an object with its log, or none, goes where the object, its parameters, calls and replies go
pub slot_send : (O P C R : RattleType) (g : Ghosts O.Denot P.Denot C.Denot R.Denot) (ce : Compares C.Denot) (cd : Defaults C.Denot) (re : Compares R.Denot) (rd : Defaults R.Denot) → IsSend O → IsSend P → IsSend C → IsSend R →
    IsSend (Option.the_row (Logged.the_row O P C R g ce cd re rd))
slot_send O P C R g ce cd re rd o p c r =
    let t = Option.the_type (Logged.the_row O P C R g ce cd re rd) in
    recorded_send _ _ _ t.to_one (enum_send (shape t) (tt, ((logged_send O P C R g ce cd re rd o p c r, tt), tt)))

-- so does a CPU's number
cpu_send : IsSend Cpu.the_field.row
cpu_send = struct_send (fields Cpu.the_type) (search sendable, tt)

-- and so does a caller without the object
outside_send : (O P C R : RattleType) (g : Ghosts O.Denot P.Denot C.Denot R.Denot) (ce : Compares C.Denot) (cd : Defaults C.Denot) (re : Compares R.Denot) (rd : Defaults R.Denot) → IsSend O → IsSend P → IsSend C → IsSend R →
    IsSend (Outside.the_field O P C R g ce cd re rd).row
outside_send O P C R g ce cd re rd o p c r = struct_send (fields (Outside.the_type O P C R g ce cd re rd)) (cpu_send, (search crosses, (seat _ _ (slot_send O P C R g ce cd re rd o p c r), tt)))

-- and a pass, in a struct and by itself
pub pass_field_send : (O P C R : RattleType) (g : Ghosts O.Denot P.Denot C.Denot R.Denot) (ce : Compares C.Denot) (cd : Defaults C.Denot) (re : Compares R.Denot) (rd : Defaults R.Denot) → IsSend O → IsSend P → IsSend C → IsSend R →
    IsSend (Pass.the_field O P C R g ce cd re rd).row
pass_field_send O P C R g ce cd re rd o p c r = struct_send (fields (Pass.the_type O P C R g ce cd re rd)) (outside_send O P C R g ce cd re rd o p c r, tt)

pub pass_send : (O P C R : RattleType) (g : Ghosts O.Denot P.Denot C.Denot R.Denot) (ce : Compares C.Denot) (cd : Defaults C.Denot) (re : Compares R.Denot) (rd : Defaults R.Denot) → IsSend O → IsSend P → IsSend C → IsSend R →
    IsSend (Pass.the_row O P C R g ce cd re rd)
pass_send O P C R g ce cd re rd o p c r =
    let t = Pass.the_type O P C R g ce cd re rd in
    recorded_send _ _ _ t.to_one (pass_field_send O P C R g ce cd re rd o p c r)
