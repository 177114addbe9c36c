-- A closure or a tuple may go to another thread.
use mathlib.Core.List.{List}
use mir.Syntax.{Sym}
use denote.{RattleType.RattleType, Param.Send.{IsSend, AllSend, recorded_send, struct_send}, Struct.Declared.{shape, fields}, Struct.Tuple.{TupleAt, type_at}}

-- a closure, or a tuple, goes where all that it holds goes
pub captures_send : (ν : Sym) (Ts : List RattleType) → AllSend (fields (type_at ν Ts)) → IsSend (TupleAt ν Ts)
captures_send ν Ts s = let t = type_at ν Ts in recorded_send _ _ _ t.to_one (struct_send (shape t) s)
