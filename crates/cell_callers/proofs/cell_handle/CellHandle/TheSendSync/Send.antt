-- A handle goes where its content goes.
use denote.{Struct.Struct.exits_of, Struct.Owning.{shape, fields, to}, Param.Send.{IsSend, AllSend, owning_send, struct_send, sendable}}
use Rattle.std_alloc.proofs.SendSync.{quiet}
use Rattle.c_handle.proofs.Sends.{owned_send}
use Rattle.cell_callers.specs.contracts.cell_handle.CellHandle.{the_row, the_type}
use Rattle.std_heap.proofs.Global.TheSendSync as global
use Rattle.cell_callers.specs.contracts.cell_content.CellContent as Content
use Rattle.cell_callers.proofs.Sends.{cell_content_send}

pub send : IsSend the_row
send =
    let all : AllSend (fields the_type) = (search sendable, (global.the_field_send, tt)) in
    owning_send the_type all (λ d. owned_send Content.the_row cell_content_send d.alloc d.ptr d.slot) (λ k. quiet (to the_type) (exits_of k (fields the_type)) ((struct_send (shape the_type) all).leaving k))
