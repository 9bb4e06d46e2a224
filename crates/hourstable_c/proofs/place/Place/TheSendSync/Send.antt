-- A place owns a value that may be sent, and the right to free its block, which every thread may use.
use mir.Raw.{raw}
use denote.Memory.{lone}
use denote.Struct.Struct.{exits_of}
use denote.Struct.Owning.{shape, fields, to}
use denote.RawPtr.{Ptr}
use base.Shift.{Keyless}
use denote.Param.Send.{IsSend, AllSend, owning_send, struct_send, sendable}
use Rattle.std.specs.Prelude.{Option, Some, None}
use Rattle.std.specs.Global.{Global}
use Rattle.hourstable_c.specs.Addresses.{stands_at}
use Rattle.std.proofs.Crossing as heap
use Rattle.std_alloc.proofs.SendSync.{quiet, lies}
use Rattle.std_heap.proofs.Global.TheSendSync as handle
use Rattle.hourstable_c.specs.contracts.held.Held as Home
use Rattle.hourstable_c.proofs.held.Held.TheSendSync.{the_send as home}
use Rattle.hourstable_c.specs.contracts.place.Place.{the_row, the_type}

-- so it is of what stands there, and null owns nothing
stands : (alloc : Global) (at : Ptr) (value : Option Home.the_row.Denot) → Keyless (stands_at alloc at value)
stands alloc at (Some held) = (lies Home.the_row home at held, heap.frees.frees alloc (raw (lone Home.the_row.mir)) at)
stands alloc at None = tt

pub send : IsSend the_row
send =
    let all : AllSend (fields the_type) = (search sendable, (handle.the_field_send, tt)) in
    owning_send the_type all (λ d. stands d.alloc d.at d.value)
    (λ k. quiet (to the_type) (exits_of k (fields the_type)) ((struct_send (shape the_type) all).leaving k))
