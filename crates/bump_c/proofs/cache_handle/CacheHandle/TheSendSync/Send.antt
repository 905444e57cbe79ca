-- A handle may go to another thread, as a box of a cache may: what a cache owns names no thread, whatever stands for the name.
use denote.Struct.Struct.{exits_of}
use denote.Struct.Owning.{shape, fields, to}
use denote.Param.Send.{IsSend, AllSend, owning_send, struct_send, sendable}
use Rattle.std_alloc.proofs.SendSync.{quiet}
use Rattle.std_heap.proofs.Global.TheSendSync as handle
use Rattle.bump_c.specs.Seals.{cache_row}
use Rattle.bump_c.specs.contracts.cache_handle.CacheHandle.{the_row, the_type}
use Rattle.bump_c.proofs.Crossing.{cache_sends, owned_sends}

pub send : IsSend the_row
send =
    let all : AllSend (fields the_type) = (search sendable, (handle.the_field_send, tt)) in
    owning_send the_type all (λ d. owned_sends cache_row cache_sends d.alloc d.ptr d.table d.held)
    (λ k. quiet (to the_type) (exits_of k (fields the_type)) ((struct_send (shape the_type) all).leaving k))
