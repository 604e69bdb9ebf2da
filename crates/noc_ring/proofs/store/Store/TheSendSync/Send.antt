use denote.Param.Send.{IsSend, view_send, owning_send, struct_send, AllSend}
use denote.Struct.Struct.{exits_of}
use denote.Struct.Owning.{shape, fields, to}
use Rattle.noc_ring.proofs.SendLemmas.{SlotBlock-send, quiet}
use Rattle.noc_ring.specs.contracts.store.Store.{the_row}
use Rattle.noc_ring.specs.contracts.store.Store.TheInside.{the_row as Inside, the_type as Holder}

inside_send : IsSend Inside
inside_send =
    let all : AllSend (fields Holder) = (SlotBlock-send, tt) in
    owning_send Holder all (λ d. tt) (λ k. quiet (to Holder) (exits_of k (fields Holder)) ((struct_send (shape Holder) all).leaving k))

pub send : IsSend the_row
send = view_send Inside _ _ _ _ inside_send
