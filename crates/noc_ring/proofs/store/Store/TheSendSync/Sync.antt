use denote.Param.Send.{IsSync, view_sync, struct_sync}
use denote.Struct.Owning.{shape, to}
use Rattle.noc_ring.proofs.SendLemmas.{SlotBlock-sync}
use Rattle.noc_ring.specs.contracts.store.Store.{the_row}
use Rattle.noc_ring.specs.contracts.store.Store.TheInside.{the_row as Inside, the_type as Holder}

inside_sync : IsSync Inside
inside_sync = record { shared = λ d b o κ. ((struct_sync (shape Holder) (SlotBlock-sync, tt)).shared (to Holder d) b o κ, tt) }

pub sync : IsSync the_row
sync = view_sync Inside _ _ _ _ inside_sync
