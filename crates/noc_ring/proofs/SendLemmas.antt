-- The slots of a bank may go to another thread, and be read by several: what they own and lend is
-- memory and plain data alone.
use Rattle.std.proofs.Common.{List, [], ◌∷◌, Bool, true, false}
use base.Fraction.{full_share}
use base.Fml.{Fml, ftrue}
use base.Shift.{Keyless}
use denote.RattleType.{RattleType}
use denote.Exit.{Exit, unchanged, leaves, hidden, under}
use denote.RawPtr.{Ptr, block_ptr, null_ptr, block_of, count_of, lies_at, in_block, ◌+ₚ◌}
use denote.Struct.Lending.{lent_at}
use denote.Struct.Struct.{exits_of}
use denote.Struct.Owning.{shape, fields, to}
use denote.Param.Send.{IsSend, IsSync, Frees, Common, Quiet, AllSend, part_keyless, owning_send, struct_send, struct_sync, sendable}
use Rattle.core.specs.Mem.Slots.Ownership.{bytes_of, slot, slots, slots_lent}
use Rattle.core.specs.declared.alloc.Allocator.{Ghosts}
use Rattle.core.specs.contracts.slots.Slots as Slots
use Rattle.core.specs.contracts.slots.Lease as Lease
use Rattle.std.proofs.Crossing.{frees}
use Rattle.std.specs.contracts.alloc.Global as Global
use Rattle.noc_packet.specs.contracts.packet.Flit as Flit
use Rattle.noc_ring.specs.contracts.store.SlotBlock as SlotBlock
use denote.Struct.Declared.{shape as shape-of}

pub quiet : {D X : Type 0} (to : D → X) (e : Exit X) → Quiet e → Quiet (hidden (under to e))
quiet to unchanged q = λ x w. tt
quiet to (leaves L l S s r₀) q = λ d. q (to d)

inside : (p : Ptr) (F : Fml) → Keyless F → Keyless (in_block p F)
inside (block_ptr b o) F k = k
inside null_ptr F k = tt

module _ (R : RattleType) where
  lies : IsSend R → (p : Ptr) (x : R.Denot) → Keyless (lies_at R full_share p x)
  lies s (block_ptr b o) x = part_keyless R s full_share x b o
  lies s null_ptr x = tt

  seen : IsSync R → (p : Ptr) (x : R.Denot) → Common (lent_at R p x)
  seen y p x κ = (inside p ftrue tt, y.shared x (block_of p) (count_of p) κ)

  slot-Keyless : IsSend R → (f : Bool) (p : Ptr) (x : R.Denot) → Keyless (slot R f p x)
  slot-Keyless s true p x = lies s p x
  slot-Keyless s false (block_ptr b o) x = tt
  slot-Keyless s false null_ptr x = tt

  slots-Keyless : IsSend R → (p : Ptr) (xs : List R.Denot) (fs : List Bool) → Keyless (slots R p xs fs)
  slots-Keyless s p [] fs = tt
  slots-Keyless s p (x ∷ xs) [] = tt
  slots-Keyless s p (x ∷ xs) (f ∷ fs) = (slot-Keyless s f p x, slots-Keyless s (p +ₚ bytes_of R) xs fs)

  slots_lent-Common : IsSync R → (p : Ptr) (xs : List R.Denot) (fs : List Bool) → Common (slots_lent R p xs fs)
  slots_lent-Common y p [] fs κ = tt
  slots_lent-Common y p (x ∷ xs) [] κ = tt
  slots_lent-Common y p (x ∷ xs) (true ∷ fs) κ = (seen y p x κ, slots_lent-Common y (p +ₚ bytes_of R) xs fs κ)
  slots_lent-Common y p (x ∷ xs) (false ∷ fs) κ = (tt, slots_lent-Common y (p +ₚ bytes_of R) xs fs κ)

  pub Slots-send : IsSend R → IsSend (Slots.the_row R)
  Slots-send s =
      let O = Slots.the_type R in let all : AllSend (fields O) = search sendable in
      owning_send O all (λ d. (tt, inside d.ptr _ (slots-Keyless s d.ptr d.items d.filled))) (λ k. quiet (to O) (exits_of k (fields O)) ((struct_send (shape O) all).leaving k))

  pub Slots-sync : IsSync R → IsSync (Slots.the_row R)
  Slots-sync y = let O = Slots.the_type R in record { shared = λ d b o κ. ((struct_sync (shape O) (search sendable)).shared (to O d) b o κ, (tt, slots_lent-Common y d.ptr d.items d.filled κ)) }

  module _ (A : RattleType) (g : Ghosts A.Denot) where
    pub Lease-send : Frees g g.dealloc_token → IsSend (Lease.the_row R A g)
    Lease-send f =
        let O = Lease.the_type R A g in let all : AllSend (fields O) = search sendable in
        owning_send O all (λ d. f.frees d.alloc _ d.ptr) (λ k. quiet (to O) (exits_of k (fields O)) ((struct_send (shape O) all).leaving k))

    pub Lease-sync : Frees g g.dealloc_token → IsSync (Lease.the_row R A g)
    Lease-sync f = record { shared = λ d b o κ q. part_keyless (Lease.the_row R A g) (Lease-send f) q d b o }

-- ---- the block of a bank
flit_send : IsSend Flit.the_row
flit_send = search sendable depth 20

flit_sync : IsSync Flit.the_row
flit_sync = search sendable depth 20

pub SlotBlock-send : IsSend SlotBlock.the_field.row
SlotBlock-send = struct_send (shape-of SlotBlock.the_type) (Slots-send Flit.the_row flit_send, (Lease-send Flit.the_row Global.the_row _ frees, (search sendable depth 20, tt)))

pub SlotBlock-sync : IsSync SlotBlock.the_field.row
SlotBlock-sync = struct_sync (shape-of SlotBlock.the_type) (Slots-sync Flit.the_row flit_sync, (Lease-sync Flit.the_row Global.the_row _ frees, (search sendable depth 20, tt)))
