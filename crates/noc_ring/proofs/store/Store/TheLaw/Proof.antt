-- A `&` to the slots is one to their block. Assumes `Logic`.
use denote.SharingLaws.{nothing_shr_laws}
use denote.Struct.Lending.{of_Lends, Lends-nothing}
use Rattle.noc_ring.proofs.store.SlotBlock.TheLaws as block
use Rattle.noc_ring.specs.contracts.store.Store as C
use Rattle.noc_ring.proofs.store.Store.TheLaw.Statement.{statement}

pub shares : statement
shares = of_Lends C.TheInside.struct C.TheInside.the_codes C.TheInside.the_heap C.TheInside.the_lent (λ d p. nothing_shr_laws) (block.the_field_shared, tt)
    (λ M 𝓤 𝓛 d p. Lends-nothing 𝓛 (C.TheInside.the_heap d) C.TheInside.the_row.lives)
