-- The flits in the buffers of a router, and on the wires to it, are flits of packets within the
-- limits: they fit the bits of a word.
use Rattle.std.proofs.Common.{◌≡◌, ℕ, ◌<◌, List, Option, Some, None, sym, subst}
use Rattle.noc_theory.proofs.worms.MemberLemmas.{Has-map}
use Rattle.noc_theory_bits.proofs.Common.{Has, nodes, flit_at, Flit, View, view_buffer, IsGoodSetup, IsValid, seen_flits, Setup, State, Located, size, arriving, packet_at, is_in, buffer_of, frozen_at, Has-filter, IsSeen}
use Rattle.noc_theory_bits.proofs.network.NetworkLemmas.{good, frozen_view, frozen-seen, steady-still}
use Rattle.noc_theory_bits.proofs.network.SteadyLemmas.{IsSteady}

module _ (net : Setup) (setup : IsGoodSetup net) where
  -- a flit of a packet of the network
  pub record IsFlitOf (f : Flit) : Type 0 where
    pub packet : ℕ
    pub index : ℕ
    pub valid : IsValid net packet index
    pub is : f ≡ flit_at (packet_at net packet) packet index

  -- the flits in a buffer
  pub buffer-flits : (S : State) → IsSteady net (good net setup) S → (r : ℕ) (v : View) → IsSeen net S r v → (i : ℕ) → i < size net → (f : Flit) → Has f (view_buffer v i) → IsFlitOf f
  buffer-flits S x r v seen i l f h = at (arriving net r i) (subst (λ (fs : List Flit). Has f fs) (seen.buffer i l) h)
    where
      at : (c : Option Rattle.noc_route.specs.Channel.Channel) → Has f (seen_flits net S c) → IsFlitOf f
      at None k = elim k [ ]
      at (Some c) k =
          let one = Has-map (λ (g : Located). flit_at (packet_at net g.packet) g.packet g.index) f (buffer_of net S c) k in
          let there = Has-filter (λ (g : Located). is_in c g.place) one.0 S.at one.1 in
          record { packet = one.0.packet; index = one.0.index; valid = x.keyed.valid one.0 there.0; is = sym one.2 }

  module _ (n r : ℕ) (l : r < nodes net.relation.grid) where
    pub frozen-flits : (i : ℕ) → i < size net → (f : Flit) → Has f (view_buffer (frozen_view net setup n r l) i) → IsFlitOf f
    frozen-flits = buffer-flits (frozen_at net n) (steady-still net setup n) r (frozen_view net setup n r l) (frozen-seen net setup n r l)
