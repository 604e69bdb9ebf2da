-- Heads are routed as the relation permits it to their packets.
use Rattle.std.proofs.Common.{◌≡◌, ℕ, ◌+◌, ◌/◌, ◌%◌, ◌<◌, List, map, ap, subst, sym}
use Rattle.std.proofs.Math.ListN.{get_or-map}
use Rattle.std.proofs.Math.Path.{fun_ext}
use Rattle.std.proofs.lemmas.List.{length-map}
use Rattle.noc_topo.specs.Shape.{ports}
use Rattle.noc_packet.specs.declared.packet.Packet.{Packet}
use Rattle.noc_sets.specs.Cycle.{HasWorked, Router, Turn}
use Rattle.noc_sets.specs.Layout.{Layout}
use Rattle.noc_sets.specs.Source.{Start}
use Rattle.noc_theory.specs.Good.{IsGoodPacket, IsGoodSetup}
use Rattle.noc_theory.specs.Network.{Setup, packet_at}
use Rattle.noc_theory_bits.specs.Network.{permitted}
use Rattle.noc_columns.specs.Routing.{AreRoutable, IsOfPorts, IsRoutable, header_in, header_of, set_by, sets_by}
use Rattle.noc_columns.specs.declared.ports.RouterPorts.{RouterPorts}
use Rattle.noc_columns.specs.declared.header.Header.{Header}

abbrev NO_PACKET : Packet
NO_PACKET = record { source = 0; destination = 0; class = 0; length = 0; due = 0 }

-- the header of packet p
header-is : (net : Setup) (p : ℕ) → header_in (map header_of net.packets) p ≡ header_of (packet_at net p)
header-is net p = get_or-map header_of net.packets p NO_PACKET

pub routable : (net : Setup) → IsGoodSetup net → AreRoutable net.relation (map header_of net.packets)
routable net setup = record {
  each = λ p l.
      let good : IsGoodPacket net.relation (packet_at net p) = setup.packets p NO_PACKET (subst (λ (n : ℕ). p < n) (length-map net.packets header_of) l) in
      subst (λ (h : Header). IsRoutable net.relation h) (sym (header-is net p)) (record { class = good.class; destination = good.destination });
}

pub sets-permitted : (net : Setup) (r : ℕ) → sets_by net.relation (map header_of net.packets) r ≡ permitted net r
sets-permitted net r = fun_ext (λ k. fun_ext (λ p. ap (λ (h : Header). set_by net.relation h r (k / net.relation.vcs) (k % net.relation.vcs)) (header-is net p)))

-- the same for a whole cycle
pub works-as-permitted : (net : Setup) (all : RouterPorts) (layout : Layout) (starts : List Start) (n r : ℕ) (b : Router) (t : Turn) → IsOfPorts all net.relation
    → HasWorked (all.links.width + 1) all.links.vcs layout starts (sets_by net.relation (map header_of net.packets) r) n b t
    → HasWorked (ports net.relation.grid) net.relation.vcs layout starts (permitted net r) n b t
works-as-permitted net all layout starts n r b t of works =
    subst (λ p. HasWorked p net.relation.vcs layout starts (permitted net r) n b t) (sym of.count)
    (subst (λ v. HasWorked (all.links.width + 1) v layout starts (permitted net r) n b t) (sym of.vcs)
    (subst (λ (sets : ℕ → ℕ → ℕ). HasWorked (all.links.width + 1) all.links.vcs layout starts sets n b t) (sets-permitted net r) works))
