-- What a built relation says of channels: a hop begins where the packet is and comes nearer by one,
-- and packets leave at their destination.
use Rattle.std.specs.Prelude.{◌≡◌, ℕ, ◌+◌, ◌<◌, ◌≤◌, true, IsTrue, length}
use Rattle.noc_theory.proofs.Common.{Channel, Link, Eject, permits, Setup, packet_at, end_distance, leads_from}

module _ (net : Setup) where
  pub record IsBuilt : Type 0 where
    -- a permitted channel begins where the packet's channel ends
    pub leads : (m t : ℕ) (c o : Channel) → IsTrue (permits net.relation m c t o) → leads_from net c o ≡ true
    -- a hop shortens the distance by one
    pub shorter : (m t : ℕ) (c : Channel) (r p v : ℕ) → IsTrue (permits net.relation m c t (Link r p v)) → end_distance net.relation (Link r p v) t + 1 ≡ end_distance net.relation c t
    -- a packet leaves the network at its destination
    pub home : (m t : ℕ) (c : Channel) (n v : ℕ) → IsTrue (permits net.relation m c t (Eject n v)) → end_distance net.relation c t ≡ 0
    pub some_depth : 1 ≤ net.depth
    pub some_flit : (p : ℕ) → p < length net.packets → 1 ≤ (packet_at net p).length
