-- What progress needs of a network: its parts fit each other, and no packet reaches a place from
-- which nothing is permitted.
use Rattle.std.specs.Prelude.{◌≡◌, ℕ, ◌<◌, IsTrue, length, Some}
use Rattle.noc_theory.proofs.Common.{nodes, neighbour, Channel, Link, Inject, Eject, permits, Setup, size, packet_at, leaving}

module _ (net : Setup) where
  -- a channel of this network
  abbrev pub IsReal : Channel → Type 0
  IsReal (Link r q v) = (r < nodes net.relation.grid) × (v < net.relation.vcs) × (place : ℕ × ℕ) × (neighbour net.relation.grid r q ≡ Some place)
  IsReal (Inject n v) = (n < nodes net.relation.grid) × (v < net.relation.vcs)
  IsReal (Eject n v) = (n < nodes net.relation.grid) × (v < net.relation.vcs)

  -- router r has an output channel that is permitted to a packet of class m on c, bound for t
  abbrev pub LeadsOn : ℕ → Channel → ℕ → ℕ → Type 0
  LeadsOn m c t r = (i : ℕ) × (i < size net) × IsTrue (permits net.relation m c t (leaving net r i))

  pub record IsBuilt : Type 0 where
    pub depth : 0 < net.depth
    pub vcs : 0 < net.relation.vcs
    pub sources : (p : ℕ) → p < length net.packets → (packet_at net p).source < nodes net.relation.grid
    pub linked : (r q a b : ℕ) → r < nodes net.relation.grid → neighbour net.relation.grid r q ≡ Some (a, b) → (a < nodes net.relation.grid) × (neighbour net.relation.grid a b ≡ Some (r, q))
    pub real : (m : ℕ) (c : Channel) (t : ℕ) (o : Channel) → IsTrue (permits net.relation m c t o) → IsReal o
    pub starts : (p v : ℕ) → p < length net.packets → v < net.relation.vcs
        → LeadsOn (packet_at net p).class (Inject (packet_at net p).source v) (packet_at net p).destination (packet_at net p).source
    pub goes_on : (m : ℕ) (c : Channel) (t r q v a b : ℕ) → IsTrue (permits net.relation m c t (Link r q v)) → neighbour net.relation.grid r q ≡ Some (a, b)
        → LeadsOn m (Link r q v) t a
