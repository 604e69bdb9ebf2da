-- Packets to one node that are not out at a count.
use Rattle.std.specs.Prelude.{◌≡◌, ◌≢◌, ℕ, ◌<◌, ◌≤◌, List, None, length}
use Rattle.noc_topo.specs.Lists.{Each, Pairs}
use Rattle.noc_theory.specs.Network.{Setup, arrival_in, packet_at, state_at}

-- packet p goes to this node, is not out, and has no more than so many flits
pub record IsWaiting (net : Setup) (count node longest p : ℕ) : Type 0 where
  pub known : p < length net.packets
  pub home : (packet_at net p).destination ≡ node
  pub waits : arrival_in net (state_at net count) p ≡ None
  pub short : (packet_at net p).length ≤ longest

-- these packets are different, and each of them does
pub record AreWaiting (net : Setup) (count node longest : ℕ) (packets : List ℕ) : Type 0 where
  pub apart : Pairs (λ (p q : ℕ). p ≢ q) packets
  pub each : Each (IsWaiting net count node longest) packets
