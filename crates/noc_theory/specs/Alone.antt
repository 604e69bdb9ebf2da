-- A packet that is alone, and how long it takes (docs/MODEL.md, "A packet that is alone"; Dally and
-- Towles, chapter 3).
use Rattle.std.specs.Prelude.{◌≡◌, ◌≢◌, ℕ, ◌+◌, ◌-◌, ◌*◌, ◌<◌, ◌≤◌, None, length}
use Rattle.noc_theory.specs.Network.{Setup, packet_at, state_at, arrival_in}
use Rattle.noc_theory.specs.Progress.{hops}

module _ (net : Setup) where
  -- in each cycle from the due time of p until its tail is out, every other packet that is due has
  -- its tail out
  abbrev pub IsAlone : ℕ → Type 0
  IsAlone p = (n q : ℕ) → (packet_at net p).due ≤ n → arrival_in net (state_at net n) p ≡ None
      → q < length net.packets → q ≢ p → (packet_at net q).due ≤ n
      → arrival_in net (state_at net n) q ≢ None

  -- the cycles from the due time of p to the one in which its tail is out, where nothing holds it
  -- up. They are three for each hop, two for the route and the grant at the destination, and one
  -- for each flit behind the head
  abbrev pub zero_load_latency : ℕ → ℕ
  zero_load_latency p = 3 * hops net p + 2 + ((packet_at net p).length - 1)

  -- the time of p is apart from the time of all others: each that is due by the cycle in which p
  -- can be out has its tail out when p is due
  abbrev pub IsApart : ℕ → Type 0
  IsApart p = (q : ℕ) → q < length net.packets → q ≢ p
      → (packet_at net q).due ≤ (packet_at net p).due + zero_load_latency p
      → arrival_in net (state_at net (packet_at net p).due) q ≢ None
