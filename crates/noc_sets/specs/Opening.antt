-- The words of a router before the first cycle, when it holds nothing, and its marks, which are
-- what it keeps channel by channel.
use Rattle.std.specs.Prelude.{◌≡◌, ℕ, ◌*◌, ◌^◌, ◌<◌, ◌&&◌, true, false, bit_or, nat_le, nat_lt}
use Rattle.noc_topo.specs.Shape.{Grid, ports, local_port}
use Rattle.noc_packet.specs.Set.{has_bit}
use Rattle.noc_sets.specs.Column.{AreWords, Column, RouterMarks}
use Rattle.noc_sets.specs.Planes.{plane_number}

-- the channels of the links and of the local port, as sets
pub record AreSides (grid : Grid) (vcs links local : ℕ) : Type 0 where
  pub link_fits : links < 2 ^ 64
  pub local_fits : local < 2 ^ 64
  pub link_is : (k : ℕ) → has_bit links k ≡ nat_lt k (local_port grid * vcs)
  pub local_is : (k : ℕ)
      → has_bit local k ≡ (nat_le (local_port grid * vcs) k && nat_lt k (ports grid * vcs))

-- before the first cycle, where these are the channels of links and of the local port: every
-- channel is idle and has no flit, every link channel has a credit for each place, and every
-- pointer is at the first channel
pub record IsEmptyColumn (count size links local places : ℕ) (c : Column) : Type 0 where
  pub words : AreWords count c
  pub waiting : c.waiting ≡ 0
  pub active : c.active ≡ 0
  pub len : (x : ℕ) → plane_number c.len x ≡ 0
  pub supplied : c.supplied ≡ 0
  pub ahead : (x : ℕ) → x < size → has_bit c.ahead x ≡ true
  pub wanted : c.wanted ≡ 0
  pub idle : c.idle ≡ bit_or links local
  pub draining : c.draining ≡ 0
  pub credit : (x : ℕ) → has_bit links x ≡ true → plane_number c.credit x ≡ places
  pub injecting : c.injecting ≡ 0

-- no channel sends, and every pointer is at the first channel
pub record AreEmptyMarks (ports size : ℕ) (m : RouterMarks) : Type 0 where
  pub turn : (o i : ℕ) → o < size → i < size → has_bit (m.turn o) i ≡ true
  pub to_port : (q i : ℕ) → q < ports → i < size → has_bit (m.to_port q) i ≡ false
  pub port_turn : (q i : ℕ) → q < ports → i < size → has_bit (m.port_turn q) i ≡ true
