-- A well-formed setup, for which the laws of states hold, and a good one, of which alone a network
-- is made and for which all laws hold. And terms for the flits of packets and the slots of buffers.
use Rattle.std.specs.Prelude.{ℕ, ◌≢◌, ◌+◌, ◌<◌, ◌≤◌, length, if◌then◌else◌}
use Rattle.std.specs.List.{All}
use Rattle.noc_topo.specs.Shape.{nodes}
use Rattle.noc_packet.specs.declared.packet.Packet.{Packet}
use Rattle.noc_packet.specs.declared.limits.TheConstants.{MAX_LENGTH, MAX_DUE, MAX_PACKETS}
use Rattle.noc_route.specs.Channel.{Channel}
use Rattle.noc_route.specs.Routes.{Routes, IsRelation}
use Rattle.noc_theory.specs.Network.{Setup, State, packet_at, count_on, count_in, has_channel}

-- a packet that can be sent on this relation: of any length, and due at any time
pub record IsWellFormedPacket (relation : Routes) (p : Packet) : Type 0 where
  pub source : p.source < nodes relation.grid
  pub destination : p.destination < nodes relation.grid
  pub apart : p.destination ≢ p.source
  pub class : p.class < relation.classes
  pub some_flit : 0 < p.length

-- the relation was built, each buffer has a slot, and each packet can be sent,
-- however many they are
pub record IsWellFormedSetup (net : Setup) : Type 0 where
  pub relation : IsRelation net.relation
  pub some_depth : 0 < net.depth
  pub packets : All (IsWellFormedPacket net.relation) net.packets

-- a packet that a network on this relation can send: well-formed, and within the limits
pub record IsGoodPacket (relation : Routes) (p : Packet) : Type 0 where
  pub source : p.source < nodes relation.grid
  pub destination : p.destination < nodes relation.grid
  pub apart : p.destination ≢ p.source
  pub class : p.class < relation.classes
  pub some_flit : 0 < p.length
  pub length : p.length ≤ MAX_LENGTH
  pub due : p.due ≤ MAX_DUE

-- well-formed, and the packets are not too many and each is within the limits
pub record IsGoodSetup (net : Setup) : Type 0 where
  pub relation : IsRelation net.relation
  pub some_depth : 0 < net.depth
  pub packets : All (IsGoodPacket net.relation) net.packets
  pub few_packets : length net.packets ≤ MAX_PACKETS

module _ (net : Setup) where
  -- packet p exists and has a flit with index i
  abbrev pub IsValid : ℕ → ℕ → Type 0
  IsValid p i = (p < length net.packets) × (i < (packet_at net p).length)

  -- the slots of the buffer of c that are taken, by flits on its wire and in it, or by a
  -- credit that is on its way back
  abbrev pub slots_taken : State → Channel → ℕ
  slots_taken S c = count_on net S c + count_in net S c + (if has_channel S.back c then 1 else 0)
