-- Which channels a head may take.
use Rattle.std.specs.Prelude.{◌≡◌, ℕ, ◌+◌, ◌/◌, ◌%◌, ◌<◌, List, length, slice_index_or}
use Rattle.noc_topo.specs.Shape.{nodes, ports}
use Rattle.noc_packet.specs.declared.packet.Packet.{Packet}
use Rattle.noc_route.specs.Routes.{Routes, set_at}
use Rattle.noc_columns.specs.declared.header.Header.{Header}
use Rattle.noc_columns.specs.declared.ports.RouterPorts.{RouterPorts}

-- what the heads of packets tell
abbrev pub header_of : Packet → Header
header_of p = record { destination = p.destination; class = p.class }

-- what the head of packet p tells
abbrev pub header_in : List Header → ℕ → Header
header_in headers p = slice_index_or headers p (record { destination = 0; class = 0 })

-- a packet of a class that the relation has, to a node of the network
pub record IsRoutable (relation : Routes) (h : Header) : Type 0 where
  pub class : h.class < relation.classes
  pub destination : h.destination < nodes relation.grid

pub record AreRoutable (relation : Routes) (headers : List Header) : Type 0 where
  pub each : (p : ℕ) → p < length headers → IsRoutable relation (header_in headers p)

-- the relation is of routers with these ports
pub record IsOfPorts (all : RouterPorts) (relation : Routes) : Type 0 where
  pub count : ports relation.grid ≡ all.links.width + 1
  pub vcs : relation.vcs ≡ all.links.vcs

-- the set that the relation permits to a packet with this header which came to a node by this port
-- and virtual channel
abbrev pub set_by : Routes → Header → ℕ → ℕ → ℕ → ℕ
set_by relation h node port vc = set_at relation h.class node port vc h.destination

-- the set that it permits to packet p in input channel k
abbrev pub sets_by : Routes → List Header → ℕ → ℕ → ℕ → ℕ
sets_by relation headers node k p =
    set_by relation (header_in headers p) node (k / relation.vcs) (k % relation.vcs)
