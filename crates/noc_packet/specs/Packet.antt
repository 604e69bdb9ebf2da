-- Packets within the limits, and their flits.
use Rattle.std.specs.Prelude.{ℕ, ◌+◌, ◌<◌, ◌≤◌, nat_eq}
use Rattle.noc_packet.specs.declared.packet.Packet.{Packet}
use Rattle.noc_packet.specs.declared.packet.Flit.{Flit}
use Rattle.noc_packet.specs.declared.limits.TheConstants.{MAX_NODES, MAX_CLASSES, MAX_LENGTH, MAX_DUE}

-- whether no field of a packet is above its limit in the network; that it has a flit is asked for
-- beside this
pub record IsWithinLimits (p : Packet) : Type 0 where
  pub source : p.source < MAX_NODES
  pub destination : p.destination < MAX_NODES
  pub class : p.class < MAX_CLASSES
  pub length : p.length ≤ MAX_LENGTH
  pub due : p.due ≤ MAX_DUE

-- the flit with this index of the packet with this number: the tail is the
-- one at the length less one
abbrev pub flit_at : Packet → ℕ → ℕ → Flit
flit_at p number i = record {
  packet = number;
  index = i;
  last = nat_eq (i + 1) p.length;
  dst = p.destination;
  class = p.class;
}
