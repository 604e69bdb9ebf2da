-- Why packets make no network (docs/FORMATS.md, "Fault lines").
use Rattle.std.specs.Prelude.{ℕ, ◌+◌, ◌<◌, ◌||◌, List, [], ◌∷◌, Option, Some, None, length, nat_eq, nat_le, nat_lt, if◌then◌else◌}
use Rattle.noc_topo.specs.Shape.{nodes}
use Rattle.noc_packet.specs.declared.packet.Packet.{Packet}
use Rattle.noc_packet.specs.declared.limits.TheConstants.{MAX_LENGTH, MAX_DUE, MAX_PACKETS}
use Rattle.noc_packet.specs.Packet.{IsWithinLimits}
use Rattle.noc_route.specs.Routes.{Routes}
use Rattle.noc_net.specs.declared.net_fault.NetFault.{NetFault}
use Rattle.noc_net.specs.declared.net_fault.NetFault.TheVariants.{SelfPacket, BadNode, BadClass, BadLength, TooMany, BadDue}

-- the first fault of the packet in a row
abbrev pub packet_fault : Routes → ℕ → Packet → Option NetFault
packet_fault relation row p =
    if nat_le (nodes relation.grid) p.source || nat_le (nodes relation.grid) p.destination
    then Some (BadNode row)
    else (if nat_eq p.source p.destination then Some (SelfPacket row)
    else (if nat_le relation.classes p.class then Some (BadClass row)
    else (if nat_eq p.length 0 || nat_lt MAX_LENGTH p.length then Some (BadLength row)
    else (if nat_lt MAX_DUE p.due then Some (BadDue row)
    else None))))

abbrev pub or_net_fault : Option NetFault → Option NetFault → Option NetFault
or_net_fault None later = later
or_net_fault (Some fault) later = Some fault

-- the first fault of the packets from a row on
abbrev pub fault_from : Routes → ℕ → List Packet → Option NetFault
fault_from relation row [] = None
fault_from relation row (p ∷ ps) =
    or_net_fault (packet_fault relation row p) (fault_from relation (row + 1) ps)

-- the first fault of a network's packets
abbrev pub fault_of : Routes → List Packet → Option NetFault
fault_of relation packets =
    if nat_lt MAX_PACKETS (length packets) then Some TooMany else fault_from relation 0 packets

-- a packet within the limits, which has a flit
abbrev pub IsSendable : Packet → Type 0
IsSendable p = IsWithinLimits p × (0 < p.length)
