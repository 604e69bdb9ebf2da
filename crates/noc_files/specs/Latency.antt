-- The latency report.
use Rattle.std.specs.Prelude.{ℕ, length, List, [], ◌∷◌, ◌++◌, Option, decimal, codes}
use Rattle.std.specs.List.{flat_map}
use Rattle.noc_theory.specs.Network.{Run, arrival_in, packet_at, state_at}
use Rattle.noc_topo.specs.Lists.{below}
use Rattle.noc_packet.specs.declared.packet.Packet.{Packet}
use Rattle.noc_net.specs.Latency.{packet_latency}
use Rattle.noc_files.specs.Writing.{comma, dash_or, text_of_pieces, line_end}

unfoldable pub latency_header : List ℕ
latency_header = codes "packet,source,destination,class,length,due,out,latency\n"

-- the number of a packet and what it was made of, each before a comma
abbrev pub packet_start : ℕ → Packet → List ℕ
packet_start number p = text_of_pieces (
    decimal number ∷ comma ∷ decimal p.source ∷ comma ∷ decimal p.destination ∷ comma
    ∷ decimal p.class ∷ comma ∷ decimal p.length ∷ comma ∷ decimal p.due ∷ comma
    ∷ [])

-- the cycle in which its tail is out and its latency, or dashes
abbrev pub packet_end : Packet → Option ℕ → List ℕ
packet_end p out =
    text_of_pieces (dash_or out ∷ comma ∷ dash_or (packet_latency p out) ∷ line_end ∷ [])

-- the line of a packet with this number, whose tail is out in this cycle, if it is
abbrev pub packet_line : ℕ → Packet → Option ℕ → List ℕ
packet_line number p out = packet_start number p ++ packet_end p out

-- the line of packet p of a run, with the cycle in which its tail was out
unfoldable pub latency_line : Run → ℕ → List ℕ
latency_line u p = packet_line p (packet_at u.net p) (arrival_in u.net (state_at u.net u.count) p)

-- the report of a run: the header, and a line for each packet in order
abbrev pub latency_text : Run → List ℕ
latency_text u = latency_header ++ flat_map (latency_line u) (below (length u.net.packets))
