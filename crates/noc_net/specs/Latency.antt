-- The latency of a packet.
use Rattle.std.specs.Prelude.{ℕ, ◌-◌, Option, Some, None}
use Rattle.noc_packet.specs.declared.packet.Packet.{Packet}
use Rattle.noc_theory.specs.Network.{Run, arrival_in, packet_at, state_at}

-- the cycles from a packet's due time to the one in which its tail is out
abbrev pub packet_latency : Packet → Option ℕ → Option ℕ
packet_latency p None = None
packet_latency p (Some cycle) = Some (cycle - p.due)

-- the latency of packet p of a run, if its tail was out
unfoldable pub latency_at : Run → ℕ → Option ℕ
latency_at u p = packet_latency (packet_at u.net p) (arrival_in u.net (state_at u.net u.count) p)
