-- The packets with a flit still at their source.
use Rattle.std.specs.Prelude.{ℕ, ◌+◌, Bool, true, false, List, ◌++◌, drop, Option, Some, None, option_map, nat_eq, nat_le}
use Rattle.std.specs.Option.{option_to_list}
use Rattle.noc_packet.specs.declared.packet.Packet.{Packet}
use Rattle.noc_packet.specs.declared.packet.Flit.{Flit}
use Rattle.noc_packet.specs.Packet.{flit_at}

-- the packet in front, and those behind it: all but the first `begun`
abbrev pub queue_from : Option (ℕ × Packet) → ℕ → List (ℕ × Packet) → List (ℕ × Packet)
queue_from front begun packets = option_to_list front ++ drop begun packets

-- the local virtual channel of the packet in front, once it has begun, and its next index
abbrev pub sending_from : Option ℕ → ℕ → Option (ℕ × ℕ)
sending_from channel index = option_map (λ vc. (vc, index)) channel

-- the next flit of the packet in front
abbrev pub next_flit_of : Option (ℕ × Packet) → ℕ → Option Flit
next_flit_of front index = option_map (λ (start : ℕ × Packet). flit_at start.1 start.0 index) front

-- whether that is its tail; so it is where no packet is left
abbrev pub is_next_last : Option (ℕ × Packet) → ℕ → Bool
is_next_last None index = true
is_next_last (Some start) index = nat_eq (index + 1) start.1.length

-- whether the packet in front is due by this cycle
abbrev pub is_due_by : Option (ℕ × Packet) → ℕ → Bool
is_due_by None cycle = false
is_due_by (Some start) cycle = nat_le start.1.due cycle
