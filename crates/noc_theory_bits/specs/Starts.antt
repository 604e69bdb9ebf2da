-- The list of the packets of all sources: node by node those that start there, in the order in
-- which they are due, and an end behind each node's.
use Rattle.std.specs.Prelude.{ℕ, zero, suc, List, [], ◌∷◌, ◌++◌, length, map}
use Rattle.noc_packet.specs.declared.packet.Packet.{Packet}
use Rattle.noc_packet.specs.ByNode.{starts_of}
use Rattle.noc_sets.specs.Source.{END, Source, Start, due_of}

-- a packet with its number
abbrev pub start_of : ℕ × Packet → Start
start_of one = record { number = one.0; length = one.1.length; due = one.1.due }

abbrev pub with_end : List (ℕ × Packet) → List Start
with_end queue = map start_of queue ++ END ∷ []

-- of the nodes below n
unfoldable pub starts_list : List Packet → ℕ → List Start
starts_list packets zero = []
starts_list packets (suc n) = starts_list packets n ++ with_end (starts_of packets n)

-- the source of router r before the first cycle: at the first of its packets
abbrev pub opened_source : List Packet → ℕ → Source
opened_source packets r = record {
  due = due_of (starts_of packets r);
  left = 0;
  queue = length (starts_list packets r);
}
