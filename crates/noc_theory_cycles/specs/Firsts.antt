-- Where the packets of each router begin in the list of all.
use Rattle.std.specs.Prelude.{◌≡◌, ℕ, ◌<◌, List, Some, length, slice_get}
use Rattle.noc_packet.specs.ByNode.{starts_of}
use Rattle.noc_packet.specs.declared.packet.Packet.{Packet}
use Rattle.noc_sets.specs.Source.{due_of}
use Rattle.noc_theory_bits.specs.Starts.{starts_list}
use Rattle.noc_cycles.specs.declared.first.First.{First}

-- the first packet of router r, or the end where it has none
abbrev pub first_of : List Packet → ℕ → First
first_of packets r =
    record { place = length (starts_list packets r); due = due_of (starts_of packets r) }

-- those of so many routers
pub record AreFirsts (packets : List Packet) (routers : ℕ) (firsts : List First) : Type 0 where
  pub many : length firsts ≡ routers
  pub each : (r : ℕ) → r < routers → slice_get firsts r ≡ Some (first_of packets r)
