-- How a bank keeps its circular buffers in one list of slots.
use Rattle.std.specs.Prelude.{◌≡◌, ℕ, ◌+◌, ◌*◌, ◌%◌, ◌<◌, ◌≤◌, Bool, true, false, List, map, length, slice_index_or}
use Rattle.std.specs.List.{range_with_len}
use Rattle.noc_packet.specs.declared.limits.TheConstants.{INDICES, MAX_BUFFER}
use Rattle.noc_packet.specs.declared.packet.Flit.{Flit}
use Rattle.noc_ring.specs.declared.bank.Extent.{Extent}

-- what a block of slots holds: a flit for each slot, and whether the slot holds it
pub record Held : Type 0 where
  pub flits : List Flit
  pub filled : List Bool

abbrev pub blank : Flit
blank = record { packet = 0; index = 0; last = false; dst = 0; class = 0 }

abbrev pub no_extent : Extent
no_extent = record { head = 0; len = 0 }

-- the slot of the flit that is so many flits behind the head of a ring whose slots begin at `base`
abbrev pub slot_of : ℕ → ℕ → ℕ → ℕ → ℕ
slot_of base capacity head i = base + (head + i) % capacity

-- that flit
abbrev pub flit_in : List Flit → ℕ → ℕ → ℕ → ℕ → Flit
flit_in slots base capacity head i = slice_index_or slots (slot_of base capacity head i) blank

-- the flits of the ring whose slots begin at `base`
abbrev pub flits_in_slots : List Flit → ℕ → ℕ → ℕ → ℕ → List Flit
flits_in_slots slots base capacity head len =
    map (flit_in slots base capacity head) (range_with_len 0 len)

-- the flits of ring r
abbrev pub flits_of_ring : List Flit → ℕ → List Extent → ℕ → List Flit
flits_of_ring slots capacity extents r =
    flits_in_slots slots (r * capacity) capacity (slice_index_or extents r no_extent).head
    (slice_index_or extents r no_extent).len

-- so many rings
abbrev pub rings_of : List Flit → ℕ → ℕ → List Extent → List (List Flit)
rings_of slots capacity rings extents =
    map (flits_of_ring slots capacity extents) (range_with_len 0 rings)

-- each ring has as many slots as its capacity, its head is one of them, and
-- no more flits than slots
pub record IsBank (slots : List Flit) (capacity many : ℕ) (extents : List Extent) : Type 0 where
  pub whole : length slots ≡ many * capacity
  pub rings : many ≤ INDICES
  pub table : length extents ≡ INDICES
  pub some : 0 < capacity
  pub small : capacity ≤ MAX_BUFFER
  pub heads : (r : ℕ) → r < many → (slice_index_or extents r no_extent).head < capacity
  pub lens : (r : ℕ) → r < many → (slice_index_or extents r no_extent).len ≤ capacity

-- each slot is known to hold a flit or not to, and each flit of a ring stands
-- in a slot that holds one
pub record AreHeld (filled : List Bool) (capacity many : ℕ) (extents : List Extent) : Type 0 where
  pub whole : length filled ≡ many * capacity
  pub held : (r i : ℕ) → r < many → i < (slice_index_or extents r no_extent).len
      → slice_index_or filled
      (slot_of (r * capacity) capacity (slice_index_or extents r no_extent).head i) false ≡ true
