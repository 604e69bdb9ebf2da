-- The sources of the routers of a block.
use Rattle.std.specs.Prelude.{◌≡◌, ◌⊎◌, ℕ, ◌+◌, ◌-◌, ◌%◌, ◌^◌, ◌<◌, ◌≤◌, Bool, true, false, List, [], ◌∷◌, map, min, nat_eq, nat_le, slice_index}
use Rattle.noc_packet.specs.Set.{has_bit}
use Rattle.noc_sets.specs.Planes.{plane_number}
use Rattle.noc_sets.specs.Source.{NEVER, Source, Start, first_source, next_source, start_in}
use Rattle.noc_columns.specs.declared.due.Due.{Due}
use Rattle.noc_columns.specs.declared.due.TheConstants.{SOON}
use Rattle.noc_columns.specs.declared.left.Left.{Left}
use Rattle.noc_columns.specs.declared.sources.Sources.{Sources}
use Rattle.noc_columns.specs.declared.starts.Start.{Start as Kept}
use Rattle.noc_columns.specs.declared.words.TheConstants.{ROUTERS}

-- from the lowest bit on
abbrev pub planes_of : Left → List ℕ
planes_of left =
    left.ones ∷ left.twos ∷ left.fours ∷ left.eights ∷ left.sixteens ∷ left.thirty_twos ∷ []

-- how many flits are left of the packet that router r injects
abbrev pub left_in : Left → ℕ → ℕ
left_in left r = plane_number (planes_of left) r

-- the routers whose packet comes to be due in a cycle, where that is known
abbrev pub come_in : Due → ℕ → ℕ
come_in due t = slice_index due.soon (t % SOON)

-- of the cycles behind one it is known, up to another, which packets come to be due
pub record AreKnown (cycle : ℕ) (due : Due) : Type 0 where
  pub come : (r t : ℕ) → r < ROUTERS → cycle < t → t < due.until
      → has_bit (come_in due t) r ≡ nat_eq t (slice_index due.at r)
  pub until : due.until ≤ cycle + SOON

-- .. where all that there is room for is known
abbrev pub known_until : ℕ → ℕ
known_until cycle = min (cycle + SOON) (2 ^ 32 - 1)

-- these routers have a packet that is due in a cycle, and the next of the others is due then
pub record AreDue (cycle : ℕ) (due : Due) : Type 0 where
  pub ready : (r : ℕ) → r < ROUTERS → has_bit due.ready r ≡ nat_le (slice_index due.at r) cycle
  pub later : (r : ℕ) → r < ROUTERS → cycle < slice_index due.at r
      → due.next ≤ slice_index due.at r
  pub next : (due.next ≡ NEVER)
      ⊎ ((r : ℕ) × (r < ROUTERS) × (cycle < slice_index due.at r)
      × (slice_index due.at r ≡ due.next))
  pub known : AreKnown cycle due

-- the source of router r
abbrev pub source_in : Sources → ℕ → Source
source_in sources r = record {
  due = slice_index sources.due.at r;
  left = left_in sources.left r;
  queue = slice_index sources.queue r;
}

-- ---- the packets that start
abbrev pub start_by : Kept → Start
start_by kept = record { number = kept.number; length = kept.length; due = kept.due }

abbrev pub starts_by : List Kept → List Start
starts_by kept = map start_by kept

-- a source from which a flit is injected, if it is
abbrev pub sent_if : List Start → Bool → Source → Source
sent_if starts true s = next_source starts s
sent_if starts false s = s

-- a source from which the first flit of its next packet is injected, if it is
abbrev pub begun_if : List Start → Bool → Source → Source
begun_if starts true s = next_source starts (first_source (start_in starts s.queue) s)
begun_if starts false s = s
