-- The source of a router: when its next packet is due, and how much is left of the one that has
-- begun.
use Rattle.std.specs.Prelude.{◌≡◌, ℕ, ◌+◌, ◌-◌, ◌^◌, ◌<◌, List, [], ◌∷◌, length, Option, Some, None, nat_eq, slice_get, unwrap_or, if◌then◌else◌}
use Rattle.noc_packet.specs.Set.{has_bit}
use Rattle.noc_packet.specs.declared.packet.Packet.{Packet}
use Rattle.noc_view.specs.View.{View}
use Rattle.noc_sets.specs.Sets.{lowest}

-- later than each cycle
abbrev pub NEVER : ℕ
NEVER = 2 ^ 32 - 1

-- what is kept of a packet that is still to be injected
pub record Start : Type 0 where
  pub number : ℕ
  pub length : ℕ
  pub due : ℕ

-- behind the packets of a router
abbrev pub END : Start
END = record { number = 0; length = 1; due = NEVER }

-- a source: when its next packet is due, how many flits are left of the packet that has begun, and
-- the place of the packet in the list of all
pub record Source : Type 0 where
  pub due : ℕ
  pub left : ℕ
  pub queue : ℕ

abbrev pub start_in : List Start → ℕ → Start
start_in starts place = unwrap_or (slice_get starts place) END

-- when the first packet of a queue is due
abbrev pub due_of : List (ℕ × Packet) → ℕ
due_of [] = NEVER
due_of ((number, p) ∷ rest) = p.due

-- a packet with a flit, and not too many
pub record HasFlits (p : Packet) : Type 0 where
  pub some : 0 < p.length
  pub few : p.length < 2 ^ 32

-- the starts from this place on are those of a queue of packets, and then an end
abbrev pub ShowsQueue : List Start → ℕ → List (ℕ × Packet) → Type 0
ShowsQueue starts place [] = slice_get starts place ≡ Some END
ShowsQueue starts place ((number, p) ∷ rest) =
    (slice_get starts place ≡ Some (record { number = number; length = p.length; due = p.due }))
    × HasFlits p × ShowsQueue starts (place + 1) rest

-- of the first packet of the queue, once it has begun, so many flits are left from this index on
abbrev pub ShowsNext : Source → List (ℕ × Packet) → Option (ℕ × ℕ) → Type 0
ShowsNext s [] None = Unit {0}
ShowsNext s [] (Some (vc, index)) = ⊥
ShowsNext s ((number, p) ∷ rest) None = Unit {0}
ShowsNext s ((number, p) ∷ rest) (Some (vc, index)) = (0 < s.left) × (s.left + index ≡ p.length)

pub record ShowsSource (starts : List Start) (s : Source) (v : View) : Type 0 where
  pub few : length starts < 2 ^ 32
  pub due : s.due ≡ due_of v.queue
  pub queue : ShowsQueue starts s.queue v.queue
  pub next : ShowsNext s v.queue v.sending

-- ---- what a cycle makes of it
-- once the packet with this start has begun
abbrev pub first_source : Start → Source → Source
first_source start s = record s { left = start.length }

-- where its next packet begins, if it may in one of these channels
abbrev pub begun_source : List Start → ℕ → Source → Source
begun_source starts begins s =
    if nat_eq begins 0 then s else first_source (start_in starts s.queue) s

-- once its next flit is injected
abbrev pub next_source : List Start → Source → Source
next_source starts s =
    if nat_eq s.left 1
    then record { due = (start_in starts (s.queue + 1)).due; left = 0; queue = s.queue + 1 }
    else record s { left = s.left - 1 }

-- where a flit is injected, if it is into one of these channels
abbrev pub sent_source : List Start → ℕ → Source → Source
sent_source starts injected s = if nat_eq injected 0 then s else next_source starts s

-- the numbers of the packets that hold the input channels, where one begins in the least of these
-- channels, if there is one
abbrev pub packet_begun : List Start → ℕ → Source → (ℕ → ℕ) → ℕ → ℕ
packet_begun starts begins s packet i =
    if has_bit (lowest begins) i then (start_in starts s.queue).number else packet i
