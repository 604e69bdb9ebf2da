-- One cycle of one router: from its words at a count to those at the next, and what leaves it.
use Rattle.std.specs.Prelude.{◌≡◌, ℕ, ◌-◌, ◌*◌, ◌/◌, ◌^◌, ◌<◌, Bool, not, List, Option, Some, None, bit_and, bit_or, nat_eq, if◌then◌else◌}
use Rattle.noc_packet.specs.Set.{has_bit}
use Rattle.noc_view.specs.declared.finding.Finding.{Finding}
use Rattle.noc_sets.specs.Column.{Column, RouterMarks}
use Rattle.noc_sets.specs.Counts.{ByVerdict, lane_verdicts, with_verdicts}
use Rattle.noc_sets.specs.Ended.{ended_frozen, ended_next, lane_released, leads_tail}
use Rattle.noc_sets.specs.Found.{found_in}
use Rattle.noc_sets.specs.Grants.{Allocation}
use Rattle.noc_sets.specs.Layout.{Layout}
use Rattle.noc_sets.specs.Moves.{HasSwitched, single_in}
use Rattle.noc_sets.specs.Passes.{AreOwners, Effects, frozen_column, lane_begins, lane_filled, lane_heads, lane_injected, lane_landed, lane_raised, lane_ready, settled_lane}
use Rattle.noc_sets.specs.Routed.{HasChosen}
use Rattle.noc_sets.specs.Sets.{less, lowest}
use Rattle.noc_sets.specs.Source.{Source, Start, begun_source, packet_begun, sent_source}
use Rattle.noc_sets.specs.Turns.{ArePast, ArePicked}

-- what the links bring to a router: input channels to which a flit comes, those to which a tail
-- comes, and output channels to which a credit comes. What leaves it: output channels by which a
-- flit leaves, those by which a tail does, and input channels that a flit leaves
pub record Links : Type 0 where
  pub flits : ℕ
  pub tails : ℕ
  pub credits : ℕ

-- the words of one router, what the links bring to it, and what was counted of it
pub record Router : Type 0 where
  pub column : Column
  -- where `packet` has the number of the packet that holds each input channel
  pub marks : RouterMarks
  pub ended : ℕ
  pub links : Links
  pub source : Source
  pub counts : ℕ → ByVerdict  -- by input channel

-- ---- beats are taken, and a flit is injected
pub record Still : Type 0 where
  pub column : Column
  pub marks : RouterMarks
  pub ended : ℕ
  pub filled : ℕ
  pub source : Source

-- the local channels in which a packet may begin, those into which a flit is injected, and the
-- source before that
abbrev pub begins_in : Layout → ℕ → Router → ℕ
begins_in layout cycle b = lane_begins layout.local cycle b.source.due b.column

abbrev pub went_in : Layout → ℕ → Router → ℕ
went_in layout cycle b =
    bit_or (lane_injected layout.places b.column) (lowest (begins_in layout cycle b))

abbrev pub ready_source : Layout → List Start → ℕ → Router → Source
ready_source layout starts cycle b = begun_source starts (begins_in layout cycle b) b.source

-- the numbers of the packets that hold its input channels then
abbrev pub packets_in : Layout → List Start → ℕ → Router → ℕ → ℕ
packets_in layout starts cycle b =
    packet_begun starts (begins_in layout cycle b) b.source b.marks.packet

-- where `up` are the input channels that come to be supplied
abbrev pub still_of : Layout → List Start → ℕ → ℕ → Router → Still
still_of layout starts cycle up b = record {
  column = frozen_column layout.places b.links.credits up b.links.flits (begins_in layout cycle b)
      (went_in layout cycle b) (ready_source layout starts cycle b).left b.column;
  marks = record b.marks { packet = packets_in layout starts cycle b };
  ended = ended_frozen b.ended b.links.tails (went_in layout cycle b)
      (ready_source layout starts cycle b).left;
  filled = bit_or (lane_filled layout.places b.links.flits b.column)
      (lowest (begins_in layout cycle b));
  source = sent_source starts (went_in layout cycle b) (ready_source layout starts cycle b);
}

-- the channels to which something happens before the verdicts: a flit comes or is injected, or a
-- credit comes
abbrev pub came_in : Layout → ℕ → Router → ℕ
came_in layout cycle b =
    bit_or (bit_or (lane_landed layout.places b.links.flits b.column)
    (lowest (begins_in layout cycle b))) b.links.credits

-- ---- what is decided, and takes effect
-- from a router that is still to its column c and its marks w after the cycle; a is before and b
-- after grants and routes, and these are the effects
pub record HasDecided (ports vcs : ℕ) (layout : Layout) (sets : ℕ → ℕ → ℕ) (s : Still)
    (a b : Allocation) (picked ahead : ℕ) (e : Effects) (c : Column) (w : RouterMarks) (ended : ℕ)
    : Type 0 where
  pub column_was : a.column ≡ s.column
  pub marks_were : a.marks ≡ s.marks
  pub no_grant : a.granted ≡ 0
  pub no_loss : a.lost ≡ 0
  pub chosen : HasChosen (ports * vcs) (λ o. o / vcs) (lane_heads s.filled a.column) sets a b
  pub picks : ArePicked vcs ports (lane_ready s.filled a.column) a.column.ahead picked
  pub supplied : ℕ
  pub switched : HasSwitched vcs ports picked (single_in layout.links a.column)
      (leads_tail s.ended a.column.len) b.marks w e b.column.supplied supplied
  pub heads : e.heads ≡ lane_heads s.filled a.column
  pub granted : e.granted ≡ b.granted
  pub released : e.released ≡ lane_released e.moved s.ended a.column.len
  pub past : ArePast vcs ports a.column.ahead e.moved ahead
  pub column : c
      ≡ settled_lane ahead layout.links layout.local e (record b.column { supplied = supplied })
  pub ended_is : ended ≡ ended_next s.ended e.released

-- the grants, by output channel: those that were idle before and are not after, each with its new
-- owner
abbrev pub granted_in : Allocation → Allocation → ℕ → Option ℕ
granted_in a b o =
    if has_bit (less a.column.idle b.column.idle) o then Some (b.marks.owner o) else None

-- ---- the whole cycle
-- what a router makes of a cycle: its words after it, but for what the links bring and the numbers
-- of packets that it is told; what leaves it, what it grants, the input channels whose packets
-- arrive, what is found of each, and whether something happens in it
pub record Turn : Type 0 where
  pub column : Column
  pub marks : RouterMarks
  pub ended : ℕ
  pub source : Source
  pub counts : ℕ → ByVerdict
  pub left : Links
  pub grants : ℕ → Option ℕ
  pub arrived : ℕ
  pub found : ℕ → Finding  -- by input channel
  pub happened : Bool

-- a router takes part in the cycle
pub record HasWorked (ports vcs : ℕ) (layout : Layout) (starts : List Start) (sets : ℕ → ℕ → ℕ)
    (cycle : ℕ) (b : Router) (t : Turn) : Type 0 where
  pub up : ℕ  -- the input channels that come to be supplied
  pub ups : AreOwners (lane_raised b.links.credits b.column) b.marks.owner up
  pub up_fits : up < 2 ^ 64
  pub before : Allocation
  pub chosen : Allocation
  pub picked : ℕ
  pub ahead : ℕ
  pub effects : Effects
  pub decided : HasDecided ports vcs layout sets (still_of layout starts cycle up b) before chosen
      picked ahead effects t.column t.marks t.ended
  pub source_is : t.source ≡ (still_of layout starts cycle up b).source
  pub counted : (i : ℕ) → i < ports * vcs
      → t.counts i
      ≡ with_verdicts (lane_verdicts (still_of layout starts cycle up b).filled picked
      effects.heads effects.granted chosen.lost effects.moved before.column) i (b.counts i)
  pub found_are : (i : ℕ) → i < ports * vcs
      → t.found i
      ≡ found_in vcs (lane_verdicts (still_of layout starts cycle up b).filled picked
      effects.heads effects.granted chosen.lost effects.moved before.column)
      (still_of layout starts cycle up b).filled before.column before.marks i
  pub left_is : t.left
      ≡ record { flits = effects.out; tails = effects.freed; credits = effects.moved }
  pub grants_are : (o : ℕ) → o < ports * vcs → t.grants o ≡ granted_in before chosen o
  -- (the last port is the local one)
  pub arrived_are : t.arrived ≡ bit_and effects.released (chosen.marks.to_port (ports - 1))
  pub happened_is : t.happened
      ≡ not (nat_eq (bit_or (bit_or (bit_or (came_in layout cycle b) effects.heads)
      effects.granted) effects.moved) 0)
