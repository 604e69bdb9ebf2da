-- Output channels are granted to waiting input channels: what they ask for, and what a grant
-- changes.
use Rattle.std.specs.Prelude.{◌≡◌, ℕ, ◌^◌, ◌<◌, Bool, true, false, ◌&&◌, ◌||◌, not, List, Option, Some, None, is_some, nat_eq, nat_lt, slice_index_or, bit_and, bit_or, if◌then◌else◌}
use Rattle.noc_topo.specs.Lists.{is_some_of}
use Rattle.noc_topo.specs.Shape.{ports}
use Rattle.noc_packet.specs.Set.{has_bit}
use Rattle.noc_alloc.specs.Arbiter.{arbiter_at}
use Rattle.noc_alloc.specs.Requests.{is_given}
use Rattle.noc_vc.specs.declared.input.InputState.{InputState}
use Rattle.noc_vc.specs.declared.input.InputState.TheVariants.{Active}
use Rattle.noc_view.specs.Verdict.{arbiters_after, ask_of}
use Rattle.noc_view.specs.View.{View, size_of, view_claim, view_input, view_round}
use Rattle.noc_sets.specs.Column.{Column, RouterMarks, ShowsPhase, sends_by}
use Rattle.noc_sets.specs.Sets.{least, less}
use Rattle.noc_sets.specs.Turns.{ShowsPointer, first_bit}

-- ---- what is asked for

-- what a waiting channel with this set asks for, where these are idle: the least idle channel of
-- the set
abbrev pub asked_of : ℕ → ℕ → Option ℕ
asked_of idle set = if nat_eq (bit_and set idle) 0 then None else Some (least (bit_and set idle))

-- where just these channels wait, each with its set: `requests` has for each output channel those
-- that ask for it, `outs` the output channels that are asked for, `inputs` the channels that ask,
-- and `all` the members of all the sets
pub record AreAsks (waits : ℕ → Bool) (idle : ℕ) (set requests : ℕ → ℕ) (outs inputs all : ℕ)
    : Type 0 where
  pub asked : (o k : ℕ) → o < 64
      → has_bit (requests o) k ≡ (waits k && is_some_of (asked_of idle (set k)) o)
  pub asked_for : (o : ℕ) → o < 64 → has_bit outs o ≡ not (nat_eq (requests o) 0)
  pub asking : (k : ℕ) → has_bit inputs k ≡ (waits k && is_some (asked_of idle (set k)))
  pub wanted : (o k : ℕ) → waits k ≡ true → has_bit (set k) o ≡ true → has_bit all o ≡ true
  pub wanted_by : (o : ℕ) → has_bit all o ≡ true
      → (k : ℕ) × (waits k ≡ true) × (has_bit (set k) o ≡ true)

-- ---- what is granted

-- these marks have what those have of input channel k
pub record KeepsInput (m w : RouterMarks) (k : ℕ) : Type 0 where
  pub taken : w.taken k ≡ m.taken k
  pub to_port : (q : ℕ) → has_bit (w.to_port q) k ≡ has_bit (m.to_port q) k

-- these marks have what those have of output channel o
pub record KeepsOutput (m w : RouterMarks) (o : ℕ) : Type 0 where
  pub owner : w.owner o ≡ m.owner o
  pub turn : w.turn o ≡ m.turn o

-- these marks have the sets of waiting channels, the numbers of packets and the pointers of output
-- ports that those have
pub record KeepsRest (m w : RouterMarks) : Type 0 where
  pub set : w.set ≡ m.set
  pub packet : w.packet ≡ m.packet
  pub port_turn : w.port_turn ≡ m.port_turn

-- output channel o, of this port, is owned by input channel k
pub record IsBound (m w : RouterMarks) (o k port : ℕ) : Type 0 where
  pub owner : w.owner o ≡ k
  pub taken : w.taken k ≡ 2 ^ o
  pub to_port : (q : ℕ) → has_bit (w.to_port q) k ≡ (nat_eq q port || has_bit (m.to_port q) k)

-- the one of these requests that output channel o goes to
abbrev pub winner : (ℕ → ℕ) → RouterMarks → ℕ → ℕ
winner requests m o = first_bit (requests o) (m.turn o)

-- each of these output channels is granted to the first in turn of those that ask for it, and its
-- pointer is past that; nothing else has changed
pub record HasGranted (size : ℕ) (outs : ℕ → Bool) (requests port : ℕ → ℕ) (m w : RouterMarks)
    (granted : ℕ) : Type 0 where
  pub bound : (o k : ℕ) → outs o ≡ true → has_bit (winner requests m o) k ≡ true
      → IsBound m w o k (port o)
  pub given : (o k : ℕ) → outs o ≡ true → has_bit (winner requests m o) k ≡ true
      → has_bit granted k ≡ true
  pub turns : (o k i : ℕ) → outs o ≡ true → has_bit (winner requests m o) k ≡ true → i < size
      → has_bit (w.turn o) i ≡ nat_lt k i
  pub none : (k : ℕ) → ((o : ℕ) → outs o ≡ true → has_bit (winner requests m o) k ≡ false)
      → has_bit granted k ≡ false
  pub inputs : (k : ℕ) → ((o : ℕ) → outs o ≡ true → has_bit (winner requests m o) k ≡ false)
      → KeepsInput m w k
  pub outputs : (o : ℕ) → outs o ≡ false → KeepsOutput m w o
  pub rest : KeepsRest m w

-- ---- what allocation changes of a router
pub record Allocation : Type 0 where
  pub column : Column
  pub marks : RouterMarks
  pub granted : ℕ
  pub lost : ℕ

-- the waiting channels have asked, and each channel that was asked for is granted; each output
-- channel is of a port
pub record HasAllocated (size : ℕ) (port : ℕ → ℕ) (a b : Allocation) : Type 0 where
  pub requests : ℕ → ℕ
  pub outs : ℕ
  pub inputs : ℕ
  pub wanted : ℕ
  pub asks : AreAsks
      (has_bit a.column.waiting) a.column.idle a.marks.set requests outs inputs wanted
  pub marks : HasGranted size (has_bit outs) requests port a.marks b.marks b.granted
  pub outs_fit : outs < 2 ^ 64
  pub granted_fit : b.granted < 2 ^ 64
  pub lost : b.lost ≡ less inputs b.granted
  pub column : b.column ≡ record a.column {
    wanted = wanted;
    idle = less a.column.idle outs;
    supplied = bit_or a.column.supplied b.granted;
  }

-- ---- what this is of the round of a frozen view

-- an input channel after the grants, in this state before
abbrev pub with_grant : List (Option ℕ) → Option ℕ → ℕ → InputState → InputState
with_grant grants None k phase = phase
with_grant grants (Some o) k phase =
    if is_some_of (slice_index_or grants o None) k then Active o else phase

-- input channel k after the grants of the round of a view
abbrev pub phase_granted : View → ℕ → InputState
phase_granted v k =
    with_grant (view_round v).grants (ask_of (view_claim v k)) k (view_input v k).phase

-- the grants of a router are those of the round of its view, and the marks show the channels that
-- have them; `outs` are those granted
pub record ShowsGrants (a b : Allocation) (outs : ℕ) (v : View) : Type 0 where
  pub granted : (k : ℕ) → k < size_of v.site
      → has_bit b.granted k ≡ is_given (view_round v).grants (ask_of (view_claim v k)) k
  pub lost : (k : ℕ) → k < size_of v.site
      → has_bit b.lost k ≡ (not (has_bit b.granted k) && is_some (ask_of (view_claim v k)))
  pub taken : (o : ℕ) → o < size_of v.site
      → has_bit outs o ≡ is_some (slice_index_or (view_round v).grants o None)
  pub column : b.column ≡ record a.column {
    wanted = b.column.wanted;
    idle = less a.column.idle outs;
    supplied = bit_or a.column.supplied b.granted;
  }
  pub turns : (o : ℕ) → o < size_of v.site
      → ShowsPointer (size_of v.site) (b.marks.turn o) 0
      (arbiter_at (arbiters_after (view_round v) v.arbiters).channels o).pointer
  pub phases : (k : ℕ) → k < size_of v.site
      → ShowsPhase b.column b.marks v.site k (phase_granted v k)
  pub owners : (o k : ℕ) → o < size_of v.site → slice_index_or (view_round v).grants o None ≡ Some k
      → b.marks.owner o ≡ k
  pub others : (o : ℕ) → o < size_of v.site → slice_index_or (view_round v).grants o None ≡ None
      → b.marks.owner o ≡ a.marks.owner o
  pub to_port : (q k : ℕ) → q < ports v.site.grid → k < size_of v.site
      → has_bit (b.marks.to_port q) k ≡ sends_by v.site.vcs q (phase_granted v k)
  pub port_turn : b.marks.port_turn ≡ a.marks.port_turn
  pub packet : b.marks.packet ≡ a.marks.packet
