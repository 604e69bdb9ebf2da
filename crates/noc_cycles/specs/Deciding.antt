-- What is decided in one router of a block that has taken what comes: output channels are granted,
-- heads are routed, and flits go through the switch.
use Rattle.std.specs.Prelude.{◌≡◌, ℕ, ◌+◌, ◌*◌, ◌/◌, ◌<◌, bit_and, List, bit_or}
use Rattle.noc_packet.specs.Set.{has_bit}
use Rattle.noc_sets.specs.Column.{RouterMarks}
use Rattle.noc_sets.specs.Cycle.{Still}
use Rattle.noc_sets.specs.Ended.{lane_released, leads_tail}
use Rattle.noc_sets.specs.Grants.{Allocation}
use Rattle.noc_sets.specs.Layout.{Layout}
use Rattle.noc_sets.specs.Moves.{HasSwitched, single_in}
use Rattle.noc_sets.specs.Passes.{Effects, lane_heads, lane_ready}
use Rattle.noc_sets.specs.Routed.{HasChosen}
use Rattle.noc_sets.specs.Sets.{less}
use Rattle.noc_sets.specs.Turns.{ArePast, ArePicked}
use Rattle.noc_columns.specs.Allotted.{ShowsOwned}
use Rattle.noc_cycles.specs.Held.{Held, column_by}
use Rattle.noc_columns.specs.Picks.{PicksAll}
use Rattle.noc_columns.specs.Switch.{ShowsOutputs, TraversesAll}
use Rattle.noc_columns.specs.declared.channels.Decided.{Decided}
use Rattle.noc_columns.specs.declared.channels.Links.{Links}
use Rattle.noc_columns.specs.declared.channels.Standing.{Standing}
use Rattle.noc_columns.specs.declared.picks.Picks.{Picks}
use Rattle.noc_columns.specs.declared.ports.RouterPorts.{RouterPorts}
use Rattle.noc_columns.specs.declared.supply.Sends.{Sends}
use Rattle.noc_cycles.specs.declared.pattern.Pattern.{Pattern}

-- a still router before anything is decided
abbrev pub undecided : Still → Allocation
undecided s = record { column = s.column; marks = s.marks; granted = 0; lost = 0 }

-- from a to h, where s are the words of the router once it was still: `granted` and `lost` are its
-- input channels that are granted an output channel, or ask for one and are not, `decided` has what
-- goes through its switch, and `left` what leaves it over its links
pub record HasDecidedHeld (pattern : Pattern) (layout : Layout) (sets : ℕ → ℕ → ℕ) (s : Still)
    (a h : Held) (standing : Standing ℕ) (decided : Decided ℕ) (granted lost : ℕ) (left : Links ℕ)
    : Type 0 where
  pub chosen : Allocation  -- after grants and routes
  pub choice : HasChosen
      ((pattern.table.ports.links.width + 1) * pattern.table.ports.links.vcs)
      (λ o. o / pattern.table.ports.links.vcs) (lane_heads s.filled s.column) sets (undecided s)
      chosen
  pub picks : ArePicked pattern.table.ports.links.vcs (pattern.table.ports.links.width + 1)
      (lane_ready s.filled s.column) s.column.ahead decided.picked
  pub marks : RouterMarks  -- after the switch
  pub supplied : ℕ
  pub effects : Effects
  pub switched : HasSwitched pattern.table.ports.links.vcs (pattern.table.ports.links.width + 1)
      decided.picked (single_in layout.links s.column) (leads_tail s.ended s.column.len)
      chosen.marks marks effects chosen.column.supplied supplied
  pub granted_are : granted ≡ chosen.granted
  pub lost_are : lost ≡ chosen.lost
  pub heads : effects.heads ≡ lane_heads s.filled s.column
  pub given : effects.granted ≡ chosen.granted
  pub moved : effects.moved ≡ bit_and decided.picked decided.sends
  pub released : effects.released ≡ lane_released effects.moved s.ended s.column.len
  pub flits : (o : ℕ) → o < pattern.table.ports.links.width * pattern.table.ports.links.vcs
      → has_bit left.flits o ≡ has_bit effects.out o
  pub tails : (o : ℕ) → o < pattern.table.ports.links.width * pattern.table.ports.links.vcs
      → has_bit left.tails o ≡ has_bit effects.freed o
  -- the pointers of the input ports that send go past what is picked
  pub past : ArePast pattern.table.ports.links.vcs (pattern.table.ports.links.width + 1)
      s.column.ahead effects.moved
      (bit_or (less a.inputs.ahead decided.sends) (bit_and decided.past decided.sends))
  -- what the router holds then
  pub column : chosen.column
      ≡ column_by (pattern.table.ports.links.width * pattern.table.ports.links.vcs)
      pattern.frame.deep h chosen.column.supplied
  pub waiting : h.waiting ≡ bit_or (less a.waiting granted) standing.heads
  pub inputs : h.inputs ≡ a.inputs
  pub outputs : h.outputs ≡ a.outputs
  pub packet : h.packet ≡ a.packet
  pub injecting : h.injecting ≡ a.injecting
  pub source : h.source ≡ a.source
  pub set : chosen.marks.set ≡ h.set
  pub turn : chosen.marks.turn ≡ h.turn
  pub held_packet : chosen.marks.packet ≡ h.packet
  pub owned : ShowsOwned (pattern.table.ports.links.width + 1) pattern.table.ports.links.vcs
      (bit_or a.inputs.active granted) h.out_port h.out_vc chosen.marks
  pub pointers : ShowsOutputs (pattern.table.ports.links.width + 1) pattern.table.ports.links.vcs
      h.pointers marks

-- ---- the flits of a block
-- its ports pick among the channels that are ready, and these go through the switch
pub record HasSentAll (ports : RouterPorts) (standing : Standing (List ℕ)) (ahead : List ℕ)
    (sends : Sends (List ℕ)) (pointers next : List ℕ) (old new : Decided (List ℕ))
    (was gone : Links (List ℕ)) : Type 0 where
  pub picks : Picks
  pub between : Decided (List ℕ)  -- once they have picked
  pub picked : PicksAll ports standing ahead sends old between picks
  pub traversed : TraversesAll ports picks pointers next between new was gone
