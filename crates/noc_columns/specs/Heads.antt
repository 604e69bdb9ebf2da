-- What routing makes of the routers of a block.
use Rattle.std.specs.Prelude.{◌≡◌, ℕ, ◌+◌, ◌^◌, ◌<◌, true, List, [], length, nat_eq, bit_or, slice_index_or, if◌then◌else◌}
use Rattle.noc_topo.specs.Shape.{nodes}
use Rattle.noc_packet.specs.Set.{has_bit}
use Rattle.noc_sets.specs.Column.{RouterMarks}
use Rattle.noc_sets.specs.Routed.{HasRouted}
use Rattle.noc_columns.specs.Picks.{channels_of}
use Rattle.noc_columns.specs.Routing.{AreRoutable, IsOfPorts, sets_by}
use Rattle.noc_columns.specs.Words.{set_of, word}
use Rattle.noc_columns.specs.declared.marks.Marks.{Marks}
use Rattle.noc_columns.specs.declared.routes.Guide.{Guide}
use Rattle.noc_columns.specs.declared.words.TheConstants.{ROUTERS}

-- the number of the packet that holds input channel k of router r
abbrev pub packet_in : List (List ℕ) → ℕ → ℕ → ℕ
packet_in packets r k = word k (slice_index_or packets r [])

-- what it changes of one router
pub record Heading : Type 0 where
  pub waiting : ℕ
  pub wanted : ℕ
  pub set : ℕ → ℕ

-- what it changes of router r of a block
abbrev pub heading_at : Marks → ℕ → Heading
heading_at marks r = record {
  waiting = word r marks.waiting;
  wanted = word r marks.wanted;
  set = λ k. word k (slice_index_or marks.sets r []);
}

-- the head in channel k waits for one of these output channels
abbrev pub headed : ℕ → ℕ → Heading → Heading
headed k permitted h = record {
  waiting = bit_or h.waiting (2 ^ k);
  wanted = bit_or h.wanted permitted;
  set = λ j. if nat_eq j k then permitted else h.set j;
}

-- the marks of a router with these sets, whose input channels are held by these packets
abbrev pub headed_marks : Heading → (ℕ → ℕ) → RouterMarks → RouterMarks
headed_marks h packet m = record m { set = h.set; packet = packet }

-- ---- the heads of a block are routed, where its input channels are held by these packets
-- each of them has a packet that the network has, in a router of it
pub record MayRouteAll (guide : Guide) (heads : List ℕ) (packets : List (List ℕ)) : Type 0 where
  pub ports : IsOfPorts guide.table.now.ports guide.relation.now
  pub headers : AreRoutable guide.relation.now guide.headers.now
  pub there : (r k : ℕ) → r < ROUTERS
      → has_bit (set_of (channels_of guide.table.now.ports) r heads) k ≡ true
      → (guide.first + r < nodes guide.relation.now.grid)
      × (packet_in packets r k < length guide.headers.now)

-- they wait, each for the channels that its packet may take, and all else is as it was
pub record HasRoutedAll (guide : Guide) (heads : List ℕ) (packets : List (List ℕ))
    (old new : Marks) : Type 0 where
  pub routed : (r : ℕ) (m : RouterMarks) → r < ROUTERS
      → HasRouted (set_of (channels_of guide.table.now.ports) r heads)
      (sets_by guide.relation.now guide.headers.now (guide.first + r))
      (headed_marks (heading_at old r) (packet_in packets r) m)
      (headed_marks (heading_at new r) (packet_in packets r) m) (word r old.wanted)
      (word r new.wanted)
  pub waiting : (r : ℕ) → r < ROUTERS
      → word r new.waiting
      ≡ bit_or (word r old.waiting) (set_of (channels_of guide.table.now.ports) r heads)
  pub idle : (r : ℕ) → word r new.idle ≡ word r old.idle
  pub turns : new.turns ≡ old.turns
