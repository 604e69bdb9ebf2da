-- A block before the first cycle: nothing is in its routers, and each source has all its packets.
use Rattle.std.specs.Prelude.{◌≡◌, ℕ, ◌+◌, ◌-◌, ◌*◌, ◌^◌, ◌<◌, List, length, slice_get, slice_index_or, unwrap_or}
use Rattle.noc_sets.specs.Column.{RouterMarks}
use Rattle.noc_sets.specs.Counts.{no_counts}
use Rattle.noc_sets.specs.Cycle.{Router}
use Rattle.noc_sets.specs.Source.{NEVER}
use Rattle.noc_columns.specs.Picks.{channels_of, links_of, output_of}
use Rattle.noc_columns.specs.Planes.{planes_by}
use Rattle.noc_columns.specs.Sources.{AreDue}
use Rattle.noc_columns.specs.Switch.{channels_at}
use Rattle.noc_columns.specs.Words.{all_of, set_alike}
use Rattle.noc_columns.specs.declared.channels.Inputs.{Inputs}
use Rattle.noc_columns.specs.declared.channels.Links.{Links}
use Rattle.noc_columns.specs.declared.channels.Outputs.{Outputs}
use Rattle.noc_columns.specs.declared.planes.Planes.{Planes}
use Rattle.noc_columns.specs.declared.ports.RouterPorts.{RouterPorts}
use Rattle.noc_columns.specs.declared.sets.TheConstants.{CHANNELS}
use Rattle.noc_columns.specs.declared.words.TheConstants.{ROUTERS}
use Rattle.noc_cycles.specs.Held.{Held, held_at, links_at}
use Rattle.noc_cycles.specs.Taking.{column_in}
use Rattle.noc_cycles.specs.declared.block.Block.{Block}
use Rattle.noc_cycles.specs.declared.block.Work.{Work}
use Rattle.noc_cycles.specs.declared.first.First.{First}
use Rattle.noc_cycles.specs.declared.pattern.Pattern.{Pattern}

-- the first packet of router r of the network, none where it has no such router
abbrev pub first_in : List First → ℕ → First
first_in firsts r = unwrap_or (slice_get firsts r) (record { place = 0; due = NEVER })

-- input channels with nothing in them, where these are at or after the pointers of their ports
abbrev pub no_inputs : ℕ → Inputs ℕ
no_inputs ahead = record {
  waiting = 0;
  active = 0;
  ended = 0;
  ahead = ahead;
  len = record { ones = 0; twos = 0; fours = 0; eights = 0; sixteens = 0 };
}

-- output channels with these credits, of which none drains
abbrev pub free_outputs : Planes ℕ → Outputs ℕ
free_outputs credit = record { draining = 0; credit = credit }

-- router r of a block holds nothing but all its output channels and their credits, each pointer of
-- it is at the first channel, and its source at this packet
pub record HoldsNothing (pattern : Pattern) (one : First) (r : ℕ) (h : Held) : Type 0 where
  pub inputs : h.inputs ≡ no_inputs (all_of (channels_of pattern.table.ports))
  pub outputs : h.outputs
      ≡ free_outputs
      (planes_by (set_alike (links_of pattern.table.ports.links) r) pattern.frame.places)
  pub waiting : h.waiting ≡ 0
  pub wanted : h.wanted ≡ 0
  pub idle : h.idle ≡ all_of (channels_of pattern.table.ports)
  pub turn : (o : ℕ) → o < CHANNELS → h.turn o ≡ 2 ^ 64 - 1
  pub pointers : (q : ℕ) → q < pattern.table.ports.links.width + 1
      → h.pointers q ≡ all_of (output_of pattern.table.ports q)
  pub injecting : h.injecting ≡ 0
  pub source : h.source ≡ record { due = one.due; left = 0; queue = one.place }

-- all routers of block b do, and it is looked up whose packet is due in the first cycle
pub record IsOpened (pattern : Pattern) (firsts : List First) (b : ℕ) (block : Block)
    : Type 0 where
  pub routers : (r : ℕ) → r < ROUTERS
      → HoldsNothing pattern (first_in firsts (ROUTERS * b + r)) r
      (held_at pattern.table.ports block r)
  pub due : AreDue 0 block.sources.due

-- there are so many blocks, and these are they
pub record AreOpened (pattern : Pattern) (firsts : List First) (count : ℕ) (blocks : List Block)
    : Type 0 where
  pub many : length blocks ≡ count
  pub each : (b : ℕ) (d : Block) → b < count
      → IsOpened pattern firsts b (slice_index_or blocks b d)

-- ---- what comes
-- nothing
abbrev pub no_links : Links ℕ
no_links = record { flits = 0; tails = 0; credits = 0 }

-- there is what so many blocks work out, and nothing comes to any router of them
pub record AreEmptyWorks (count : ℕ) (works : List Work) : Type 0 where
  pub many : length works ≡ count
  pub each : (b : ℕ) (d : Work) → b < count → (ports : RouterPorts) (r : ℕ)
      → links_at ports (slice_index_or works b d).came r ≡ no_links

-- ---- what that shows
-- the words of a router that holds this, where none of its channels sends, nothing comes to it and
-- nothing was counted of it
abbrev pub marks_of : Pattern → Held → RouterMarks
marks_of pattern h = record {
  set = h.set;
  taken = λ i. 0;
  packet = h.packet;
  owner = λ o. 0;
  turn = h.turn;
  to_port = λ q. 0;
  port_turn = λ q.
      channels_at (pattern.table.ports.links.width + 1) pattern.table.ports.links.vcs
      (h.pointers q);
}

abbrev pub router_of : Pattern → Held → Router
router_of pattern h = record {
  column = column_in pattern h;
  marks = marks_of pattern h;
  ended = h.inputs.ended;
  links = record { flits = 0; tails = 0; credits = 0 };
  source = h.source;
  counts = λ i. no_counts;
}
