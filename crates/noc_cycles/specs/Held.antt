-- What one router of a block holds between cycles, by sets of its channels, and what that shows of
-- the words of a router.
use Rattle.std.specs.Prelude.{◌≡◌, ℕ, ◌+◌, ◌*◌, Bool, List, [], slice_index_or}
use Rattle.noc_sets.specs.Column.{Column, RouterMarks}
use Rattle.noc_sets.specs.Cycle.{Router}
use Rattle.noc_sets.specs.Ended.{leads_tail}
use Rattle.noc_sets.specs.Cycle.{Still}
use Rattle.noc_sets.specs.Passes.{lane_heads, lane_no_credit, lane_ready}
use Rattle.noc_packet.specs.Set.{has_bit}
use Rattle.noc_sets.specs.Sets.{up_by}
use Rattle.noc_sets.specs.Source.{Source}
use Rattle.noc_columns.specs.Allotted.{ShowsOwned}
use Rattle.noc_columns.specs.Channels.{inputs_by, links_by, outputs_by}
use Rattle.noc_columns.specs.Heads.{packet_in}
use Rattle.noc_columns.specs.Picks.{channels_of, links_of, output_of, port_at}
use Rattle.noc_columns.specs.Planes.{list_of}
use Rattle.noc_columns.specs.Sources.{source_in}
use Rattle.noc_columns.specs.Supply.{digits_by, number_in}
use Rattle.noc_columns.specs.Switch.{ShowsOutputs}
use Rattle.noc_columns.specs.Words.{set_of, word}
use Rattle.noc_cycles.specs.declared.block.Block.{Block}
use Rattle.noc_columns.specs.declared.channels.Inputs.{Inputs}
use Rattle.noc_columns.specs.declared.channels.Links.{Links}
use Rattle.noc_columns.specs.declared.channels.Outputs.{Outputs}
use Rattle.noc_columns.specs.declared.channels.Standing.{Standing}
use Rattle.noc_cycles.specs.declared.pattern.Pattern.{Pattern}
use Rattle.noc_columns.specs.declared.ports.RouterPorts.{RouterPorts}

-- what one router holds
pub record Held : Type 0 where
  pub inputs : Inputs ℕ
  pub outputs : Outputs ℕ  -- link channels
  pub out_port : ℕ → ℕ  -- by active input channel, the port of the output channel that it owns
  pub out_vc : ℕ → ℕ  -- .. and its virtual channel
  pub pointers : ℕ → ℕ  -- by output port, the input ports at or after the pointer of its arbiter
  pub waiting : ℕ
  pub wanted : ℕ
  pub idle : ℕ
  pub set : ℕ → ℕ
  pub turn : ℕ → ℕ
  pub packet : ℕ → ℕ
  pub injecting : ℕ  -- virtual channels of the local port
  pub source : Source

-- .. router r of a block
abbrev pub held_at : RouterPorts → Block → ℕ → Held
held_at ports b r = record {
  inputs = inputs_by (set_of (channels_of ports) r) b.inputs;
  outputs = outputs_by (set_of (links_of ports.links) r) b.outputs;
  out_port = λ k. number_in (digits_by (set_of (channels_of ports) r) b.grants.sends.port) k;
  out_vc = λ k. number_in (digits_by (set_of (channels_of ports) r) b.grants.sends.vc) k;
  pointers = λ q. set_of (output_of ports q) r b.switch.ahead;
  waiting = word r b.marks.waiting;
  wanted = word r b.marks.wanted;
  idle = word r b.marks.idle;
  set = λ k. word k (slice_index_or b.marks.sets r []);
  turn = λ o. word o (slice_index_or b.marks.turns r []);
  packet = packet_in b.packets r;
  injecting = set_of (port_at ports.local 0) r b.injection.injecting;
  source = source_in b.sources r;
}

-- the column of a router that holds this, of which these channels are supplied; there are so many
-- link channels
abbrev pub column_by : ℕ → Bool → Held → ℕ → Column
column_by links deep h supplied = record {
  waiting = h.inputs.waiting;
  active = h.inputs.active;
  len = list_of deep h.inputs.len;
  supplied = supplied;
  ahead = h.inputs.ahead;
  wanted = h.wanted;
  idle = h.idle;
  draining = h.outputs.draining;
  credit = list_of deep h.outputs.credit;
  injecting = up_by h.injecting links;
}

-- its marks
pub record ShowsMarks (ports vcs : ℕ) (h : Held) (m : RouterMarks) : Type 0 where
  pub set : m.set ≡ h.set
  pub turn : m.turn ≡ h.turn
  pub packet : m.packet ≡ h.packet
  pub owned : ShowsOwned ports vcs h.inputs.active h.out_port h.out_vc m
  pub outputs : ShowsOutputs ports vcs h.pointers m

-- ---- between cycles: these are the words of the router, to which its links bring this
pub record ShowsHeld (pattern : Pattern) (h : Held) (links : Links ℕ) (b : Router) : Type 0 where
  pub column : b.column
      ≡ column_by (pattern.table.ports.links.width * pattern.table.ports.links.vcs)
      pattern.frame.deep h b.column.supplied
  pub marks : ShowsMarks (pattern.table.ports.links.width + 1) pattern.table.ports.links.vcs h
      b.marks
  pub waiting : h.waiting ≡ h.inputs.waiting
  pub ended : b.ended ≡ h.inputs.ended
  pub links_are : b.links
      ≡ record { flits = links.flits; tails = links.tails; credits = links.credits }
  pub source : b.source ≡ h.source

-- what the links bring to router r
abbrev pub links_at : RouterPorts → Links (List ℕ) → ℕ → Links ℕ
links_at ports came r = links_by (set_of (links_of ports.links) r) came

-- ---- once it has taken what comes: these are its words, and what its input channels can do
pub record ShowsStill (pattern : Pattern) (h : Held) (standing : Standing ℕ) (no_credit : ℕ)
    (s : Still) : Type 0 where
  pub column : s.column
      ≡ column_by (pattern.table.ports.links.width * pattern.table.ports.links.vcs)
      pattern.frame.deep h s.column.supplied
  pub marks : ShowsMarks (pattern.table.ports.links.width + 1) pattern.table.ports.links.vcs h
      s.marks
  pub waiting : h.waiting ≡ h.inputs.waiting
  pub ended : s.ended ≡ h.inputs.ended
  pub source : s.source ≡ h.source
  pub heads : standing.heads ≡ lane_heads s.filled s.column
  pub ready : standing.ready ≡ lane_ready s.filled s.column
  pub last : (i : ℕ) → has_bit standing.last i ≡ leads_tail s.ended s.column.len i
  pub no_credit_is : no_credit ≡ lane_no_credit s.filled s.column
