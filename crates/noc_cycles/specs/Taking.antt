-- What the routers of a block make of what comes to them: credits, what their sources inject, and
-- flits.
use Rattle.std.specs.Prelude.{◌≡◌, ◌≢◌, ℕ, ◌+◌, ◌*◌, ◌^◌, ◌<◌, ◌≤◌, Bool, false, List, not, nat_eq, bit_or, bit_xor, length, if◌then◌else◌}
use Rattle.noc_packet.specs.Set.{has_bit}
use Rattle.noc_sets.specs.Column.{Column}
use Rattle.noc_sets.specs.Cycle.{Router, came_in, still_of}
use Rattle.noc_sets.specs.Layout.{Layout}
use Rattle.noc_sets.specs.Passes.{AreOwners, injecting_after, lane_begins, lane_home, lane_injected, lane_raised}
use Rattle.noc_sets.specs.Planes.{any_from, raised_by}
use Rattle.noc_sets.specs.Sets.{lowest, up_by}
use Rattle.noc_sets.specs.Source.{Source, Start, begun_source, packet_begun, sent_source}
use Rattle.noc_columns.specs.Picks.{channels_of, links_of, port_at}
use Rattle.noc_columns.specs.Planes.{list_of, planes_by}
use Rattle.noc_columns.specs.Sources.{AreDue}
use Rattle.noc_columns.specs.Supply.{is_fed}
use Rattle.noc_columns.specs.Words.{all_of, set_alike, set_below, set_of}
use Rattle.noc_columns.specs.declared.channels.Links.{Links}
use Rattle.noc_columns.specs.declared.channels.Standing.{Standing}
use Rattle.noc_columns.specs.declared.ports.RouterPorts.{RouterPorts}
use Rattle.noc_columns.specs.declared.words.TheConstants.{ROUTERS}
use Rattle.noc_cycles.specs.Held.{Held, ShowsStill, column_by, held_at}
use Rattle.noc_cycles.specs.May.{MayInject, owned_by}
use Rattle.noc_cycles.specs.declared.block.Block.{Block}
use Rattle.noc_cycles.specs.declared.block.Work.{Work}
use Rattle.noc_cycles.specs.declared.pattern.Pattern.{Pattern}

-- how many link channels a router has, and its column, but for who is supplied
abbrev pub links_count : Pattern → ℕ
links_count pattern = pattern.table.ports.links.width * pattern.table.ports.links.vcs

abbrev pub column_in : Pattern → Held → Column
column_in pattern h = column_by (links_count pattern) pattern.frame.deep h 0

-- a layout is that of a pattern
pub record FitsLayout (pattern : Pattern) (layout : Layout) : Type 0 where
  pub links : layout.links ≡ all_of (links_of pattern.table.ports.links)
  pub local : layout.local
      ≡ up_by (all_of (port_at pattern.table.ports.local 0)) (links_count pattern)
  pub places : (r : ℕ) → r < ROUTERS
      → layout.places
      ≡ list_of pattern.frame.deep
      (planes_by (set_alike (channels_of pattern.table.ports) r) pattern.frame.places)

-- ---- credits come
-- a router holds h, and then k, where these input channels are supplied if they are active: nobody
-- owns a channel that drains
pub record HasCredits (pattern : Pattern) (layout : Layout) (credits : ℕ) (h k : Held)
    (supplied : ℕ) : Type 0 where
  pub credit : list_of pattern.frame.deep k.outputs.credit
      ≡ raised_by (list_of pattern.frame.deep h.outputs.credit) credits
  pub draining : k.outputs.draining
      ≡ bit_xor h.outputs.draining (lane_home layout.places credits (column_in pattern h))
  pub idle : k.idle ≡ bit_or h.idle (lane_home layout.places credits (column_in pattern h))
  pub rest : k ≡ record h { outputs = k.outputs; idle = k.idle }
  pub fed : (i : ℕ) → i < (pattern.table.ports.links.width + 1) * pattern.table.ports.links.vcs
      → h.out_port i ≤ pattern.table.ports.links.width → h.out_vc i < pattern.table.ports.links.vcs
      → has_bit k.outputs.draining (owned_by pattern.table.ports.links.vcs h i) ≡ false
      → has_bit supplied i
      ≡ is_fed pattern.table.ports.links.width
      (λ q. set_below pattern.table.ports.links.vcs
      (λ v. has_bit (any_from credits (list_of pattern.frame.deep h.outputs.credit))
      (q * pattern.table.ports.links.vcs + v)))
      (h.out_port i) (h.out_vc i)

-- ---- sources inject
-- the local channels in which a packet may begin, those into which a flit is injected, and the
-- source before that
abbrev pub begins_held : Pattern → Layout → ℕ → Held → ℕ
begins_held pattern layout cycle h =
    lane_begins layout.local cycle h.source.due (column_in pattern h)

abbrev pub went_held : Pattern → Layout → ℕ → Held → ℕ
went_held pattern layout cycle h =
    bit_or (lane_injected layout.places (column_in pattern h))
    (lowest (begins_held pattern layout cycle h))

abbrev pub ready_held : Pattern → Layout → List Start → ℕ → Held → Source
ready_held pattern layout starts cycle h =
    begun_source starts (begins_held pattern layout cycle h) h.source

-- a router holds h, to which its links bring this, and then k, to which these flits and tails come
pub record HasInjected (pattern : Pattern) (layout : Layout) (starts : List Start) (cycle : ℕ)
    (came : Links ℕ) (h k : Held) (flits tails : ℕ) : Type 0 where
  pub flits_are : flits ≡ bit_or came.flits (went_held pattern layout cycle h)
  pub tails_are : tails
      ≡ bit_or came.tails
      (if nat_eq (ready_held pattern layout starts cycle h).left 1
      then went_held pattern layout cycle h else 0)
  pub injecting : up_by k.injecting (links_count pattern)
      ≡ injecting_after (went_held pattern layout cycle h)
      (ready_held pattern layout starts cycle h).left
      (bit_or (up_by h.injecting (links_count pattern))
      (lowest (begins_held pattern layout cycle h)))
  pub packet : k.packet
      ≡ packet_begun starts (begins_held pattern layout cycle h) h.source h.packet
  pub source : k.source
      ≡ sent_source starts (went_held pattern layout cycle h)
      (ready_held pattern layout starts cycle h)
  pub rest : k
      ≡ record h { packet = k.packet; injecting = k.injecting; source = k.source }

-- ---- all of it
-- it is known in a cycle which packets are due, and each that is being injected was
pub record IsPunctual (cycle : ℕ) (ports : RouterPorts) (block : Block) : Type 0 where
  pub due : AreDue cycle block.sources.due
  pub injected : (r : ℕ) → r < ROUTERS → (held_at ports block r).injecting ≢ 0
      → (held_at ports block r).source.due ≤ cycle

-- the sources of a block may inject
pub record MaySend (ports : RouterPorts) (starts : List Start) (cycle : ℕ) (block : Block)
    : Type 0 where
  pub few : length starts < 2 ^ 32
  pub before : ℕ  -- an earlier cycle
  pub earlier : before ≤ cycle
  pub punctual : IsPunctual before ports block
  pub each : (r : ℕ) → r < ROUTERS → MayInject starts cycle (held_at ports block r)

-- where the word of the routers with heads has none, no router has one
abbrev pub TellsHeads : RouterPorts → Work → Type 0
TellsHeads ports w = w.heading ≡ 0 → (r : ℕ) → set_of (channels_of ports) r w.standing.heads ≡ 0

-- whether something comes to router r: a flit or a credit
abbrev pub comes_to : RouterPorts → Links (List ℕ) → ℕ → Bool
comes_to ports came r =
    not (nat_eq (bit_or (set_of (channels_of ports) r came.flits)
    (set_of (links_of ports.links) r came.credits)) 0)

-- a router with these words has taken what comes, and then holds h; it is told what its input
-- channels can do, and whether something comes
pub record HasTaken (pattern : Pattern) (layout : Layout) (starts : List Start) (cycle : ℕ)
    (b : Router) (h : Held) (standing : Standing ℕ) (no_credit : ℕ) (comes : Bool) : Type 0 where
  pub up : ℕ
  pub ups : AreOwners (lane_raised b.links.credits b.column) b.marks.owner up
  pub up_fits : up < 2 ^ 64
  pub shows : ShowsStill pattern h standing no_credit (still_of layout starts cycle up b)
  pub happened : comes ≡ not (nat_eq (came_in layout cycle b) 0)
