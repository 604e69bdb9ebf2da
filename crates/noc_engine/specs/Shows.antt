-- What the blocks of a network show: its state at a count of cycles.
use Rattle.std.specs.Prelude.{◌≡◌, ℕ, ◌+◌, ◌*◌, ◌/◌, ◌^◌, ◌<◌, ◌≤◌, Bool, ◌&&◌, List, Option, Some, None, length, map, nat_eq, nat_le, nat_lt, slice_index, if◌then◌else◌}
use Rattle.std.specs.List.{slice_get}
use Rattle.noc_topo.specs.Lists.{one_if}
use Rattle.noc_topo.specs.Shape.{nodes}
use Rattle.noc_packet.specs.Set.{has_bit}
use Rattle.noc_sets.specs.Cycle.{Router}
use Rattle.noc_theory.specs.Good.{IsGoodSetup}
use Rattle.noc_theory.specs.Network.{Setup}
use Rattle.noc_theory_bits.specs.Network.{ShowsOwn, Words, all_starts}
use Rattle.noc_columns.specs.Picks.{channels_of}
use Rattle.noc_columns.specs.Routing.{header_of}
use Rattle.noc_columns.specs.Sources.{starts_by}
use Rattle.noc_columns.specs.declared.channels.Links.{Links}
use Rattle.noc_columns.specs.declared.due.TheConstants.{NEVER}
use Rattle.noc_columns.specs.declared.sets.TheConstants.{CHANNELS}
use Rattle.noc_columns.specs.declared.words.TheConstants.{ROUTERS}
use Rattle.noc_counts.specs.Counts.{HasHad, counted_in}
use Rattle.noc_counts.specs.declared.counts.Counts.{Counts}
use Rattle.noc_cycles.specs.Around.{IsAround}
use Rattle.noc_cycles.specs.Held.{held_at, links_at}
use Rattle.noc_cycles.specs.Patterns.{IsPatternOf}
use Rattle.noc_cycles.specs.Taking.{IsPunctual}
use Rattle.noc_cycles.specs.Told.{HaveRoom}
use Rattle.noc_cycles.specs.declared.around.Around.{Around}
use Rattle.noc_cycles.specs.declared.block.Block.{Block}
use Rattle.noc_cycles.specs.declared.block.Work.{Work}
use Rattle.noc_theory_cycles.specs.Fits.{bits_of}
use Rattle.noc_theory_cycles.specs.Nodes.{ShowsNode}
use Rattle.noc_engine.specs.Origins.{net_in}
use Rattle.noc_engine.specs.declared.columns.Columns.{Columns}
use Rattle.noc_engine.specs.declared.plan.Plan.{Plan}
use Rattle.noc_engine.specs.declared.tile.Tile.{Tile}

-- ---- what stays as it is
-- a plan is that of a network
pub record IsPlanOf (net : Setup) (plan : Plan) : Type 0 where
  pub pattern_is : IsPatternOf net.relation.grid net.relation.vcs net.depth plan.pattern
  pub blocks : nodes net.relation.grid ≤ ROUTERS * length plan.around.items
  pub some : (b : ℕ) → b < length plan.around.items → ROUTERS * b < nodes net.relation.grid
  pub around : (b : ℕ) (one : Around) → slice_get plan.around.items b ≡ Some one
      → IsAround net.relation.grid net.relation.vcs b one
  pub starts : starts_by plan.starts.items ≡ all_starts net
  pub few_starts : length plan.starts.items < 2 ^ 32
  pub headers : plan.headers.items ≡ map header_of net.packets

-- ---- tiles
-- block b is one of a tile, which has some side by side
abbrev pub has_block : Tile → ℕ → Bool
has_block tile b =
    nat_le tile.first b && nat_lt b (tile.first + length tile.blocks.items)

-- router s is in one of them
abbrev pub has_router : Tile → ℕ → Bool
has_router tile s = has_block tile (s / ROUTERS)

-- it has lists of its blocks, and of all blocks and packets of a network
pub record HasLists (net : Setup) (plan : Plan) (tile : Tile) : Type 0 where
  pub within : tile.first + length tile.blocks.items ≤ length plan.around.items
  pub works_are : length tile.works.items ≡ length tile.blocks.items
  pub counts_are : length tile.counts.items ≡ length tile.blocks.items
  pub room : HaveRoom (length tile.blocks.items) tile.notes.items
  pub left_are : length tile.left.items ≡ length plan.around.items
  pub arrivals_are : length tile.arrivals.items ≡ length net.packets

-- the cycle in which a packet arrived, by its word
abbrev pub arrival_by : ℕ → Option ℕ
arrival_by word = if nat_eq word NEVER then None else Some word

-- what a tile keeps of a network, by these words of its routers
abbrev pub words_in : (ℕ → Router) → Tile → Words
words_in words tile = record {
  routers = words;
  last = tile.last;
  arrivals = λ p. arrival_by (slice_index tile.arrivals.items p);
}

-- ---- a count
-- block b shows its routers of a network at count n, to which this comes over their links, and of
-- which these counts were counted
pub record ShowsBlock (net : Setup) (plan : Plan) (n b : ℕ) (words : ℕ → Router) (block : Block)
    (came : Links (List ℕ)) (counts : Counts) : Type 0 where
  pub routers : (r : ℕ) → r < ROUTERS
      → ShowsNode (bits_of plan.pattern) net plan.pattern n (ROUTERS * b + r)
      (links_at plan.pattern.table.ports came r) (held_at plan.pattern.table.ports block r)
      (words (ROUTERS * b + r))
  pub counted : (r i : ℕ) → r < ROUTERS
      → i < (plan.pattern.table.ports.links.width + 1) * plan.pattern.table.ports.links.vcs
      → HasHad (channels_of plan.pattern.table.ports) counts r i
      (one_if (has_bit (words (ROUTERS * b + r)).column.waiting i))
      ((words (ROUTERS * b + r)).counts i)
  pub few : counted_in counts ≤ n
  pub before : ℕ  -- a cycle of which it is known which packets are due
  pub known : before ≤ n
  pub punctual : IsPunctual before plan.pattern.table.ports block

-- a tile shows its routers of a network at count n, by these words
pub record ShowsTile (net : Setup) (plan : Plan) (n : ℕ) (words : ℕ → Router) (tile : Tile)
    : Type 0 where
  pub plan_is : IsPlanOf net plan
  pub cycle : tile.cycle ≡ n
  pub lists : HasLists net plan tile
  pub blocks : (b : ℕ) (block : Block) (work : Work) (counts : Counts)
      → slice_get tile.blocks.items b ≡ Some block → slice_get tile.works.items b ≡ Some work
      → slice_get tile.counts.items b ≡ Some counts
      → ShowsBlock net plan n (tile.first + b) words block work.came counts
  pub shows : ShowsOwn (bits_of plan.pattern) net (has_router tile) n (words_in words tile)

-- columns show the network that they were made of at count n, by these words of its routers: their
-- tile has all blocks
pub record ShowsAt (net : Setup) (n : ℕ) (words : ℕ → Router) (all : Columns) : Type 0 where
  pub good : IsGoodSetup net
  pub made : net_in all.origin ≡ net
  pub tile : ShowsTile net all.plan n words all.tile
  pub first : all.tile.first ≡ 0
  pub blocks_are : length all.tile.blocks.items ≡ length all.plan.around.items
  pub found_are : length all.found.items ≡ nodes net.relation.grid * CHANNELS
