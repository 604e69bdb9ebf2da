-- A network of blocks runs.
use Rattle.std.specs.Prelude.{◌≡◌, ◌⊎◌, ℕ, ◌+◌, ◌*◌, ◌^◌, ◌<◌, ◌≤◌, List, Some, slice_index_or, sum}
use Rattle.std.specs.List.{slice_get}
use Rattle.noc_topo.specs.Shape.{nodes}
use Rattle.noc_route.specs.Routes.{Routes}
use Rattle.noc_view.specs.Found.{empty_finding, finding_at}
use Rattle.noc_sets.specs.Counts.{ByVerdict, nine_counts}
use Rattle.noc_sets.specs.Cycle.{Router}
use Rattle.noc_theory.specs.Lockstep.{findings_before}
use Rattle.noc_theory.specs.Network.{Setup, size}
use Rattle.noc_theory.specs.declared.limits.TheConstants.{CYCLE_LIMIT}
use Rattle.noc_columns.specs.Picks.{channels_of}
use Rattle.noc_columns.specs.declared.due.TheConstants.{NEVER}
use Rattle.noc_columns.specs.declared.sets.TheConstants.{CHANNELS}
use Rattle.noc_counts.specs.Counts.{HasHad, counted_in, last_at, with_delays}
use Rattle.noc_counts.specs.declared.counts.Counts.{Counts}
use Rattle.noc_cycles.specs.declared.block.Block.{Block}
use Rattle.noc_cycles.specs.declared.pattern.Pattern.{Pattern}
use Rattle.noc_engine.specs.Origins.{net_in}
use Rattle.noc_engine.specs.Shows.{ShowsAt}
use Rattle.noc_engine.specs.Steps.{HasStepped, MayStep}
use Rattle.noc_engine.specs.declared.columns.Columns.{Columns}

-- columns show the network that they were made of at count n
abbrev pub ShowsRun : Setup → ℕ → Columns → Type 0
ShowsRun net n all = (words : ℕ → Router) × ShowsAt net n words all

-- they show it at their own count, and may run so many cycles more, by this relation
pub record MayRun (relation : Routes) (cycles : ℕ) (all : Columns) : Type 0 where
  pub is : (net_in all.origin).relation ≡ relation
  pub within : all.tile.cycle + cycles ≤ CYCLE_LIMIT
  pub shows : ShowsRun (net_in all.origin) all.tile.cycle all

-- it has just run cycle n, and may run so many more
pub record HasJustRun (net : Setup) (n most : ℕ) (all : Columns) : Type 0 where
  pub relation : Routes
  pub words : ℕ → Router
  pub next : ℕ → Router
  pub was : Columns
  pub may : MayStep net relation n words was
  pub stepped : HasStepped net n words next was all
  pub within : n + 1 + most ≤ CYCLE_LIMIT

-- so many cycles more were counted of a block that are like the last one, in which nothing happened
pub record HasRepeated (pattern : Pattern) (times : ℕ) (old new : Counts) : Type 0 where
  pub counts : (r i waits : ℕ) (c : ByVerdict)
      → i < (pattern.table.ports.links.width + 1) * pattern.table.ports.links.vcs
      → sum (nine_counts c) + times < 2 ^ 32
      → HasHad (channels_of pattern.table.ports) old r i waits c
      → HasHad (channels_of pattern.table.ports) new r i waits
      (with_delays times (last_at (channels_of pattern.table.ports) old r) i c)
  pub cycles : counted_in new ≡ counted_in old

-- the first time from now on at which a packet of any of these blocks comes to be due, NEVER where
-- there is none
pub record IsNextDue (blocks : List Block) (next : ℕ) : Type 0 where
  pub below : (b : ℕ) (block : Block) → slice_get blocks b ≡ Some block
      → next ≤ block.sources.due.next
  pub one : (next ≡ NEVER) ⊎ ((b : ℕ) × (block : Block) × (slice_get blocks b ≡ Some block)
      × (next ≡ block.sources.due.next))

-- it has what the routers have found in the last cycle that has run
pub record AreFindings (net : Setup) (all : Columns) : Type 0 where
  pub each : (r i : ℕ) → r < nodes net.relation.grid → i < size net → 0 < all.tile.cycle
      → finding_at all.found.items (r * CHANNELS + i)
      ≡ slice_index_or (findings_before net all.tile.cycle r) i empty_finding
