-- A cycle of a tile, to which the other blocks near it tell what they have sent.
use Rattle.std.specs.Prelude.{◌≡◌, ℕ, ◌+◌, ◌*◌, ◌/◌, ◌%◌, ◌<◌, ◌≤◌, Bool, true, false, ◌||◌, List, ◌++◌, Option, Some, None, length, unwrap_or, if◌then◌else◌}
use Rattle.std.specs.List.{slice_get}
use Rattle.noc_topo.specs.Lists.{one_if}
use Rattle.noc_topo.specs.Shape.{local_port, neighbour, nodes}
use Rattle.noc_packet.specs.Set.{has_bit}
use Rattle.noc_route.specs.Routes.{Routes}
use Rattle.noc_sets.specs.Cycle.{Links as Left, Router, Turn}
use Rattle.noc_theory.specs.Good.{IsGoodSetup}
use Rattle.noc_theory.specs.Network.{Setup, size}
use Rattle.noc_theory.specs.declared.limits.TheConstants.{CYCLE_LIMIT}
use Rattle.noc_theory_bits.specs.Network.{AreArrivals, IsLastAfter, IsOwn, numbers_in}
use Rattle.noc_theory_bits.specs.Owners.{granted_to, heard}
use Rattle.noc_theory_bits.specs.Sends.{Sends}
use Rattle.noc_columns.specs.Heads.{packet_in}
use Rattle.noc_columns.specs.Picks.{channels_of, links_of}
use Rattle.noc_columns.specs.Words.{set_of}
use Rattle.noc_columns.specs.Sources.{AreDue}
use Rattle.noc_columns.specs.declared.channels.Links.{Links}
use Rattle.noc_columns.specs.declared.ports.RouterPorts.{RouterPorts}
use Rattle.noc_columns.specs.declared.sets.TheConstants.{CHANNELS}
use Rattle.noc_columns.specs.declared.words.TheConstants.{ROUTERS}
use Rattle.noc_counts.specs.Counts.{HasDelayed, HasHad, counted_in, last_at}
use Rattle.noc_counts.specs.declared.counts.Counts.{Counts}
use Rattle.noc_cycles.specs.Gathered.{left_by}
use Rattle.noc_cycles.specs.Held.{held_at}
use Rattle.noc_cycles.specs.Taking.{IsPunctual}
use Rattle.noc_cycles.specs.Told.{AreNotes, notes_by, told_by}
use Rattle.noc_cycles.specs.Turning.{ShowsTurn}
use Rattle.noc_cycles.specs.declared.block.Block.{Block}
use Rattle.noc_cycles.specs.declared.block.Work.{Work}
use Rattle.noc_cycles.specs.declared.notes.Note.{Note}
use Rattle.noc_theory_cycles.specs.Fits.{layout_of}
use Rattle.noc_theory_cycles.specs.Nodes.{IsNodeTurn}
use Rattle.noc_engine.specs.Finds.{found_at}
use Rattle.noc_engine.specs.Shows.{HasLists, ShowsTile, has_router, words_in}
use Rattle.noc_engine.specs.declared.plan.Plan.{Plan}
use Rattle.noc_engine.specs.declared.tile.Tile.{Tile}
use Rattle.noc_engine.specs.declared.exchange.Told.{Told}

-- ---- before a cycle
-- a tile may run cycle n by this relation, where these are the words of its routers
pub record MayRunTile (net : Setup) (relation : Routes) (plan : Plan) (n : ℕ) (words : ℕ → Router)
    (tile : Tile) : Type 0 where
  pub good : IsGoodSetup net
  pub is : net.relation ≡ relation
  pub few : n < CYCLE_LIMIT
  pub shows : ShowsTile net plan n words tile

-- ---- what is told
-- what leaves router r of a block, by these words
abbrev pub left_at : RouterPorts → Links (List ℕ) → ℕ → Left
left_at ports one r =
    let set = set_of (links_of ports.links) r in
    record { flits = set one.flits; tails = set one.tails; credits = set one.credits }

-- what has left router s in the last cycle
abbrev pub left_of : RouterPorts → List (Links (List ℕ)) → ℕ → Left
left_of ports left s = left_at ports (left_by left (s / ROUTERS)) (s % ROUTERS)

-- of what the network grants in cycle n that which the routers of these blocks tell
abbrev pub granted_in : Setup → ℕ → (ℕ → Bool) → ℕ → ℕ → Option ℕ
granted_in net n from s o = if from (s / ROUTERS) then granted_to net n s o else None

-- these are the notes of all that block b tells, where routers tell these numbers of packets by
-- output channel
pub record AreNotesBy (net : Setup) (tells : ℕ → ℕ → Option ℕ) (b : ℕ) (notes : List Note)
    : Type 0 where
  pub are : AreNotes net.relation.grid net.relation.vcs (told_by b tells) notes
  pub few : length notes ≤ ROUTERS * CHANNELS

-- .. that it tells in cycle n of the network
abbrev pub AreNotesOf : Setup → ℕ → ℕ → List Note → Type 0
AreNotesOf net n b notes = AreNotesBy net (granted_to net n) b notes

-- this is what a block of the network tells others in cycle n
pub record IsTold (net : Setup) (plan : Plan) (n : ℕ) (told : Told) : Type 0 where
  pub block : told.block < length plan.around.items
  pub left : (r port : ℕ) → r < ROUTERS → ROUTERS * told.block + r < nodes net.relation.grid
      → port < local_port net.relation.grid
      → Sends net n (ROUTERS * told.block + r) port
      (left_at plan.pattern.table.ports told.left r) (granted_to net n (ROUTERS * told.block + r))
  pub notes : AreNotesOf net n told.block told.notes.items

-- ---- a cycle
-- what block b has made of cycle n: its routers have made these turns, and what it tells is noted
pub record HasRunBlock (net : Setup) (plan : Plan) (n b : ℕ) (from : ℕ → Bool) (words : ℕ → Router)
    (turns : ℕ → Turn) (block : Block) (counts : Counts) : Type 0 where
  pub turn : (r : ℕ) → r < ROUTERS
      → IsNodeTurn net plan.pattern (layout_of plan.pattern) n (ROUTERS * b + r)
      (words (ROUTERS * b + r)) (turns (ROUTERS * b + r))
  -- what they hold shows it, but for the packets of which they hear
  pub shows : (r : ℕ) → r < ROUTERS
      → ShowsTurn plan.pattern (record (held_at plan.pattern.table.ports block r) {
        packet = (turns (ROUTERS * b + r)).marks.packet;
      })
      (turns (ROUTERS * b + r))
  pub packets : (r i : ℕ) → r < ROUTERS → ROUTERS * b + r < nodes net.relation.grid → i < size net
      → packet_in block.packets r i
      ≡ unwrap_or (heard net.relation.grid net.relation.vcs (granted_in net n from)
      (ROUTERS * b + r) i)
      (numbers_in net (layout_of plan.pattern) n (words (ROUTERS * b + r)) i)
  pub counted : (r i : ℕ) → r < ROUTERS
      → i < (plan.pattern.table.ports.links.width + 1) * plan.pattern.table.ports.links.vcs
      → HasHad (channels_of plan.pattern.table.ports) counts r i
      (one_if (has_bit (turns (ROUTERS * b + r)).column.waiting i))
      ((turns (ROUTERS * b + r)).counts i)
  pub last : (r i : ℕ) → r < ROUTERS
      → i < (plan.pattern.table.ports.links.width + 1) * plan.pattern.table.ports.links.vcs
      → HasDelayed (last_at (channels_of plan.pattern.table.ports) counts r) i
      ((words (ROUTERS * b + r)).counts i) ((turns (ROUTERS * b + r)).counts i)
  pub few : counted_in counts ≤ n + 1
  pub punctual : IsPunctual n plan.pattern.table.ports block

-- a tile, which was this, has run cycle n, and has heard from the blocks `from`: its routers have
-- made these turns
pub record HasRunTile (net : Setup) (plan : Plan) (n : ℕ) (from : ℕ → Bool) (words : ℕ → Router)
    (turns : ℕ → Turn) (was is : Tile) : Type 0 where
  pub good : IsGoodSetup net
  pub few : n < CYCLE_LIMIT
  pub before : ShowsTile net plan n words was
  pub first_is : is.first ≡ was.first
  pub blocks_are : length is.blocks.items ≡ length was.blocks.items
  pub cycle : is.cycle ≡ n + 1
  pub lists : HasLists net plan is
  pub blocks : (b : ℕ) (block : Block) (counts : Counts)
      → slice_get is.blocks.items b ≡ Some block → slice_get is.counts.items b ≡ Some counts
      → HasRunBlock net plan n (is.first + b) from words turns block counts
  pub notes : (b : ℕ) → b < length is.blocks.items
      → AreNotesOf net n (is.first + b) (notes_by is.notes.items b)
  pub left : (s port : ℕ) → s < nodes net.relation.grid
      → (has_router is s || from (s / ROUTERS)) ≡ true → port < local_port net.relation.grid
      → Sends net n s port (left_of plan.pattern.table.ports is.left.items s) (granted_to net n s)
  pub last : IsLastAfter (λ s. IsOwn net (has_router is) s) n turns was.last is.last
  pub arrivals : AreArrivals (λ s. IsOwn net (has_router is) s) (size net) n turns
      (λ s. numbers_in net (layout_of plan.pattern) n (words s))
      (words_in words was).arrivals (words_in words is).arrivals

-- .. from none yet, and this is what its routers have found
pub record HasTurnedTile (net : Setup) (plan : Plan) (n : ℕ) (words : ℕ → Router)
    (turns : ℕ → Turn) (was is : Tile) : Type 0 where
  pub ran : HasRunTile net plan n (λ b. false) words turns was is
  pub found : (b r i : ℕ) (block : Block) (work : Work)
      → slice_get is.blocks.items b ≡ Some block → slice_get is.works.items b ≡ Some work
      → r < ROUTERS
      → (turns (ROUTERS * (is.first + b) + r)).found i
      ≡ found_at plan.pattern block work r i

-- these are blocks from which links lead to those of the tile, all but its own
abbrev pub AreNear : Setup → Tile → (ℕ → Bool) → Type 0
AreNear net tile from =
    (s q r port : ℕ) → r < nodes net.relation.grid → has_router tile r ≡ true
    → neighbour net.relation.grid r q ≡ Some (s, port) → has_router tile s ≡ false
    → from (s / ROUTERS) ≡ true

-- a tile, which was this, shows the next count after cycle n, by these words of its routers. Of each
-- block it is kept which channels waited in the cycle, and which packets are due in it
pub record HasStepped (net : Setup) (plan : Plan) (n : ℕ) (words next : ℕ → Router) (was is : Tile)
    : Type 0 where
  pub first_is : is.first ≡ was.first
  pub blocks_are : length is.blocks.items ≡ length was.blocks.items
  pub shows : ShowsTile net plan (n + 1) next is
  pub counted : (b r i : ℕ) (counts : Counts) → slice_get is.counts.items b ≡ Some counts
      → r < ROUTERS
      → i < (plan.pattern.table.ports.links.width + 1) * plan.pattern.table.ports.links.vcs
      → HasDelayed (last_at (channels_of plan.pattern.table.ports) counts r) i
      ((words (ROUTERS * (is.first + b) + r)).counts i)
      ((next (ROUTERS * (is.first + b) + r)).counts i)
  pub due : (b : ℕ) (block : Block) → slice_get is.blocks.items b ≡ Some block
      → AreDue n block.sources.due

-- ---- tiles side by side
-- a tile shows its routers of a network at count n, by some words
abbrev pub Shows : Setup → Plan → ℕ → Tile → Type 0
Shows net plan n tile = (words : ℕ → Router) × ShowsTile net plan n words tile

-- a tile was cut at a block: this is what is left of it, and this the tile of its other blocks
pub record IsCut (at : ℕ) (was here there : Tile) : Type 0 where
  pub first_is : here.first ≡ was.first
  pub here_are : here.first + length here.blocks.items ≡ at
  pub there_is : there.first ≡ at
  pub there_are : there.first + length there.blocks.items ≡ was.first + length was.blocks.items
  pub shows : (net : Setup) (plan : Plan) (n : ℕ) (words : ℕ → Router)
      → ShowsTile net plan n words was
      → ShowsTile net plan n words here × ShowsTile net plan n words there

-- the blocks of another tile stand behind those that a tile had, and all else is as it was
pub record HasBehind (was there is : Tile) : Type 0 where
  pub blocks : is.blocks.items ≡ was.blocks.items ++ there.blocks.items
  pub works : is.works.items ≡ was.works.items ++ there.works.items
  pub counts : is.counts.items ≡ was.counts.items ++ there.counts.items
  pub notes : is.notes.items ≡ was.notes.items ++ there.notes.items
  pub rest : is ≡ record was {
    blocks = is.blocks;
    works = is.works;
    counts = is.counts;
    notes = is.notes;
  }

-- two tiles side by side were joined, in the network of this plan
pub record IsJoined (plan : Plan) (here there all : Tile) : Type 0 where
  pub first_is : all.first ≡ here.first
  pub blocks_are : length all.blocks.items
      ≡ length here.blocks.items + length there.blocks.items
  pub shows : (net : Setup) (n : ℕ)
      → Shows net plan n here → Shows net plan n there → Shows net plan n all
