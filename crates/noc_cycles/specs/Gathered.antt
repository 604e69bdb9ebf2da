-- What leaves the routers of all blocks, and what the links bring of it to the routers of one.
-- Router s of a network is router s % ROUTERS of block s / ROUTERS.
use Rattle.std.specs.Prelude.{◌≡◌, ℕ, ◌*◌, ◌/◌, ◌%◌, ◌<◌, List, [], length, map, slice_index, slice_index_or}
use Rattle.noc_packet.specs.Set.{has_bit}
use Rattle.noc_topo.specs.Shape.{Grid, IsGrid, local_port, nodes, opposite}
use Rattle.noc_sets.specs.Cycle.{Links as Left}
use Rattle.noc_sets.specs.Gather.{gathered}
use Rattle.noc_columns.specs.Places.{far_places}
use Rattle.noc_columns.specs.declared.channels.Links.{Links}
use Rattle.noc_columns.specs.declared.neighbours.Far.{Far}
use Rattle.noc_columns.specs.declared.ports.Ports.{Ports}
use Rattle.noc_columns.specs.declared.ports.RouterPorts.{RouterPorts}
use Rattle.noc_columns.specs.declared.words.TheConstants.{ROUTERS}
use Rattle.noc_cycles.specs.Around.{IsAround}
use Rattle.noc_cycles.specs.Held.{links_at}
use Rattle.noc_cycles.specs.declared.around.Around.{Around}
use Rattle.noc_cycles.specs.declared.pattern.Pattern.{Pattern}

-- a block with these tables has routers of a network
pub record IsWired (g : Grid) (pattern : Pattern) (around : Around) : Type 0 where
  pub sound : IsGrid g
  pub ports : pattern.table.ports.links.width ≡ local_port g
  pub block : ROUTERS * around.block < nodes g
  pub tables : IsAround g pattern.table.ports.links.vcs around.block around

-- ---- what leaves
-- the words of block b
abbrev pub left_by : List (Links (List ℕ)) → ℕ → Links (List ℕ)
left_by left b = slice_index_or left b (record { flits = []; tails = []; credits = [] })

-- these show what leaves a router by so many link channels
pub record ShowsLeft (links : ℕ) (words : Links ℕ) (left : Left) : Type 0 where
  pub flits : (o : ℕ) → o < links → has_bit words.flits o ≡ has_bit left.flits o
  pub tails : (o : ℕ) → o < links → has_bit words.tails o ≡ has_bit left.tails o
  pub credits : (o : ℕ) → o < links → has_bit words.credits o ≡ has_bit left.credits o

-- .. of all routers
abbrev pub ShowAllLeft : Grid → RouterPorts → List (Links (List ℕ)) → (ℕ → Left) → Type 0
ShowAllLeft g ports words left =
    (s : ℕ) → s < nodes g
    → ShowsLeft (ports.links.width * ports.links.vcs)
    (links_at ports (left_by words (s / ROUTERS)) (s % ROUTERS)) (left s)

-- ---- what comes of it
-- to router r
abbrev pub brought : Grid → ℕ → (ℕ → Left) → ℕ → Links ℕ
brought g vcs left r = record {
  flits = gathered g vcs (λ s. (left s).flits) r;
  tails = gathered g vcs (λ s. (left s).tails) r;
  credits = gathered g vcs (λ s. (left s).credits) r;
}

-- these neighbours all stand at the ends of links, in some of so many blocks
pub record AreLed (links : Ports) (count : ℕ) (far : List Far) : Type 0 where
  pub port : (j : ℕ) → j < length far
      → slice_index (map (λ (f : Far). f.port) far) j < links.width
  pub opposite : (j : ℕ) → j < length far
      → opposite (slice_index (map (λ (f : Far). f.port) far) j) < links.width
  pub blocks : (j : ℕ) → j < length far → (far_places far).block j < count
