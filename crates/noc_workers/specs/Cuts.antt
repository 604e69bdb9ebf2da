-- A network cut into tiles that stand side by side, each with a worker that runs it.
use Rattle.std.specs.Prelude.{◌≡◌, ℕ, ◌+◌, ◌/◌, ◌<◌, ◌≤◌, true, false, List, [], ◌∷◌, Contains, Some, length}
use Rattle.noc_topo.specs.Shape.{neighbour, nodes}
use Rattle.noc_theory.specs.Good.{IsGoodSetup}
use Rattle.noc_theory.specs.Network.{Setup}
use Rattle.noc_columns.specs.declared.words.TheConstants.{ROUTERS}
use Rattle.noc_workers.specs.Rounds.{Start}
use Rattle.noc_engine.specs.Shows.{IsPlanOf, has_block, has_router}
use Rattle.noc_engine.specs.Tiles.{Shows}
use Rattle.noc_workers.specs.Workers.{AreReady, HasNear, IsWorkerAt, MayRunFrom}
use Rattle.noc_engine.specs.declared.plan.Plan.{Plan}
use Rattle.noc_workers.specs.declared.post.Post.{Post}
use Rattle.noc_engine.specs.declared.tile.Tile.{Tile}
use Rattle.noc_workers.specs.declared.fork.Stretch.{Stretch}
use Rattle.noc_workers.specs.declared.worker.Worker.{Worker}

-- ---- rings between two tiles
-- of the blocks of one tile these are all from which links lead to another
abbrev pub HasAllNear : Plan → Tile → Tile → List ℕ → Type 0
HasAllNear plan here there near =
    (net : Setup) (s q r port : ℕ) → IsGoodSetup net → IsPlanOf net plan
    → r < nodes net.relation.grid → has_router there r ≡ true
    → neighbour net.relation.grid r q ≡ Some (s, port) → has_router here s ≡ true
    → Contains near (s / ROUTERS)

-- the rings of a tile with those to another one: by them tell all blocks of that one from which
-- links lead to it
pub record MeetsMore (start : Start) (own other : Tile) (old new : List Post) : Type 0 where
  pub ready : AreReady start (has_block own) 0 old → AreReady start (has_block own) 0 new
  pub kept : (b : ℕ) → HasNear old b → HasNear new b
  pub more : (s q r port : ℕ) → r < nodes start.net.relation.grid → has_router own r ≡ true
      → neighbour start.net.relation.grid r q ≡ Some (s, port) → has_router other s ≡ true
      → HasNear new (s / ROUTERS)

-- ---- workers side by side
-- their tiles have the blocks from this one up to that one, and this is so of each of them
abbrev pub AreSide : (Worker → Type 0) → ℕ → ℕ → List Worker → Type 0
AreSide Is from to [] = from ≡ to
AreSide Is from to (one ∷ rest) =
    (one.tile.first ≡ from) × Is one × AreSide Is (from + length one.tile.blocks.items) to rest

-- a worker before the first cycle of a run: it has rings to those of the blocks from this one up to
-- that one from which links lead to its tile
pub record IsNew (start : Start) (from to : ℕ) (one : Worker) : Type 0 where
  pub shows : Shows start.net start.plan start.cycle one.tile
  pub some : 0 < length one.tile.blocks.items
  pub posts : AreReady start (has_block one.tile) 0 one.posts.items
  pub near : (s q r port : ℕ) → r < nodes start.net.relation.grid → has_router one.tile r ≡ true
      → neighbour start.net.relation.grid r q ≡ Some (s, port) → has_router one.tile s ≡ false
      → from ≤ s / ROUTERS → s / ROUTERS < to → HasNear one.posts.items (s / ROUTERS)

-- .. each, where they have all blocks from this one on
abbrev pub AreNew : Start → ℕ → List Worker → Type 0
AreNew start from workers =
    AreSide (IsNew start from (length start.plan.around.items)) from
    (length start.plan.around.items) workers

-- each may run so many cycles more after `done` of a run
abbrev pub AllMayRun : Start → ℕ → ℕ → ℕ → ℕ → List Worker → Type 0
AllMayRun start done more = AreSide (MayRunFrom start done more)

-- each that came back whole has run so many
abbrev pub AllHaveRun : Start → ℕ → ℕ → ℕ → List Worker → Type 0
AllHaveRun start cycles =
    AreSide (λ one. one.is_whole ≡ true → IsWorkerAt start cycles one)

-- they may run a stretch, and have run it
abbrev pub MayRunStretch : Start → Stretch → List Worker → Type 0
MayRunStretch start stretch = AllMayRun start stretch.done stretch.more stretch.from stretch.to

abbrev pub HaveRunStretch : Start → Stretch → List Worker → Type 0
HaveRunStretch start stretch =
    AllHaveRun start (stretch.done + stretch.more) stretch.from stretch.to

-- a stretch of some workers, and that of those after them
pub record AreHalves (here there : Stretch) : Type 0 where
  pub meet : here.to ≡ there.from
  pub done_alike : there.done ≡ here.done
  pub more_alike : there.more ≡ here.more

-- each shows the network at count n
abbrev pub AllShow : Setup → Plan → ℕ → ℕ → ℕ → List Worker → Type 0
AllShow net plan n = AreSide (λ one. Shows net plan n one.tile)
