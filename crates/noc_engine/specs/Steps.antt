-- One cycle of a network of blocks.
use Rattle.std.specs.Prelude.{◌≡◌, ℕ, ◌<◌, length}
use Rattle.noc_route.specs.Routes.{Routes}
use Rattle.noc_sets.specs.Cycle.{Router}
use Rattle.noc_theory.specs.Network.{Setup}
use Rattle.noc_theory.specs.declared.limits.TheConstants.{CYCLE_LIMIT}
use Rattle.noc_engine.specs.Origins.{net_in}
use Rattle.noc_engine.specs.Shows.{ShowsAt}
use Rattle.noc_engine.specs.Tiles.{HasStepped as TileStepped}
use Rattle.noc_engine.specs.declared.columns.Columns.{Columns}

-- it may run cycle n by this relation, where these are the words of its routers
pub record MayStep (net : Setup) (relation : Routes) (n : ℕ) (words : ℕ → Router) (all : Columns)
    : Type 0 where
  pub is : net.relation ≡ relation
  pub few : n < CYCLE_LIMIT
  pub shows : ShowsAt net n words all

-- it has run it: these are the words of its routers then
pub record HasStepped (net : Setup) (n : ℕ) (words next : ℕ → Router) (old new : Columns)
    : Type 0 where
  pub origin_stays : new.origin ≡ old.origin
  pub plan_stays : new.plan ≡ old.plan
  pub found_are : length new.found.items ≡ length old.found.items
  pub tile : TileStepped net old.plan n words next old.tile new.tile

-- it has run one, by this relation
pub record HasRunCycle (relation : Routes) (old new : Columns) : Type 0 where
  pub words : ℕ → Router
  pub next : ℕ → Router
  pub may : MayStep (net_in old.origin) relation old.tile.cycle words old
  pub stepped : HasStepped (net_in old.origin) old.tile.cycle words next old new
