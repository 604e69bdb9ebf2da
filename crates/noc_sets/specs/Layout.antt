-- What is the same for all routers of a network: the channels of their links and of their local
-- port, and how many flits a buffer holds.
use Rattle.std.specs.Prelude.{ℕ, ◌*◌, ◌≤◌, List}
use Rattle.noc_topo.specs.Shape.{ports}
use Rattle.noc_route.specs.Routes.{Routes}
use Rattle.noc_sets.specs.Opening.{AreSides}
use Rattle.noc_sets.specs.Planes.{AreAll}

pub record Layout : Type 0 where
  pub links : ℕ
  pub local : ℕ
  pub places : List ℕ  -- bit by bit, of each channel

-- it is that of a relation and so many places in each buffer, in planes of so many bits
pub record IsLayoutOf (count : ℕ) (relation : Routes) (places : ℕ) (layout : Layout) : Type 0 where
  pub sides : AreSides relation.grid relation.vcs layout.links layout.local
  pub all : AreAll count (ports relation.grid * relation.vcs) places layout.places
  pub few : ports relation.grid * relation.vcs ≤ 63
