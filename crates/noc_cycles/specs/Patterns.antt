-- What the routers of a network have alike, made of its shape.
use Rattle.std.specs.Prelude.{◌≡◌, ℕ, ◌<◌}
use Rattle.noc_topo.specs.Shape.{Grid, local_port}
use Rattle.noc_sets.specs.Planes.{plane_number}
use Rattle.noc_columns.specs.Planes.{list_of}
use Rattle.noc_columns.specs.declared.words.TheConstants.{ROUTERS}
use Rattle.noc_cycles.specs.declared.pattern.Pattern.{Pattern}

-- of a shape, where a port has so many virtual channels, and each buffer of the routers of a block
-- so many places
pub record IsPatternOf (g : Grid) (vcs places : ℕ) (pattern : Pattern) : Type 0 where
  pub width : pattern.table.ports.links.width ≡ local_port g
  pub vcs_are : pattern.table.ports.links.vcs ≡ vcs
  pub places_are : (r : ℕ) → r < ROUTERS
      → plane_number (list_of pattern.frame.deep pattern.frame.places) r ≡ places
