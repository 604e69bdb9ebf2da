-- How a shape is stored: three sizes, 1 where a dimension is missing, and the count of dimensions.
use Rattle.std.specs.Prelude.{◌≡◌, ◌≤◌, length, take}
use Rattle.noc_topo.specs.declared.shape.Shape.TheInside.{Inside}
use Rattle.noc_topo.specs.Shape.{Grid, IsGrid}
use Rattle.noc_topo.specs.Filled.{three_sizes}

abbrev pub grid_of : Inside → Grid
grid_of s = record { wraps = s.wraps; radix = take s.count s.sizes }

pub record IsSound (s : Inside) : Type 0 where
  pub fits : s.count ≤ length s.sizes
  pub missing : three_sizes (take s.count s.sizes) ≡ s.sizes
  pub shape : IsGrid (grid_of s)

abbrev pub shape_with : Grid → Inside
shape_with g = record { wraps = g.wraps; sizes = three_sizes g.radix; count = length g.radix }
