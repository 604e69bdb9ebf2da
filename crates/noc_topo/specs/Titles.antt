-- The number and the name of a fault of a shape (docs/FORMATS.md, "Fault lines").
use Rattle.std.specs.Prelude.{ℕ, List, codes}
use Rattle.noc_topo.specs.declared.shape.ShapeFault.{ShapeFault}
use Rattle.noc_topo.specs.declared.shape.ShapeFault.TheVariants as shape

abbrev pub shape_title : ShapeFault → List ℕ
shape_title shape.BadDimensions = codes "1 BadDimensions"
shape_title shape.BadRadix = codes "2 BadRadix"
shape_title shape.TooManyNodes = codes "3 TooManyNodes"
