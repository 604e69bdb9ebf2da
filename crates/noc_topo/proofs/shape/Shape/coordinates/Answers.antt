use Rattle.std.proofs.Common.{◌<◌, ◌∙◌, arith}
use Rattle.noc_topo.proofs.ShapeLemmas.{coordinates-stored, coordinate-below, sizes-stored, length-stored, length-coordinates}
use Rattle.noc_topo.proofs.shape.Shape.coordinates.Goals as goal

pub returns-clause-value : goal.returns-clause-value
returns-clause-value c = c.split.ensures ∙ coordinates-stored c.self.inside _ c.self.view_is c.self.invariant c.args.node

pub returns-clause-range : goal.returns-clause-range
returns-clause-range c =
    rw c.split.ensures
    (λ i l.
    let three = length-stored c.self.inside c.self.invariant in
    let inside : i < 3 = omega (arith, length-coordinates c.self.inside.sizes c.args.node, three) in
    let size = sizes-stored c.self.inside c.self.invariant i inside in
    omega (arith, coordinate-below c.self.inside.sizes c.args.node i three inside (sizes-stored c.self.inside c.self.invariant)))
