use Rattle.std.proofs.Common.{arith, subst}
use Rattle.noc_topo.specs.Shape.{IsGrid}
use Rattle.noc_topo.proofs.DistanceLemmas.{distance-bound}
use Rattle.noc_topo.proofs.ShapeLemmas.{distance-stored, sizes-stored, split-below}
use Rattle.noc_topo.proofs.shape.Shape.distance.Goals as goal

pub split-x-requires-clause-first : goal.split-x-requires-clause-first
split-x-requires-clause-first c = (sizes-stored c.self.inside c.self.invariant 0 (omega arith)).0

pub split-x-requires-clause-second : goal.split-x-requires-clause-second
split-x-requires-clause-second c = (sizes-stored c.self.inside c.self.invariant 1 (omega arith)).0

pub split-x-requires-clause-third : goal.split-x-requires-clause-third
split-x-requires-clause-third c = (sizes-stored c.self.inside c.self.invariant 2 (omega arith)).0

pub split-t-requires-clause-first : goal.split-t-requires-clause-first
split-t-requires-clause-first c = (sizes-stored c.self.inside c.self.invariant 0 (omega arith)).0

pub split-t-requires-clause-second : goal.split-t-requires-clause-second
split-t-requires-clause-second c = (sizes-stored c.self.inside c.self.invariant 1 (omega arith)).0

pub split-t-requires-clause-third : goal.split-t-requires-clause-third
split-t-requires-clause-third c = (sizes-stored c.self.inside c.self.invariant 2 (omega arith)).0

pub apart-requires-clause-x : goal.apart-requires-clause-x
apart-requires-clause-x c = split-below c.self.inside c.split-x.result c.args.from 0 c.self.invariant c.split-x.ensures (omega arith)

pub apart-requires-clause-t : goal.apart-requires-clause-t
apart-requires-clause-t c = split-below c.self.inside c.split-t.result c.args.to 0 c.self.invariant c.split-t.ensures (omega arith)

pub apart-requires-2-clause-x : goal.apart-requires-2-clause-x
apart-requires-2-clause-x c = split-below c.self.inside c.split-x.result c.args.from 1 c.self.invariant c.split-x.ensures (omega arith)

pub apart-requires-2-clause-t : goal.apart-requires-2-clause-t
apart-requires-2-clause-t c = split-below c.self.inside c.split-t.result c.args.to 1 c.self.invariant c.split-t.ensures (omega arith)

pub apart-requires-3-clause-x : goal.apart-requires-3-clause-x
apart-requires-3-clause-x c = split-below c.self.inside c.split-x.result c.args.from 2 c.self.invariant c.split-x.ensures (omega arith)

pub apart-requires-3-clause-t : goal.apart-requires-3-clause-t
apart-requires-3-clause-t c = split-below c.self.inside c.split-t.result c.args.to 2 c.self.invariant c.split-t.ensures (omega arith)

pub overflow_add-result : goal.overflow_add-result
overflow_add-result c =
    let first = sizes-stored c.self.inside c.self.invariant 0 (omega arith) in
    let second = sizes-stored c.self.inside c.self.invariant 1 (omega arith) in
    omega (arith, first.1, second.1, c.apart.ensures.below, c.apart-2.ensures.below)

pub overflow_add-result-2 : goal.overflow_add-result-2
overflow_add-result-2 c =
    let first = sizes-stored c.self.inside c.self.invariant 0 (omega arith) in
    let second = sizes-stored c.self.inside c.self.invariant 1 (omega arith) in
    let third = sizes-stored c.self.inside c.self.invariant 2 (omega arith) in
    omega (arith, first.1, second.1, third.1, c.apart.ensures.below, c.apart-2.ensures.below, c.apart-3.ensures.below)

pub returns-clause-value : goal.returns-clause-value
returns-clause-value c =
    rw (c.apart.ensures.value, c.apart-2.ensures.value, c.apart-3.ensures.value, c.split-x.ensures, c.split-t.ensures)
    (distance-stored c.self.inside _ c.self.view_is c.self.invariant c.args.from c.args.to)

pub returns-clause-bound : goal.returns-clause-bound
returns-clause-bound c =
    let far = distance-bound c.args.self.now c.args.from c.args.to (subst IsGrid c.self.view_is c.self.invariant.shape) in
    omega (arith, returns-clause-value c, far)

pub returns-clause-grid : goal.returns-clause-grid
returns-clause-grid c = subst IsGrid c.self.view_is c.self.invariant.shape
