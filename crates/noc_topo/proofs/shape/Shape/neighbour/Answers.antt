use Rattle.std.proofs.Common.{◌≡◌, ◌/◌, ◌∙◌, ◌<◌, Some, None, sym, arith, get_or}
use Rattle.noc_topo.specs.Shape.{IsGrid, neighbour, coordinates, moved_in, is_plus}
use Rattle.noc_topo.proofs.ShapeLemmas.{stepped-none, stepped-some, sizes-stored, length-stored, coordinate-below, changed-below}
use Rattle.noc_topo.proofs.LinkLemmas.{link_back}
use Rattle.noc_topo.proofs.shape.Shape.neighbour.Goals as goal

pub moved-requires : goal.moved-requires
moved-requires c =
    let below : c.args.port / 2 < 3 = omega arith in
    rw c.split-coordinates.ensures (coordinate-below c.self.inside.sizes c.args.node (c.args.port / 2) (length-stored c.self.inside c.self.invariant) below (sizes-stored c.self.inside c.self.invariant))

pub returns-in_err-coordinates-clause-value : goal.returns-in_err-coordinates-clause-value
returns-in_err-coordinates-clause-value c =
    let none : moved_in c.self.inside.wraps (get_or c.self.inside.sizes (c.args.port / 2) 0) (is_plus c.args.port) (get_or (coordinates c.self.inside.sizes c.args.node) (c.args.port / 2) 0) ≡ None
    = rw (← c.split-coordinates.ensures) (sym c.moved.ensures.value ∙ c.in_err-coordinates.was) in
    c.from_residual.ensures ∙ stepped-none c.self.inside _ c.self.view_is c.self.invariant c.args.node c.args.port (omega arith) none

pub join-requires-clause-sizes : goal.join-requires-clause-sizes
join-requires-clause-sizes c = λ i l. (sizes-stored c.self.inside c.self.invariant i (omega (arith, length-stored c.self.inside c.self.invariant))).1

pub join-requires-clause-coordinates : goal.join-requires-clause-coordinates
join-requires-clause-coordinates c =
    let below : c.args.port / 2 < 3 = omega arith in
    rw c.split-coordinates.ensures (λ i l. changed-below c.self.inside c.self.invariant c.args.node (c.args.port / 2) c.in_ok-coordinates.field-0 i below c.in_ok-coordinates.ensures.below l)

found : (c : goal.After-other_end) → Some (c.join.result, c.other_end.result) ≡ neighbour c.args.self.now c.args.node c.args.port
found c =
    let some : moved_in c.self.inside.wraps (get_or c.self.inside.sizes (c.args.port / 2) 0) (is_plus c.args.port) (get_or (coordinates c.self.inside.sizes c.args.node) (c.args.port / 2) 0) ≡ Some c.in_ok-coordinates.field-0
    = rw (← c.split-coordinates.ensures) (sym c.moved.ensures.value ∙ c.in_ok-coordinates.was) in
    rw (c.join.ensures, c.other_end.ensures, c.split-coordinates.ensures) (stepped-some c.self.inside _ c.self.view_is c.self.invariant c.args.node c.args.port c.in_ok-coordinates.field-0 (omega arith) some)

pub returns-clause-value : goal.returns-clause-value
returns-clause-value c = found c

pub returns-clause-range : goal.returns-clause-range
returns-clause-range c =
    let sound : IsGrid c.args.self.now = rw (← c.self.view_is) c.self.invariant.shape in
    let back = link_back c.args.self.now c.args.node c.args.port c.join.result c.other_end.result sound c.requires.node (sym (found c)) in
    (back.node, back.port)
