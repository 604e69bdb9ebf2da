use Rattle.std.proofs.Common.{◌<◌, get_or, arith}
use Rattle.noc_rank.proofs.FormulaLemmas.{coordinate-inside}
use Rattle.noc_rank.proofs.generated.axis_of.Goals as goal

pub invariant_of-result : goal.invariant_of-result
invariant_of-result c =
    let g = c.args.shape.now in
    let i = c.args.dimension in
    let inside = coordinate-inside g c.args.router i c.radix.ensures.grid c.requires.dimension in
    let below : get_or c.coordinates.result i 0 < get_or g.radix i 0 = rw c.coordinates.ensures.value inside.0 in
    record { inside = omega (arith, c.radix.ensures.value, below); few = omega (arith, c.radix.ensures.few) }
