use Rattle.std.proofs.Common.{◌-◌, ◌≤◌, arith}
use Rattle.noc_columns.proofs.PlaceLemmas.{step-few}
use Rattle.noc_columns.proofs.places.step_of.Goals as goal

pub overflow_mul-result : goal.overflow_mul-result
overflow_mul-result c =
    let few = c.radix.ensures.grid.few_dimensions in
    let small : c.radix.result - 1 ≤ 16 = omega (arith, c.radix.ensures.few) in
    let l = step-few c.stride_of-stride.result (c.radix.result - 1) c.args.dimension (omega (arith, few, c.requires)) c.stride_of-stride.ensures.few small in
    omega (arith, l)
