use Rattle.std.proofs.Common.{◌*◌, ◌∙◌, ap₂, arith, sym}
use Rattle.noc_columns.proofs.PlaceLemmas.{product-few, product-next, step-few}
use Rattle.noc_columns.proofs.places.stride_of.Goals as goal

pub overflow_mul-stride : goal.overflow_mul-stride
overflow_mul-stride c =
    let few = c.radix-stride.ensures.grid.few_dimensions in
    let l = step-few c.loop-lower.stride c.radix-stride.result c.loop-lower.lower (omega (arith, few, c.requires)) c.loop-lower.invariant.few c.radix-stride.ensures.few in
    omega (arith, l)

pub loop-lower-preserved : goal.loop-lower-preserved
loop-lower-preserved c = record {
  is = ap₂ (λ m n. m * n) c.loop-lower.invariant.is c.radix-stride.ensures.value ∙ sym (product-next c.args.shape.now.radix c.loop-lower.lower (omega (arith, c.requires)));
  few = product-few c.loop-lower.stride c.radix-stride.result c.loop-lower.lower c.loop-lower.invariant.few c.radix-stride.ensures.few;
}
