use Rattle.std.proofs.Common.{◌≡◌, ◌+◌, ◌*◌, arith}
use Rattle.noc_columns.specs.Places.{stands_in}
use Rattle.noc_columns.proofs.PlaceLemmas.{mask-all, mask-next}
use Rattle.noc_columns.proofs.places.mask_of.Goals as goal

pub loop-r-preserved : goal.loop-r-preserved
loop-r-preserved c =
    mask-next c.loop-r.mask c.alone_if-mask.result c.loop-r.r c.stands_in-inside.result (λ k. stands_in c.args.shape.now (64 * c.args.block + k) c.args.port c.args.round c.args.to)
    c.loop-r.invariant c.alone_if-mask.ensures c.stands_in-inside.ensures

pub returns : goal.returns
returns c = λ r few.
    let all : c.loop-r.r ≡ 64 = omega arith in
    mask-all c.loop-r.r c.loop-r.mask (λ k. stands_in c.args.shape.now (64 * c.args.block + k) c.args.port c.args.round c.args.to) c.loop-r.invariant all r few
