use Rattle.std.proofs.Common.{◌≡◌, subst, arith}
use Rattle.noc_rank.specs.Filled.{IsFilled}
use Rattle.noc_rank.proofs.AheadLemmas.{least-end}
use Rattle.noc_rank.proofs.ahead.Search.fill_least.Goals as goal

pub returns : goal.returns
returns c =
    let s = c.args.self.now in
    let least = c.loop-distance.least in
    let last : c.loop-distance.distance ≡ 31 = omega (arith, c.loop-distance-test.false, c.loop-distance.auto.distance-end) in
    least-end s c.requires.built least (subst (λ d. IsFilled s d 0 0 least) last c.loop-distance.invariant)
