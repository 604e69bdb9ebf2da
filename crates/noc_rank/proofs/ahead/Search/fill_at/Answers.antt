use Rattle.std.proofs.Common.{◌≡◌, ap, subst, arith}
use Rattle.noc_topo.specs.Shape.{nodes}
use Rattle.noc_rank.specs.Filled.{IsFilled}
use Rattle.noc_rank.proofs.AheadLemmas.{least-next_distance}
use Rattle.noc_rank.proofs.ahead.Search.fill_at.Goals as goal

pub returns : goal.returns
returns c =
    let s = c.args.self.now in
    let least = c.loop-router.least in
    let last : c.loop-router.router ≡ nodes s.relation.now.grid = omega (arith, c.loop-router-test.false, c.loop-router.auto.router-end, c.nodes-router-end.ensures.value, ap nodes c.shape.ensures.value) in
    least-next_distance s c.shape.ensures.built c.args.distance least (subst (λ b. IsFilled s c.args.distance b 0 least) last c.loop-router.invariant)
