use Rattle.std.proofs.Common.{◌≡◌, ◌*◌, ◌∙◌, refl, ap, arith}
use Rattle.noc_topo.specs.Shape.{local_port}
use Rattle.noc_rank.specs.LeastAhead.{outputs}
use Rattle.noc_rank.proofs.AheadLemmas.{output-inside, least-member}
use Rattle.noc_rank.proofs.ahead.Search.least_of.Goals as goal

pub counted-value-requires-clause-within : goal.counted-value-requires-clause-within
counted-value-requires-clause-within c =
    let s = c.args.self.now in
    let routes = s.relation.now in
    let count : c.link_ports.result * c.vcs.result ≡ outputs routes
    = ap (λ x. x * c.vcs.result) (c.link_ports.ensures.value ∙ ap local_port c.shape.ensures.value) ∙ ap (λ x. local_port routes.grid * x) c.vcs.ensures.value in
    rw count (omega (arith, s.all_ranks, c.requires.least, output-inside routes c.args.router c.loop-index.index c.requires.router (omega (arith, count, c.loop-index-test.true))))

pub loop-index-preserved : goal.loop-index-preserved
loop-index-preserved c =
    let s = c.args.self.now in
    let routes = s.relation.now in
    let count : c.link_ports.result * c.vcs.result ≡ outputs routes
    = ap (λ x. x * c.vcs.result) (c.link_ports.ensures.value ∙ ap local_port c.shape.ensures.value) ∙ ap (λ x. local_port routes.grid * x) c.vcs.ensures.value in
    rw c.lesser-best.ensures (least-member routes s.ranks.now s.marks.now c.args.least.now c.args.router c.args.set c.loop-index.index c.loop-index.best c.counted-value.result c.loop-index.invariant (c.counted-value.ensures ∙ rw count refl))
