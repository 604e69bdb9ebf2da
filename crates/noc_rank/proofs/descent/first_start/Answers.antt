use Rattle.std.proofs.Common.{◌≡◌, ◌*◌, ◌/◌, ◌%◌, ◌<◌, ◌∙◌, ap, arith, refl, subst}
use Rattle.noc_topo.specs.Shape.{nodes}
use Rattle.noc_rank.specs.NotRisingTo.{IsStartBy}
use Rattle.noc_rank.proofs.DescentLemmas.{start-by}
use Rattle.noc_rank.proofs.OverLemmas.{over-more, over-all, pairs-few}
use Rattle.noc_rank.proofs.descent.first_start.Goals as goal

pub loop-number-preserved : goal.loop-number-preserved
loop-number-preserved c =
    let list = c.args.list.now in
    let routes = list.relation.now in
    let built = c.shape.ensures.built in
    let i = c.loop-number.number in
    let k = nodes routes.grid in
    let least = c.fill_least.new.least in
    let value = start-by list built (i / k) (i % k) least c.start_in.result c.fill_least.ensures c.start_in.ensures in
    rw c.lesser-first.ensures (over-more routes (IsStartBy routes list.ranks.now) k i c.loop-number.first c.start_in.result refl c.loop-number.invariant value)

pub overflow_mul-number-end : goal.overflow_mul-number-end
overflow_mul-number-end c = omega (arith, pairs-few c.classes.result c.nodes.result (omega (arith, c.classes.ensures.value, c.classes.ensures.built.table.few_classes)) c.nodes.ensures.few)

pub fill_least-requires-clause-number : goal.fill_least-requires-clause-number
fill_least-requires-clause-number c =
    let routes = c.args.list.now.relation.now in
    let count : c.nodes.result ≡ nodes routes.grid = c.nodes.ensures.value ∙ ap nodes c.shape.ensures.value in
    subst (λ k. c.loop-number.number < routes.classes * k) count (subst (λ m. c.loop-number.number < m * c.nodes.result) c.classes.ensures.value c.loop-number-test.true)

pub returns : goal.returns
returns c =
    let routes = c.args.list.now.relation.now in
    let last : c.loop-number.number ≡ c.classes.result * c.nodes.result = omega (arith, c.loop-number-test.false, c.loop-number.auto.number-end) in
    over-all routes (IsStartBy routes c.args.list.now.ranks.now) c.classes.result c.nodes.result c.loop-number.number c.loop-number.first c.classes.ensures.value (c.nodes.ensures.value ∙ ap nodes c.shape.ensures.value) last c.loop-number.invariant
