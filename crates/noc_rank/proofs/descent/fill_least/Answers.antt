use Rattle.std.proofs.Common.{◌≡◌, ◌/◌, ◌%◌, ◌*◌, ◌<◌, ◌∙◌, ap, arith, refl, subst, sym}
use Rattle.noc_topo.specs.Shape.{nodes}
use Rattle.noc_rank.specs.LeastAhead.{AreAllLeast}
use Rattle.noc_rank.proofs.OverLemmas.{pair-class, pair-dst}
use Rattle.noc_rank.proofs.descent.fill_least.Goals as goal

pub nonzero_div-search : goal.nonzero_div-search
nonzero_div-search c = omega (arith, c.nodes-nodes.ensures.some)

pub invariant_of-search-clause-class_exists : goal.invariant_of-search-clause-class_exists
invariant_of-search-clause-class_exists c =
    let routes = c.args.list.now.relation.now in
    let count : c.nodes-nodes.result ≡ nodes routes.grid = c.nodes-nodes.ensures.value ∙ ap nodes c.shape.ensures.value in
    let below : c.args.number < routes.classes * c.nodes-nodes.result = subst (λ k. c.args.number < routes.classes * k) (sym count) c.requires.number in
    pair-class routes routes.classes c.nodes-nodes.result c.args.number refl count c.nodes-nodes.ensures.some below

pub invariant_of-search-clause-dst_exists : goal.invariant_of-search-clause-dst_exists
invariant_of-search-clause-dst_exists c = pair-dst c.args.list.now.relation.now c.nodes-nodes.result c.args.number (c.nodes-nodes.ensures.value ∙ ap nodes c.shape.ensures.value) c.nodes-nodes.ensures.some

pub returns : goal.returns
returns c =
    let list = c.args.list.now in
    let routes = list.relation.now in
    let count : c.nodes-nodes.result ≡ nodes routes.grid = c.nodes-nodes.ensures.value ∙ ap nodes c.shape.ensures.value in
    subst (λ k. AreAllLeast routes list.ranks.now c.args.marks.now (c.args.number / k) (c.args.number % k) c.fill_least.new.least) count c.fill_least.ensures
