use Rattle.std.proofs.Common.{◌≡◌, ◌≤◌, ◌∙◌, arith}
use Rattle.noc_topo.specs.Shape.{nodes}
use Rattle.noc_topo.proofs.LinkLemmas.{nodes-some}
use Rattle.noc_topo.proofs.ShapeLemmas.{product-stored}
use Rattle.noc_topo.proofs.shape.Shape.nodes.Goals as goal

pub returns-clause-value : goal.returns-clause-value
returns-clause-value c = c.volume.ensures ∙ product-stored c.self.inside _ c.self.view_is c.self.invariant

pub returns-clause-some : goal.returns-clause-some
returns-clause-some c =
    let count : c.volume.result ≡ nodes c.args.self.now = c.volume.ensures ∙ product-stored c.self.inside _ c.self.view_is c.self.invariant in
    omega (arith, nodes-some c.args.self.now (rw (← c.self.view_is) c.self.invariant.shape))

pub returns-clause-few : goal.returns-clause-few
returns-clause-few c =
    let count : c.volume.result ≡ nodes c.args.self.now = c.volume.ensures ∙ product-stored c.self.inside _ c.self.view_is c.self.invariant in
    let small : nodes c.args.self.now ≤ 256 = rw (← c.self.view_is) c.self.invariant.shape.few_nodes in
    omega arith
