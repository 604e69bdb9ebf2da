use Rattle.std.proofs.Common.{◌≡◌, ◌<◌, Option, Some, option_map, ap, sym, subst, ◌∙◌}
use Rattle.noc_topo.specs.Shape.{nodes}
use Rattle.noc_theory.specs.Core.{CoreState, Post, view_of_post}
use Rattle.noc_net.specs.Stored.{core_in}
use Rattle.noc_net.proofs.StoredLemmas.{post_of_router}
use Rattle.noc_net.proofs.event_core.Core.findings.Goals as goal

pub returns : goal.returns
returns c =
    let parts = c.self.inside.parts in
    let l : c.args.router < nodes c.self.inside.parts.relation.grid = subst (λ (k : CoreState). c.args.router < nodes k.net.relation.grid) (sym c.self.view_is) c.requires in
    let at = post_of_router parts c.self.invariant.in_step c.self.invariant.routers c.self.invariant.room c.args.router l c.index.result.now c.index.ensures in
    let here : view_of_post (core_in parts) c.args.router ≡ Some c.index.result.now = ap (λ (o : Option Post). option_map (λ (post : Post). post.view) o) at.1 in
    (c.index.result.now, sym (ap (λ (k : CoreState). view_of_post k c.args.router) c.self.view_is) ∙ here, c.findings.ensures)
