use Rattle.std.proofs.Common.{◌<◌, ◌≤◌, ◌+◌, ℕ, ap, sym, subst, ◌∙◌, arith}
use Rattle.noc_topo.specs.Shape.{nodes}
use Rattle.noc_theory.specs.declared.limits.TheConstants.{CYCLE_LIMIT}
use Rattle.noc_theory.specs.Core.{CoreState, steps_at}
use Rattle.noc_theory.specs.Good.{IsGoodSetup}
use Rattle.noc_net.proofs.StoredLemmas.{post_of_room, steps_there}
use Rattle.noc_net.proofs.event_core.Core.steps.Goals as goal

pub returns-clause-value : goal.returns-clause-value
returns-clause-value c =
    let l : c.args.router < nodes c.self.inside.parts.relation.grid = subst (λ (k : CoreState). c.args.router < nodes k.net.relation.grid) (sym c.self.view_is) c.requires in
    steps_there c.self.inside.parts c.self.invariant.in_step c.self.invariant.routers c.self.invariant.room c.args.router l c.index.result.now c.index.ensures
    ∙ ap (λ (k : CoreState). steps_at k c.args.router) c.self.view_is

at_most : (steps more : ℕ) → steps + more ≤ CYCLE_LIMIT → steps ≤ CYCLE_LIMIT
at_most steps more l = omega arith

pub returns-clause-within : goal.returns-clause-within
returns-clause-within c =
    let l : c.args.router < nodes c.self.inside.parts.relation.grid = subst (λ (k : CoreState). c.args.router < nodes k.net.relation.grid) (sym c.self.view_is) c.requires in
    let at = post_of_room c.self.inside.parts c.self.invariant.in_step c.self.invariant.routers c.self.invariant.room c.args.router l c.index.result.now c.index.ensures in
    at_most c.index.result.now.steps _ (c.self.invariant.within c.args.router _ at.1)

pub returns-clause-good : goal.returns-clause-good
returns-clause-good c = subst (λ (k : CoreState). IsGoodSetup k.net) c.self.view_is c.self.invariant.good
