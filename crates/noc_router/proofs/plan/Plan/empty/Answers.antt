use Rattle.std.proofs.Common.{ap, arith, ◌∙◌}
use Rattle.noc_topo.specs.Shape.{ports}
use Rattle.noc_router.specs.Decided.{empty_plan_contents}
use Rattle.noc_router.proofs.PlannedLemmas.{empty-plan}
use Rattle.noc_router.proofs.plan.Plan.empty.Goals as goal

pub returns : goal.returns
returns c =
    let m = c.ports-ports.result in
    let vcs = c.vcs.result in
    empty-plan m vcs c.empty.result (omega arith) (grind arith) c.empty.ensures.bits
    ∙ ap (λ n. empty_plan_contents n vcs) (c.ports-ports.ensures.value ∙ ap ports c.shape.ensures.value) ∙ ap (empty_plan_contents (ports c.args.relation.now.grid)) c.vcs.ensures.value
