use Rattle.std.proofs.Common.{◌≡◌, ℕ, [], length, get_or, subst, arith}
use Rattle.noc_view.specs.View.{View}
use Rattle.noc_theory.specs.Halves.{incoming, view_after_decide}
use Rattle.noc_theory.proofs.runs.ListLemmas.{IsDoneTo, done_all}
use Rattle.noc_net.proofs.cycles.decide_all.Goals as goal

pub returns-clause-routers : goal.returns-clause-routers
returns-clause-routers c =
    let first_half = λ (r : ℕ) (v : View). view_after_decide c.args.relation.now c.args.cycle (incoming c.args.relation.now.grid (get_or c.args.beats.now r [])) v in
    let end : c.loop-node.node ≡ length c.args.routers.now = omega (arith, c.loop-node.auto.node-end) in
    done_all first_half c.args.routers.now c.loop-node.routers
    (subst (λ (k : ℕ). IsDoneTo first_half c.args.routers.now c.loop-node.routers k) end c.loop-node.invariant.routers)
