use Rattle.std.proofs.Common.{◌≡◌, ◌/◌, ◌<◌, ℕ, sym, ap, subst, ◌∙◌, arith}
use Rattle.noc_topo.specs.Shape.{nodes, ports}
use Rattle.noc_route.proofs.EntryLemmas.{pair-second}
use Rattle.noc_rank.proofs.FallLemmas.{class-below, first_at-match}
use Rattle.noc_rank.proofs.rising.first_at.Goals as goal

pub invariant_of-arrival-clause-class_exists : goal.invariant_of-arrival-clause-class_exists
invariant_of-arrival-clause-class_exists c =
    let vcs : c.vcs-vcs.result ≡ c.args.ranked.now.ranks.now.vcs = c.vcs-vcs.ensures.value ∙ c.args.ranked.now.vcs in
    let port : c.ports-ports.result ≡ ports c.args.ranked.now.ranks.now.grid = c.ports-ports.ensures.value ∙ ap ports (c.shape.ensures.value ∙ c.args.ranked.now.grid) in
    let node : c.nodes-nodes.result ≡ nodes c.args.ranked.now.ranks.now.grid = c.nodes-nodes.ensures.value ∙ ap nodes (c.shape-2.ensures.value ∙ c.args.ranked.now.grid) in
    let D : ℕ → ℕ → ℕ → Type 0 = λ v p n. c.args.number / v / p / n < c.args.ranked.now.relation.now.classes in
    subst (λ v. D v c.ports-ports.result c.nodes-nodes.result) (sym vcs)
    (subst (λ p. D c.args.ranked.now.ranks.now.vcs p c.nodes-nodes.result) (sym port)
    (subst (λ n. D c.args.ranked.now.ranks.now.vcs (ports c.args.ranked.now.ranks.now.grid) n) (sym node)
    (class-below c.args.number c.args.ranked.now.relation.now.classes (nodes c.args.ranked.now.ranks.now.grid) (ports c.args.ranked.now.ranks.now.grid) c.args.ranked.now.ranks.now.vcs
    (omega (arith, node, c.nodes-nodes.ensures.some)) (omega (arith, port, c.ports-ports.ensures.some)) (omega (arith, c.args.ranked.now.vcs, c.vcs-vcs.ensures.built.table.some_vcs)) c.requires)))

pub returns : goal.returns
returns c =
    let vcs : c.vcs-vcs.result ≡ c.args.ranked.now.ranks.now.vcs = c.vcs-vcs.ensures.value ∙ c.args.ranked.now.vcs in
    let port : c.ports-ports.result ≡ ports c.args.ranked.now.ranks.now.grid = c.ports-ports.ensures.value ∙ ap ports (c.shape.ensures.value ∙ c.args.ranked.now.grid) in
    let node : c.nodes-nodes.result ≡ nodes c.args.ranked.now.ranks.now.grid = c.nodes-nodes.ensures.value ∙ ap nodes (c.shape-2.ensures.value ∙ c.args.ranked.now.grid) in
    first_at-match c.args.ranked.now.relation.now c.args.ranked.now.ranks.now c.args.number c.in_ok-rank.rank c.vcs-vcs.result c.ports-ports.result c.nodes-nodes.result c.first_fall.result
    vcs port node (sym c.arrival_rank.ensures ∙ c.in_ok-rank.was) c.first_fall.ensures

pub arrival_rank-requires-clause-router : goal.arrival_rank-requires-clause-router
arrival_rank-requires-clause-router c =
    pair-second c.nodes-nodes.result _ (c.args.number / c.vcs-vcs.result / c.ports-ports.result) (c.nodes-nodes.ensures.value ∙ ap nodes (c.shape-2.ensures.value ∙ c.args.ranked.now.grid)) (omega (arith, c.nodes-nodes.ensures.some))

pub arrival_rank-requires-clause-port : goal.arrival_rank-requires-clause-port
arrival_rank-requires-clause-port c =
    pair-second c.ports-ports.result _ (c.args.number / c.vcs-vcs.result) (c.ports-ports.ensures.value ∙ ap ports (c.shape.ensures.value ∙ c.args.ranked.now.grid)) (omega (arith, c.ports-ports.ensures.some))

pub arrival_rank-requires-clause-vc : goal.arrival_rank-requires-clause-vc
arrival_rank-requires-clause-vc c =
    pair-second c.vcs-vcs.result _ (c.args.number) (c.vcs-vcs.ensures.value ∙ c.args.ranked.now.vcs) (omega (arith, c.vcs-vcs.ensures.value, c.vcs-vcs.ensures.built.table.some_vcs))

pub invariant_of-arrival-clause-router_exists : goal.invariant_of-arrival-clause-router_exists
invariant_of-arrival-clause-router_exists c =
    pair-second c.nodes-nodes.result _ (c.args.number / c.vcs-vcs.result / c.ports-ports.result) (c.nodes-nodes.ensures.value ∙ ap nodes (c.shape-2.ensures.value ∙ c.args.ranked.now.grid)) (omega (arith, c.nodes-nodes.ensures.some))

pub invariant_of-arrival-clause-port_exists : goal.invariant_of-arrival-clause-port_exists
invariant_of-arrival-clause-port_exists c =
    pair-second c.ports-ports.result _ (c.args.number / c.vcs-vcs.result) (c.ports-ports.ensures.value ∙ ap ports (c.shape.ensures.value ∙ c.args.ranked.now.grid)) (omega (arith, c.ports-ports.ensures.some))

pub invariant_of-arrival-clause-vc_exists : goal.invariant_of-arrival-clause-vc_exists
invariant_of-arrival-clause-vc_exists c =
    pair-second c.vcs-vcs.result _ (c.args.number) (c.vcs-vcs.ensures.value ∙ c.args.ranked.now.vcs) (omega (arith, c.vcs-vcs.ensures.value, c.vcs-vcs.ensures.built.table.some_vcs))
