use Rattle.std.proofs.Common.{◌*◌, ◌≤◌, ◌∙◌, ℕ, List, Option, ap, subst, sym, length, arith}
use Rattle.std.proofs.Math.Nat.{mul-le-mul_right}
use Rattle.std.specs.Prelude.{IfOk, MatchOption}
use Rattle.noc_topo.specs.Shape.{nodes, local_port}
use Rattle.noc_route.specs.Ranks.{Ranking, rank_count}
use Rattle.noc_rank.specs.LeastAhead.{over}
use Rattle.noc_rank.specs.Faults.{HasNoDescent, IsFirstDescent}
use Rattle.noc_rank.proofs.AcceptLemmas.{real-over}
use Rattle.noc_rank.proofs.BareLemmas.{over-same}
use Rattle.noc_rank.proofs.descent.first_descent.Goals as goal

pub invariant_of-list-clause-real : goal.invariant_of-list-clause-real
invariant_of-list-clause-real c = real-over c.args.ranked.now.relation.now c.args.ranked.now.ranks.now c.args.ranked.now.grid c.args.ranked.now.vcs c.list.ensures.ranking c.list.result.now c.list.ensures.value

pub returns : goal.returns
returns c =
    let routes = c.args.ranked.now.relation.now in
    let P : Ranking → Type 0 = λ x. IfOk c.descent_in.result (λ found. MatchOption found (HasNoDescent routes x) (λ d. IsFirstDescent routes x d.from d.to d.rank d.next)) in
    subst P (ap (over routes) c.list.ensures.value ∙ over-same routes c.args.ranked.now.ranks.now c.args.ranked.now.grid c.args.ranked.now.vcs) c.descent_in.ensures

pub overflow_mul-count : goal.overflow_mul-count
overflow_mul-count c =
    let few : c.all_ports.result * c.vcs.result ≤ 1536 * c.vcs.result = mul-le-mul_right c.vcs.result c.all_ports.ensures.few in
    omega (arith, few, c.vcs.ensures.value, c.vcs.ensures.built.table.few_vcs)

pub invariant_of-list-clause-all : goal.invariant_of-list-clause-all
invariant_of-list-clause-all c =
    let n = c.args.ranked.now in
    ap (λ (xs : List (Option ℕ)). length xs) c.list.ensures.value ∙ c.list.ensures.ranking.long
    ∙ ap (λ g. rank_count g n.ranks.now.vcs) (sym n.grid) ∙ ap (λ v. rank_count n.relation.now.grid v) (sym n.vcs)

pub descent_in-requires-clause-built : goal.descent_in-requires-clause-built
descent_in-requires-clause-built c = c.vcs.ensures.built

pub descent_in-requires-clause-least : goal.descent_in-requires-clause-least
descent_in-requires-clause-least c =
    let n = c.args.ranked.now in
    let g = n.ranks.now.grid in
    c.deref_mut.ensures.len ∙ c.in_ok-least.ensures.len
    ∙ ap (λ p. p * c.vcs.result) c.all_ports.ensures.value ∙ ap (λ g. nodes g * local_port g * c.vcs.result) (c.shape.ensures.value ∙ n.grid) ∙ ap (λ v. nodes g * local_port g * v) (c.vcs.ensures.value ∙ n.vcs)
    ∙ sym c.list.ensures.ranking.long ∙ sym (ap (λ (xs : List (Option ℕ)). length xs) c.list.ensures.value)
