use Rattle.std.proofs.Common.{◌≡◌, ◌+◌, ◌*◌, ◌/◌, ◌%◌, ◌<◌, ◌≤◌, None, get_or, length, sym, subst, ap, ◌∙◌, arith}
use Rattle.std.proofs.Math.Nat.{mul-le-mul_right, mul_comm}
use Rattle.std.proofs.lemmas.List.{get_or_default}
use Rattle.noc_topo.specs.Shape.{nodes, local_port}
use Rattle.noc_route.specs.Ranks.{Ranking, rank_count, rank_at}
use Rattle.noc_rank.specs.Stored.{ranking_of}
use Rattle.noc_rank.proofs.IndexLemmas.{output-known, output-rank, vcs-some}
use Rattle.noc_rank.proofs.ranks.output_rank.Goals as goal

known : (c : goal.After-link_ports) → c.args.router * c.link_ports.result * c.ranks.inside.vcs + c.args.index < length c.ranks.inside.ranks.items
known c =
    let P : Ranking → Type 0 = λ k. c.args.router * local_port k.grid * k.vcs + c.args.index < length k.ranks in
    let long : length c.ranks.inside.ranks.items ≡ rank_count c.ranks.inside.shape c.ranks.inside.vcs = c.ranks.invariant.long in
    let here : c.args.router < nodes c.ranks.inside.shape = subst (λ (k : Ranking). c.args.router < nodes k.grid) (sym c.ranks.view_is) c.requires.router in
    let index : c.args.index < local_port c.ranks.inside.shape * c.ranks.inside.vcs = subst (λ (k : Ranking). c.args.index < local_port k.grid * k.vcs) (sym c.ranks.view_is) c.requires.index in
    rw c.link_ports.ensures.value (omega (arith, long, output-known (ranking_of c.ranks.inside) c.args.router c.args.index here index))

pub overflow_mul-router : goal.overflow_mul-router
overflow_mul-router c =
    let pair = c.args.router * c.link_ports.result in
    let v = c.ranks.inside.vcs in
    let index : c.args.index < local_port c.ranks.inside.shape * v = subst (λ (k : Ranking). c.args.index < local_port k.grid * k.vcs) (sym c.ranks.view_is) c.requires.index in
    let some : 0 < v = vcs-some (local_port c.ranks.inside.shape) v c.args.index index in
    let more : 1 * pair ≤ v * pair = mul-le-mul_right pair some in
    omega (arith, known c, more, mul_comm v pair, c.ranks.inside.ranks.ok.0, c.ranks.inside.ranks.small)

pub overflow_mul-router-2 : goal.overflow_mul-router-2
overflow_mul-router-2 c = omega (arith, known c, c.ranks.inside.ranks.ok.0, c.ranks.inside.ranks.small)

pub overflow_add-router : goal.overflow_add-router
overflow_add-router c = omega (arith, known c, c.ranks.inside.ranks.ok.0, c.ranks.inside.ranks.small)

pub index-requires : goal.index-requires
index-requires c = omega (arith, known c, c.ranks.inside.ranks.ok.0)

pub returns-clause-value : goal.returns-clause-value
returns-clause-value c =
    let k = ranking_of c.ranks.inside in
    let i = c.args.index in
    let place = c.args.router * local_port k.grid * k.vcs + i in
    let here : c.args.router < nodes k.grid = subst (λ (k : Ranking). c.args.router < nodes k.grid) (sym c.ranks.view_is) c.requires.router in
    let index : i < local_port k.grid * k.vcs = subst (λ (k : Ranking). i < local_port k.grid * k.vcs) (sym c.ranks.view_is) c.requires.index in
    let within : place < length c.ranks.inside.ranks.items = omega (arith, c.ranks.invariant.long, output-known k c.args.router i here index) in
    let core : c.index.result.now ≡ rank_at k c.args.router (i / k.vcs) (i % k.vcs)
    = c.index.ensures
    ∙ ap (λ n. get_or c.ranks.inside.ranks.items (c.args.router * n * c.ranks.inside.vcs + i) c.index.result.now) c.link_ports.ensures.value
    ∙ get_or_default c.ranks.inside.ranks.items place c.index.result.now None within
    ∙ output-rank k c.args.router i here index in
    subst (λ (k : Ranking). c.index.result.now ≡ rank_at k c.args.router (i / k.vcs) (i % k.vcs)) c.ranks.view_is core
