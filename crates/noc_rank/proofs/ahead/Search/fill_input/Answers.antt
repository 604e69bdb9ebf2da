use Rattle.std.proofs.Common.{◌≡◌, ℕ, ◌+◌, ◌/◌, ◌%◌, ◌<◌, Some, None, true, length, ap, sym, subst, ◌∙◌, arith}
use Rattle.std.proofs.Math.Nat.{mod-lt}
use Rattle.std.specs.Prelude.{slice_set}
use Rattle.noc_topo.specs.Shape.{Grid, neighbour, distance, ports}
use Rattle.noc_route.specs.Routes.{set_at}
use Rattle.noc_route.specs.Ranks.{is_port_channel, rank_index, rank_count}
use Rattle.noc_rank.proofs.IndexLemmas.{input-port, is_port_channel-true}
use Rattle.noc_rank.specs.LeastAhead.{IsLeastOf, outputs}
use Rattle.noc_rank.specs.Filled.{IsFilled, IsFoundIn}
use Rattle.noc_rank.proofs.AheadLemmas.{least-more, least-none_here}
use Rattle.noc_rank.proofs.ahead.Search.fill_input.Goals as goal

pub returns-in-Some : goal.returns-in-Some
returns-in-Some c =
    let s = c.args.self.now in
    let routes = s.relation.now in
    let least = c.args.least.now in
    let b = c.args.router in
    let i = c.args.input in
    let vcs : c.vcs-vcs.result ≡ routes.vcs = c.vcs-vcs.ensures.value in
    let link : neighbour routes.grid b (i / routes.vcs) ≡ Some (c.in-Some.sender, c.in-Some.out_port)
    = ap (λ v. neighbour routes.grid b (i / v)) (sym vcs) ∙ ap (λ g. neighbour g b (i / c.vcs-vcs.result)) (sym c.shape.ensures.value) ∙ sym c.neighbour.ensures.value ∙ c.in-Some.is in
    let set : c.permitted-set.result ≡ set_at routes s.class b (i / routes.vcs) (i % routes.vcs) s.dst = c.permitted-set.ensures.value ∙ ap (λ v. set_at routes s.class b (i / v) (i % v) s.dst) vcs in
    let value = subst (λ (bits : ℕ). IsLeastOf (IsFoundIn s least b bits (outputs routes)) c.least_of-value.result) set c.least_of-value.ensures in
    let place : c.rank_index.result ≡ rank_index routes.grid routes.vcs c.in-Some.sender c.in-Some.out_port (i % routes.vcs)
    = c.rank_index.ensures.value ∙ ap (λ g. rank_index g c.vcs-vcs.result c.in-Some.sender c.in-Some.out_port (i % c.vcs-vcs.result)) c.shape-in-Some.ensures.value ∙ ap (λ v. rank_index routes.grid v c.in-Some.sender c.in-Some.out_port (i % v)) vcs in
    subst (λ n. IsFilled s (distance routes.grid b s.dst) b (i + 1) (slice_set least n c.least_of-value.result)) (sym place)
    (least-more s c.vcs-vcs.ensures.built b i c.in-Some.sender c.in-Some.out_port least c.least_of-value.result c.requires.router c.requires.input link c.requires.before value)

pub returns-in_default : goal.returns-in_default
returns-in_default c =
    let s = c.args.self.now in
    let routes = s.relation.now in
    let b = c.args.router in
    let i = c.args.input in
    let none : neighbour routes.grid b (i / routes.vcs) ≡ None
    = ap (λ v. neighbour routes.grid b (i / v)) (sym c.vcs-vcs.ensures.value) ∙ ap (λ g. neighbour g b (i / c.vcs-vcs.result)) (sym c.shape.ensures.value) ∙ sym c.neighbour.ensures.value ∙ c.in_default.is in
    least-none_here s c.vcs-vcs.ensures.built (distance routes.grid b s.dst) b i c.args.least.now none c.requires.before

pub nonzero_div-port : goal.nonzero_div-port
nonzero_div-port c = omega (arith, c.vcs-vcs.ensures.value, c.vcs-vcs.ensures.built.table.some_vcs)

pub nonzero_rem-vc : goal.nonzero_rem-vc
nonzero_rem-vc c = omega (arith, c.vcs-vcs.ensures.value, c.vcs-vcs.ensures.built.table.some_vcs)

pub neighbour-requires-clause-port : goal.neighbour-requires-clause-port
neighbour-requires-clause-port c =
    let some : 0 < c.vcs-vcs.result = omega (arith, c.vcs-vcs.ensures.value, c.vcs-vcs.ensures.built.table.some_vcs) in
    let low = input-port c.args.self.now.relation.now.grid c.args.self.now.relation.now.vcs c.args.input c.vcs-vcs.result c.vcs-vcs.ensures.value some c.requires.input in
    let P : Grid → Type 0 = λ g. c.args.input / c.vcs-vcs.result < ports g in
    subst P (sym c.shape.ensures.value) low

pub permitted-set-requires-clause-in_port : goal.permitted-set-requires-clause-in_port
permitted-set-requires-clause-in_port c =
    let some : 0 < c.vcs-vcs.result = omega (arith, c.vcs-vcs.ensures.value, c.vcs-vcs.ensures.built.table.some_vcs) in
    input-port c.args.self.now.relation.now.grid c.args.self.now.relation.now.vcs c.args.input c.vcs-vcs.result c.vcs-vcs.ensures.value some c.requires.input

pub permitted-set-requires-clause-in_vc : goal.permitted-set-requires-clause-in_vc
permitted-set-requires-clause-in_vc c =
    let some : 0 < c.vcs-vcs.result = omega (arith, c.vcs-vcs.ensures.value, c.vcs-vcs.ensures.built.table.some_vcs) in
    let P : ℕ → Type 0 = λ n. c.args.input % c.vcs-vcs.result < n in
    subst P c.vcs-vcs.ensures.value (mod-lt c.args.input some)

pub least_of-value-requires-clause-least : goal.least_of-value-requires-clause-least
least_of-value-requires-clause-least c = c.requires.before.long ∙ sym c.args.self.now.all_ranks

pub rank_index-requires-clause-channel : goal.rank_index-requires-clause-channel
rank_index-requires-clause-channel c =
    let some : 0 < c.vcs-vcs.result = omega (arith, c.vcs-vcs.ensures.value, c.vcs-vcs.ensures.built.table.some_vcs) in
    let P : Grid → Type 0 = λ g. is_port_channel g c.vcs-vcs.result c.in-Some.sender c.in-Some.out_port (c.args.input % c.vcs-vcs.result) ≡ true in
    subst P (c.shape.ensures.value ∙ sym c.shape-in-Some.ensures.value)
    (is_port_channel-true c.shape.result.now c.vcs-vcs.result c.in-Some.sender c.in-Some.out_port (c.args.input % c.vcs-vcs.result) c.in-Some.ensures.range.0 c.in-Some.ensures.range.1 (mod-lt c.args.input some))

pub bounds-least-rank_index : goal.bounds-least-rank_index
bounds-least-rank_index c =
    let routes = c.args.self.now.relation.now in
    let count : rank_count c.shape-in-Some.result.now c.vcs-vcs.result ≡ length c.args.least.now
    = ap (λ g. rank_count g c.vcs-vcs.result) c.shape-in-Some.ensures.value ∙ ap (λ v. rank_count routes.grid v) c.vcs-vcs.ensures.value ∙ sym c.requires.before.long in
    let P : ℕ → Type 0 = λ n. c.rank_index.result < n in
    subst P count c.rank_index.ensures.within
