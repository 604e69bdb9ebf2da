use Rattle.std.proofs.Common.{◌≡◌, ℕ, ◌+◌, ◌*◌, ◌^◌, ◌<◌, ◌≤◌, List, flat_map, get_or, replicate, refl, ap, sym, ◌∙◌, arith, sum}
use Rattle.std.proofs.lemmas.List.{ext_get_or, get_or-replicate}
use Rattle.noc_topo.specs.Shape.{nodes}
use Rattle.noc_topo.specs.Lists.{below, tabulate}
use Rattle.noc_topo.proofs.ListLemmas.{get_or-tabulate, length-tabulate}
use Rattle.noc_packet.specs.declared.limits.TheConstants.{INDICES}
use Rattle.noc_route.specs.Routes.{Routes}
use Rattle.noc_theory.specs.Network.{Run}
use Rattle.noc_files.specs.Channels.{over_router}
use Rattle.noc_files.specs.Summary.{column_entry, column_total, router_total}
use Rattle.noc_files.proofs.BelowLemmas.{sum_more, sum_none}
use Rattle.noc_files.proofs.TotalLemmas.{raised-more, raised-none, raised-up-to}
use Rattle.noc_files.proofs.summary.totals.Goals as goal

-- the entries of a column on the routers
abbrev entries_of : Run → ℕ → ℕ → List ℕ
entries_of u column router = over_router u.net.relation router (column_entry u column router)

router-is : (u : Run) (router column : ℕ) → router_total u router column ≡ sum (entries_of u column router)
unfolding router_total
router-is u router column = refl

column-is : (u : Run) (column : ℕ) → column_total u column ≡ sum (flat_map (entries_of u column) (below (nodes u.net.relation.grid)))
unfolding column_total
column-is u column = refl

pub loop-router-init : goal.loop-router-init
loop-router-init c =
    let u = c.args.network.now in
    let so_far = λ (column : ℕ). sum (flat_map (entries_of u column) (below 0)) in
    record { long = refl; raised = raised-none so_far (replicate 10 0) (λ column. sym (sum_none (entries_of u column))) }

pub add_router-requires-clause-few : goal.add_router-requires-clause-few
add_router-requires-clause-few c =
    let u = c.args.network.now in
    let so_far = λ (column : ℕ). sum (flat_map (entries_of u column) (below c.loop-router.router)) in
    let few : c.loop-router.router * INDICES * 2 ^ 64 ≤ 2 ^ 125 = omega (arith, c.loop-router.auto.router-end, c.nodes-router-end.ensures.few) in
    raised-up-to so_far (c.loop-router.router * INDICES) 0 (2 ^ 125) (replicate 10 0) c.loop-router.totals c.loop-router.invariant.raised
    (λ k l. omega (arith, get_or-replicate {A = ℕ} 10 k 0 0 l)) (omega (arith, few))

pub loop-router-preserved : goal.loop-router-preserved
loop-router-preserved c =
    let u = c.args.network.now in
    let router = c.loop-router.router in
    let total = λ (n column : ℕ). sum (flat_map (entries_of u column) (below n)) in
    let one = router_total u router in
    record {
      long = c.add_router.array_long;
      raised = raised-more (total router) one (total (router + 1)) (router * INDICES) INDICES ((router + 1) * INDICES) (replicate 10 0) c.loop-router.totals c.add_router.new.totals
          (λ column. sym (sum_more (entries_of u column) router (total router column) (one column) refl (router-is u router column)))
          (omega arith) c.loop-router.invariant.raised (record { more = c.add_router.ensures.more; bound = c.add_router.ensures.bound });
    }

pub returns : goal.returns
returns c =
    let u = c.args.network.now in
    let grid = c.shape.ensures.value ∙ ap (λ (r : Routes). r.grid) c.relation.ensures in
    let count : c.nodes-router-end.result ≡ nodes u.net.relation.grid = c.nodes-router-end.ensures.value ∙ ap nodes grid in
    let all : c.loop-router.router ≡ nodes u.net.relation.grid = omega (arith, c.loop-router-test.false, c.loop-router.auto.router-end, count) in
    let xs = c.loop-router.totals in
    let each : (k : ℕ) → k < 10 → get_or xs k 0 ≡ column_total u k =
    λ k l. c.loop-router.invariant.raised.more k l
    ∙ omega (arith, get_or-replicate {A = ℕ} 10 k 0 0 l)
    ∙ ap (λ (n : ℕ). sum (flat_map (entries_of u k) (below n))) all ∙ sym (column-is u k) in
    ext_get_or 0 xs (tabulate 10 (column_total u)) (c.loop-router.invariant.long ∙ sym (length-tabulate 10 (column_total u)))
    (λ k l. each k (omega (arith, l, c.loop-router.invariant.long)) ∙ sym (get_or-tabulate 10 k (column_total u) 0 (omega (arith, l, c.loop-router.invariant.long))))
