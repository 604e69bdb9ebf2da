use Rattle.std.proofs.Common.{◌≡◌, ℕ, ◌+◌, ◌*◌, ◌^◌, ◌≤◌, List, flat_map, refl, ap, sym, ◌∙◌, arith, sum}
use Rattle.noc_topo.specs.Shape.{ports}
use Rattle.noc_topo.specs.Lists.{below}
use Rattle.noc_packet.specs.declared.limits.TheConstants.{INDICES, MAX_CHANNELS}
use Rattle.noc_route.specs.Routes.{Routes}
use Rattle.noc_theory.specs.Network.{Run}
use Rattle.noc_files.specs.Channels.{over_port}
use Rattle.noc_files.specs.Summary.{column_entry, port_total, router_total}
use Rattle.noc_files.proofs.BelowLemmas.{sum_more, sum_none}
use Rattle.noc_files.proofs.TotalLemmas.{raised-as, raised-more, raised-none, raised-up-to}
use Rattle.noc_files.proofs.summary.add_router.Goals as goal

-- the entries of a column on the ports of a router
abbrev entries_of : Run → ℕ → ℕ → ℕ → List ℕ
entries_of u router column = over_port u.net.relation router (column_entry u column router)

port-is : (u : Run) (router port column : ℕ) → port_total u router port column ≡ sum (entries_of u router column port)
unfolding port_total
port-is u router port column = refl

router-is : (u : Run) (router column : ℕ) → router_total u router column ≡ sum (flat_map (entries_of u router column) (below (ports u.net.relation.grid)))
unfolding router_total
router-is u router column = refl

pub loop-port-init : goal.loop-port-init
loop-port-init c =
    let u = c.args.network.now in
    let so_far = λ (column : ℕ). sum (flat_map (entries_of u c.args.router column) (below 0)) in
    raised-none so_far c.args.totals.now (λ column. sym (sum_none (entries_of u c.args.router column)))

pub add_port-requires-clause-few : goal.add_port-requires-clause-few
add_port-requires-clause-few c =
    let u = c.args.network.now in
    let so_far = λ (column : ℕ). sum (flat_map (entries_of u c.args.router column) (below c.loop-port.port)) in
    let few : c.loop-port.port * MAX_CHANNELS ≤ INDICES = omega (arith, c.loop-port.auto.port-end, c.ports-port-end.ensures.few) in
    raised-up-to so_far (c.loop-port.port * MAX_CHANNELS) (2 ^ 125) (2 ^ 126) c.args.totals.now c.loop-port.totals c.loop-port.invariant c.requires.few (omega (arith, few))

pub loop-port-preserved : goal.loop-port-preserved
loop-port-preserved c =
    let u = c.args.network.now in
    let port = c.loop-port.port in
    let total = λ (n column : ℕ). sum (flat_map (entries_of u c.args.router column) (below n)) in
    let one = port_total u c.args.router port in
    raised-more (total port) one (total (port + 1)) (port * MAX_CHANNELS) MAX_CHANNELS ((port + 1) * MAX_CHANNELS) c.args.totals.now c.loop-port.totals c.add_port.new.totals
    (λ column. sym (sum_more (entries_of u c.args.router column) port (total port column) (one column) refl (port-is u c.args.router port column)))
    (omega arith) c.loop-port.invariant (record { more = c.add_port.ensures.more; bound = c.add_port.ensures.bound })

pub returns : goal.returns
returns c =
    let u = c.args.network.now in
    let grid = c.shape.ensures.value ∙ ap (λ (r : Routes). r.grid) c.relation.ensures in
    let count : c.ports-port-end.result ≡ ports u.net.relation.grid = c.ports-port-end.ensures.value ∙ ap ports grid in
    let all : c.loop-port.port ≡ ports u.net.relation.grid = omega (arith, c.loop-port-test.false, c.loop-port.auto.port-end, count) in
    let few : c.loop-port.port * MAX_CHANNELS ≤ INDICES = omega (arith, c.loop-port.auto.port-end, c.ports-port-end.ensures.few) in
    let so_far = λ (column : ℕ). sum (flat_map (entries_of u c.args.router column) (below c.loop-port.port)) in
    raised-as so_far (router_total u c.args.router) (c.loop-port.port * MAX_CHANNELS) INDICES c.args.totals.now c.loop-port.totals
    (λ column. ap (λ (n : ℕ). sum (flat_map (entries_of u c.args.router column) (below n))) all ∙ sym (router-is u c.args.router column))
    few c.loop-port.invariant
