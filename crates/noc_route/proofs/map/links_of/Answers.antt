use Rattle.std.proofs.Common.{◌≡◌, ℕ, ◌*◌, ◌/◌, ◌%◌, ◌<◌, ◌≤◌, ◌∙◌, Option, None, length, refl, ap, arith}
use Rattle.std.proofs.Math.Nat.{mul-le-mul_right}
use Rattle.noc_topo.specs.Shape.{nodes, ports, neighbour}
use Rattle.noc_route.proofs.EntryLemmas.{index-port, pair-second, each-pushed}
use Rattle.noc_route.proofs.map.links_of.Goals as goal

pub overflow_mul-count : goal.overflow_mul-count
overflow_mul-count c =
    let f = c.args.sizes.now in
    let few : f.node_count * f.port_count ≤ 256 * f.port_count = mul-le-mul_right f.port_count f.few_nodes in
    omega (arith, few, f.few_ports)

pub neighbour-requires-clause-node : goal.neighbour-requires-clause-node
neighbour-requires-clause-node c =
    let f = c.args.sizes.now in
    let below : c.loop-i.i / f.port_count < f.node_count = index-port c.loop-i.i (f.node_count * f.port_count) f.node_count f.port_count (omega (arith, f.all_ports)) refl c.loop-i-test.true in
    omega (arith, below, f.all_nodes)

pub neighbour-requires-clause-port : goal.neighbour-requires-clause-port
neighbour-requires-clause-port c = pair-second c.args.sizes.now.port_count _ c.loop-i.i c.args.sizes.now.all_ports (omega (arith, c.args.sizes.now.all_ports))

pub loop-i-init : goal.loop-i-init
loop-i-init c = record { long = c.in_ok-links.ensures.len; room = c.in_ok-links.ensures.capacity; each = λ k l. absurd (omega arith) }

pub push_reserved-requires : goal.push_reserved-requires
push_reserved-requires c = omega (arith, c.loop-i.invariant.long, c.loop-i.invariant.room, c.loop-i-test.true)

pub loop-i-preserved : goal.loop-i-preserved
loop-i-preserved c =
    let f = c.args.sizes.now in
    let i = c.loop-i.i in
    let P : ℕ → Option (ℕ × ℕ) → Type 0 = λ k to. to ≡ neighbour f.shape (k / ports f.shape) (k % ports f.shape) in
    let is = c.loop-i.invariant in
    let long : length c.loop-i.links.items ≡ i = omega (arith, is.long, c.loop-i.links.ok.0) in
    let here : P i c.neighbour.result = c.neighbour.ensures.value ∙ ap (λ n. neighbour f.shape (i / n) (i % n)) f.all_ports in
    record {
      long = omega (arith, is.long, c.push_reserved.ensures.len);
      room = omega (arith, is.room, c.push_reserved.ensures.capacity);
      each = each-pushed None P c.loop-i.links.items c.push_reserved.new.self.items c.neighbour.result i long c.push_reserved.ensures.items is.each here;
    }

pub returns-clause-len : goal.returns-clause-len
returns-clause-len c =
    let f = c.args.sizes.now in
    let count : f.node_count * f.port_count ≡ nodes f.shape * ports f.shape = ap (λ n. n * f.port_count) f.all_nodes ∙ ap (λ p. nodes f.shape * p) f.all_ports in
    omega (arith, c.loop-i.invariant.long, count, c.loop-i.auto.i-end, c.loop-i-test.false)

pub returns-clause-items : goal.returns-clause-items
returns-clause-items c = λ k l.
    let f = c.args.sizes.now in
    let count : f.node_count * f.port_count ≡ nodes f.shape * ports f.shape = ap (λ n. n * f.port_count) f.all_nodes ∙ ap (λ p. nodes f.shape * p) f.all_ports in
    c.loop-i.invariant.each k (omega (arith, l, count, c.loop-i-test.false))
