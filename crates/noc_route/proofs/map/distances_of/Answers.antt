use Rattle.std.proofs.Common.{◌≡◌, ℕ, ◌*◌, ◌/◌, ◌%◌, ◌≤◌, ◌∙◌, length, ap, arith}
use Rattle.std.proofs.Math.Nat.{mul-le-mul_right}
use Rattle.noc_topo.specs.Shape.{nodes, distance}
use Rattle.noc_route.proofs.EntryLemmas.{pair-first, pair-second, each-pushed}
use Rattle.noc_route.proofs.map.distances_of.Goals as goal

pub overflow_mul-count : goal.overflow_mul-count
overflow_mul-count c =
    let f = c.args.sizes.now in
    let few : f.node_count * f.node_count ≤ 256 * f.node_count = mul-le-mul_right f.node_count f.few_nodes in
    omega (arith, few, f.few_nodes)

pub distance-requires-clause-from : goal.distance-requires-clause-from
distance-requires-clause-from c = pair-first c.args.sizes.now.node_count _ c.loop-i.i c.args.sizes.now.all_nodes (omega (arith, c.args.sizes.now.some_nodes)) c.loop-i-test.true

pub distance-requires-clause-to : goal.distance-requires-clause-to
distance-requires-clause-to c = pair-second c.args.sizes.now.node_count _ c.loop-i.i c.args.sizes.now.all_nodes (omega (arith, c.args.sizes.now.some_nodes))

pub loop-i-init : goal.loop-i-init
loop-i-init c = record { long = c.in_ok-apart.ensures.len; room = c.in_ok-apart.ensures.capacity; each = λ k l. absurd (omega arith) }

pub push_reserved-requires : goal.push_reserved-requires
push_reserved-requires c = omega (arith, c.loop-i.invariant.long, c.loop-i.invariant.room, c.loop-i-test.true)

pub loop-i-preserved : goal.loop-i-preserved
loop-i-preserved c =
    let f = c.args.sizes.now in
    let i = c.loop-i.i in
    let P : ℕ → ℕ → Type 0 = λ k n. n ≡ distance f.shape (k / nodes f.shape) (k % nodes f.shape) in
    let is = c.loop-i.invariant in
    let long : length c.loop-i.apart.items ≡ i = omega (arith, is.long, c.loop-i.apart.ok.0) in
    let here : P i c.distance.result = c.distance.ensures.value ∙ ap (λ n. distance f.shape (i / n) (i % n)) f.all_nodes in
    record {
      long = omega (arith, is.long, c.push_reserved.ensures.len);
      room = omega (arith, is.room, c.push_reserved.ensures.capacity);
      each = each-pushed 0 P c.loop-i.apart.items c.push_reserved.new.self.items c.distance.result i long c.push_reserved.ensures.items is.each here;
    }

pub returns-clause-len : goal.returns-clause-len
returns-clause-len c =
    let f = c.args.sizes.now in
    let count : f.node_count * f.node_count ≡ nodes f.shape * nodes f.shape = ap (λ n. n * n) f.all_nodes in
    omega (arith, c.loop-i.invariant.long, count, c.loop-i.auto.i-end, c.loop-i-test.false)

pub returns-clause-items : goal.returns-clause-items
returns-clause-items c = λ k l.
    let f = c.args.sizes.now in
    let count : f.node_count * f.node_count ≡ nodes f.shape * nodes f.shape = ap (λ n. n * n) f.all_nodes in
    c.loop-i.invariant.each k (omega (arith, l, count, c.loop-i-test.false))
