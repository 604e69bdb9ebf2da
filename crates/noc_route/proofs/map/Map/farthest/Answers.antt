use Rattle.std.proofs.Common.{◌≡◌, ℕ, ◌+◌, ◌*◌, ◌/◌, ◌%◌, ◌<◌, ◌≤◌, List, length, ap, ◌∙◌, arith, inl, inr}
use Rattle.std.specs.Prelude.{slice_index}
use Rattle.std.proofs.lemmas.Bool.{cases_lt}
use Rattle.noc_topo.specs.Shape.{nodes, distance}
use Rattle.noc_topo.proofs.DistanceLemmas.{distance-bound}
use Rattle.noc_route.proofs.EntryLemmas.{flat-below, flat-div, flat-mod}
use Rattle.noc_route.proofs.map.Map.farthest.Goals as goal

pub loop-apart-preserved : goal.loop-apart-preserved
loop-apart-preserved c =
    let map = c.args.self.now in
    let n = nodes map.sizes.shape in
    let i = c.loop-apart.apart-index in
    let here = slice_index map.apart.items i in
    let within : i < n * n = omega (arith, c.loop-apart-test.true, ap length c.deref-apart-items.ensures.value, map.apart.ok.0, map.all_apart) in
    let small : here ≤ 30 = let far = distance-bound map.sizes.shape (i / n) (i % n) map.sizes.grid in let is = map.spaced i within in omega (arith, far, is) in
    let read = ap (λ (xs : List ℕ). slice_index xs i) c.deref-apart-items.ensures.value in
    record {
      bound = λ k l. elim (cases_lt k i) [
        | inl below ↦ (let low = c.loop-apart.invariant.bound k below in omega (arith, low, c.max-farthest.ensures))
        | inr last ↦ (let e : k ≡ i = omega (arith, l, last) in let is = ap (slice_index map.apart.items) e in omega (arith, is, read, c.max-farthest.ensures))
      ];
      few = omega (arith, read, small, c.loop-apart.invariant.few, c.max-farthest.ensures);
    }

pub returns-clause-bound : goal.returns-clause-bound
returns-clause-bound c = λ r t router dst.
    let map = c.args.self.now in
    let n = nodes map.sizes.shape in
    let within : r * n + t < n * n = flat-below r n t n router dst in
    let seen : n * n ≤ c.loop-apart.apart-index = omega (arith, c.loop-apart-test.false, ap length c.deref-apart-items.ensures.value, map.apart.ok.0, map.all_apart) in
    let is = map.spaced (r * n + t) within ∙ ap (λ a. distance map.sizes.shape a ((r * n + t) % n)) (flat-div r n t dst) ∙ ap (distance map.sizes.shape r) (flat-mod r n t dst) in
    let low = c.loop-apart.invariant.bound (r * n + t) (omega (arith, within, seen)) in
    omega (arith, is, low)
