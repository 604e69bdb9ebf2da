-- Distances have a bound.
use Rattle.std.proofs.Common.{◌≡◌, ℕ, ◌≤◌, Option, Some, None, refl, ap, arith}
use Rattle.std.specs.Prelude.{option_map, unwrap_or}
use Rattle.noc_topo.proofs.DistanceLemmas.{distance-bound}
use Rattle.noc_theory.proofs.Common.{IsGrid, distance, Channel, Setup, end_of, end_distance}

-- a channel ends at most 30 hops from any node
pub distance-within : (net : Setup) → IsGrid net.relation.grid → (c : Channel) (t : ℕ) → end_distance net.relation c t ≤ 30
distance-within net grid c t = at (end_of net.relation c) refl
  where
    at : (o : Option ℕ) → end_of net.relation c ≡ o → end_distance net.relation c t ≤ 30
    at None e = let z : end_distance net.relation c t ≡ 0 = ap (λ (o : Option ℕ). unwrap_or (option_map (λ r. distance net.relation.grid r t) o) 0) e in omega arith
    at (Some r) e =
        let z : end_distance net.relation c t ≡ distance net.relation.grid r t = ap (λ (o : Option ℕ). unwrap_or (option_map (λ x. distance net.relation.grid x t) o) 0) e in
        let b = distance-bound net.relation.grid r t grid in omega arith
