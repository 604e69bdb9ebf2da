use Rattle.std.proofs.Common.{◌≡◌, ℕ, ◌*◌, ◌<◌, ◌≤◌, ◌/◌, ◌%◌, get_or, vec_len, vec_capacity}
use Rattle.noc_topo.specs.Shape.{nodes, distance}
use Rattle.noc_route.proofs.map.distances_of.Given as goal

abbrev pub invariant-loop-i : goal.invariant-loop-i
invariant-loop-i l = record {
  long : vec_len l.apart ≡ l.i;
  room : l.sizes.node_count * l.sizes.node_count ≤ vec_capacity l.apart;
  each : (k : ℕ) → k < l.i → get_or l.apart.items k 0 ≡ distance l.sizes.shape (k / nodes l.sizes.shape) (k % nodes l.sizes.shape);
}
