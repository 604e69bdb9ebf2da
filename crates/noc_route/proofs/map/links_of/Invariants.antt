use Rattle.std.proofs.Common.{◌≡◌, ℕ, ◌*◌, ◌<◌, ◌≤◌, ◌/◌, ◌%◌, get_or, None, vec_len, vec_capacity}
use Rattle.noc_topo.specs.Shape.{ports, neighbour}
use Rattle.noc_route.proofs.map.links_of.Given as goal

abbrev pub invariant-loop-i : goal.invariant-loop-i
invariant-loop-i l = record {
  long : vec_len l.links ≡ l.i;
  room : l.sizes.node_count * l.sizes.port_count ≤ vec_capacity l.links;
  each : (k : ℕ) → k < l.i → get_or l.links.items k None ≡ neighbour l.sizes.shape (k / ports l.sizes.shape) (k % ports l.sizes.shape);
}
