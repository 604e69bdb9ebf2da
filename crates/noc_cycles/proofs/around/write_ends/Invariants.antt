use Rattle.std.proofs.Common.{◌≡◌, ◌<◌, ◌+◌, ◌*◌, ℕ, length}
use Rattle.noc_cycles.proofs.Common.{local_port, neighbour, nodes, number_or_nowhere}
use Rattle.noc_cycles.specs.Around.{end_by}
use Rattle.noc_cycles.proofs.around.write_ends.Given as goal

abbrev pub invariant-loop-r : goal.invariant-loop-r
invariant-loop-r l = record {
  size : length l.ends ≡ 64;
  done : (r p : ℕ) → r < l.r → 64 * l.block + r < nodes l.shape → p < local_port l.shape → end_by l.ends r p ≡ number_or_nowhere (neighbour l.shape (64 * l.block + r) p);
}
