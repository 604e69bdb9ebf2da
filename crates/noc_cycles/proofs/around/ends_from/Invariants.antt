use Rattle.std.proofs.Common.{◌≡◌, ◌<◌, ℕ, length}
use Rattle.std.specs.Prelude.{slice_index}
use Rattle.noc_cycles.proofs.Common.{neighbour, number_or_nowhere}
use Rattle.noc_cycles.proofs.around.ends_from.Given as goal

abbrev pub invariant-loop-port : goal.invariant-loop-port
invariant-loop-port l = record {
  size : length l.ends ≡ 8;
  done : (p : ℕ) → p < l.port → slice_index l.ends p ≡ number_or_nowhere (neighbour l.shape l.node p);
}
