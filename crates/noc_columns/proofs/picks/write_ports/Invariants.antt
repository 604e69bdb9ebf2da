use Rattle.std.proofs.Common.{◌≡◌, ℕ, ◌<◌, length, slice_index}
use Rattle.noc_columns.proofs.picks.write_ports.Given as goal

abbrev pub invariant-loop-p : goal.invariant-loop-p
invariant-loop-p l = record {
  size : length l.to ≡ 8;
  done : (k : ℕ) → k < l.p → slice_index l.to k ≡ slice_index l.by_port k;
}
