use Rattle.std.proofs.Common.{◌≡◌, ℕ, ◌<◌, length, bit_or, slice_index}
use Rattle.noc_columns.proofs.over_links.join_four.Given as goal

abbrev pub invariant-loop-j : goal.invariant-loop-j
invariant-loop-j l = record {
  size : length l.all ≡ 4;
  done : (k : ℕ) → k < l.j → slice_index l.all k ≡ bit_or (slice_index l.first k) (slice_index l.second k);
}
