use Rattle.std.proofs.Common.{◌≡◌, ℕ, ◌<◌, length, bit_and, bit_or, slice_index}
use Rattle.noc_sets.specs.Sets.{less}
use Rattle.noc_columns.proofs.switch.advanced.Given as goal

abbrev pub invariant-loop-q : goal.invariant-loop-q
invariant-loop-q l = record {
  size : length l.next ≡ 8;
  done : (k : ℕ) → k < l.q → slice_index l.next k ≡ bit_or (bit_and (slice_index l.past k) (slice_index l.any k)) (less (slice_index l.ahead k) (slice_index l.any k));
}
