use Rattle.std.proofs.Common.{◌≡◌, ℕ, ◌-◌, ◌^◌, ◌<◌, [], length, slice_index, slice_index_or}
use Rattle.noc_cycles.proofs.opening.open_turns.Given as goal

abbrev pub invariant-loop-r : goal.invariant-loop-r
invariant-loop-r l = record {
  size : length l.turns ≡ 64;
  done : (k : ℕ) → k < l.r → (o : ℕ) → o < 64 → slice_index (slice_index_or l.turns k []) o ≡ 2 ^ 64 - 1;
}
