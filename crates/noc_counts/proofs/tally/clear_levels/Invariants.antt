use Rattle.std.proofs.Common.{◌≡◌, ℕ, ◌<◌, [], slice_index_or, length}
use Rattle.noc_columns.specs.Words.{word}
use Rattle.noc_counts.proofs.tally.clear_levels.Given as goal

abbrev pub invariant-loop-level : goal.invariant-loop-level
invariant-loop-level l = record {
  size : length l.levels ≡ 30;
  done : (k : ℕ) → k < l.level → (i : ℕ) → i < 32 → word i (slice_index_or l.levels k []) ≡ 0;
}
