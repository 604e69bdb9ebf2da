use Rattle.std.proofs.Common.{◌≡◌, ℕ, ◌+◌, ◌<◌, ◌≤◌, length, slice_index}
use Rattle.noc_files.proofs.summary.add.Given as goal

-- the columns before this one are raised, the others are not
abbrev pub invariant-loop-column : goal.invariant-loop-column
invariant-loop-column l = record {
  long : length l.totals ≡ 10;
  done : (k : ℕ) → k < l.column → slice_index l.totals k ≡ slice_index l.fn.totals k + slice_index l.counts k;
  left : (k : ℕ) → l.column ≤ k → slice_index l.totals k ≡ slice_index l.fn.totals k;
}
