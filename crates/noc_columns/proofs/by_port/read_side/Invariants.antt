use Rattle.std.proofs.Common.{◌≡◌, ℕ, ◌<◌, ◌+◌, length, slice_index}
use Rattle.noc_columns.specs.Words.{word}
use Rattle.noc_columns.proofs.by_port.read_side.Given as goal

abbrev pub invariant-loop-j : goal.invariant-loop-j
invariant-loop-j l = record {
  size : length l.by_port ≡ 8;
  done : (k : ℕ) → k < l.j → slice_index l.by_port k ≡ word (l.at + k) l.words;
}
