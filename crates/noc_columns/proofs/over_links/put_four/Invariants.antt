use Rattle.std.proofs.Common.{◌≡◌, ◌⊎◌, ℕ, ◌<◌, ◌≤◌, ◌+◌, length, slice_index}
use Rattle.noc_columns.specs.Words.{word}
use Rattle.noc_columns.proofs.over_links.put_four.Given as goal

abbrev pub invariant-loop-j : goal.invariant-loop-j
invariant-loop-j l = record {
  size : length l.words ≡ 72;
  done : (k : ℕ) → k < l.j → word (l.at + k) l.words ≡ slice_index l.four k;
  others : (k : ℕ) → (k < l.at) ⊎ (l.at + l.j ≤ k) → word k l.words ≡ word k l.fn.words;
}
