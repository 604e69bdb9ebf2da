use Rattle.std.proofs.Common.{◌≡◌, ℕ, ◌+◌, ◌<◌, bit_and, bit_or, length, slice_index}
use Rattle.noc_sets.specs.Sets.{less}
use Rattle.noc_columns.specs.Words.{word}
use Rattle.noc_columns.proofs.injection.brought_four.Given as goal

abbrev pub invariant-loop-j : goal.invariant-loop-j
invariant-loop-j l = record {
  flits_size : length l.four.flits ≡ 4;
  tails_size : length l.four.tails ≡ 4;
  size : length l.four.injecting ≡ 4;
  flits : (k : ℕ) → k < l.j → slice_index l.four.flits k ≡ bit_or (word (l.at + k) l.injection.went) (word (l.at + k) l.injection.begun);
  tails : (k : ℕ) → k < l.j → slice_index l.four.tails k ≡ bit_and (slice_index l.four.flits k) l.last;
  injecting : (k : ℕ) → k < l.j → slice_index l.four.injecting k ≡ less (bit_or (word (l.at + k) l.injection.injecting) (word (l.at + k) l.injection.begun)) (slice_index l.four.tails k);
}
