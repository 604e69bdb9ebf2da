use Rattle.std.proofs.Common.{◌≡◌, ℕ, ◌<◌, ◌+◌, bit_or, slice_index, length}
use Rattle.noc_sets.specs.Sets.{less}
use Rattle.noc_columns.specs.Picks.{turn_word}
use Rattle.noc_columns.specs.Words.{word}
use Rattle.noc_columns.proofs.PassLemmas.{IsPassed}
use Rattle.noc_columns.proofs.picks.pick_next.Given as goal

abbrev pub invariant-loop-j : goal.invariant-loop-j
invariant-loop-j l = record {
  before_size : length l.turn.before ≡ 8;
  here_size : length l.here ≡ 8;
  first : l.turn.first ≡ l.fn.turn.first;
  before : IsPassed (λ k. bit_or (slice_index l.fn.turn.before k) (turn_word (slice_index l.fn.turn.first k) (word (l.at + k) l.ready) (word (l.at + k) l.ahead))) (λ k. slice_index l.fn.turn.before k) (λ k. slice_index l.turn.before k) l.j;
  here : (k : ℕ) → k < l.j → slice_index l.here k ≡ less (turn_word (slice_index l.fn.turn.first k) (word (l.at + k) l.ready) (word (l.at + k) l.ahead)) (slice_index l.fn.turn.before k);
}
