use Rattle.std.proofs.Common.{◌≡◌, ℕ, ◌<◌, ◌+◌, length, slice_index}
use Rattle.noc_packet.specs.Set.{has_bit}
use Rattle.noc_columns.specs.Near.{comes_from}
use Rattle.noc_columns.specs.Words.{word}
use Rattle.noc_columns.proofs.over_links.turned_four.Given as goal

abbrev pub invariant-loop-j : goal.invariant-loop-j
invariant-loop-j l = record {
  size : length l.all ≡ 4;
  done : (k : ℕ) → k < l.j → (r : ℕ) → r < 64 → has_bit (slice_index l.all k) r ≡ comes_from (word (l.at + k) l.neighbours.distance) (word (l.at + k) l.neighbours.mask) (slice_index l.sent k) r;
}
