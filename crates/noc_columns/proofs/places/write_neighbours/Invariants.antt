use Rattle.std.proofs.Common.{◌≡◌, ℕ, ◌+◌, ◌*◌, ◌%◌, ◌<◌, ◌≤◌, length}
use Rattle.noc_packet.specs.Set.{has_bit}
use Rattle.noc_columns.specs.Near.{distance_by}
use Rattle.noc_columns.specs.Places.{stands_in}
use Rattle.noc_columns.specs.Words.{word}
use Rattle.noc_columns.proofs.places.write_neighbours.Given as goal

abbrev pub invariant-loop-k : goal.invariant-loop-k
invariant-loop-k l = record {
  distances : length l.neighbours.distance ≡ 72;
  masks : length l.neighbours.mask ≡ 72;
  distance : (j : ℕ) → j < l.k → word j l.neighbours.distance ≡ distance_by l.shape (j % l.links) l.round;
  mask : (j : ℕ) → j < l.k → (r : ℕ) → r < 64 → has_bit (word j l.neighbours.mask) r ≡ stands_in l.shape (64 * l.block + r) (j % l.links) l.round l.block;
  none : (j : ℕ) → l.k ≤ j → word j l.neighbours.mask ≡ 0;
}
