use Rattle.std.proofs.Common.{◌≡◌, ℕ, ◌-◌, ◌≤◌, length}
use Rattle.noc_theory.specs.Halves.{beat_at}
use Rattle.noc_tiles.specs.Partition.{own_beat}
use Rattle.noc_tiles.proofs.partition.own_beats.Given as goal

-- the rows before this one are those of the network, and the others are idle
abbrev pub invariant-loop-r : goal.invariant-loop-r
invariant-loop-r l = record {
  low : l.first ≤ l.r;
  size : length l.all.items ≡ length l.beats;
  rows : (r q : ℕ) → beat_at l.all.items r q ≡ own_beat l.first (l.r - l.first) l.beats r q;
}
