use Rattle.std.proofs.Common.{◌≡◌, ◌+◌, ◌^◌, ◌<◌, length}
use Rattle.noc_counts.proofs.TallyLemmas.{IsCarried}
use Rattle.noc_counts.proofs.tally.add_carry.Given as goal

abbrev pub invariant-loop-level : goal.invariant-loop-level
invariant-loop-level l = record {
  size : length l.bits ≡ 30;
  carried : l.times + 1 < 2 ^ 30 → IsCarried 32 l.fn.bits l.pending l.fn.carry l.times l.bits l.carry l.level;
}
