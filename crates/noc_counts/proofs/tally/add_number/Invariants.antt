use Rattle.std.proofs.Common.{◌≡◌, length, replicate}
use Rattle.noc_counts.proofs.TallyLemmas.{IsCarried}
use Rattle.noc_counts.proofs.tally.add_number.Given as goal

abbrev pub invariant-loop-level : goal.invariant-loop-level
invariant-loop-level l = record {
  size : length l.bits ≡ 30;
  carried : IsCarried 32 l.fn.bits (replicate 30 l.set) l.fn.carry l.times l.bits l.carry l.level;
}
