use Rattle.std.proofs.Common.{◌≡◌, ◌≤◌}
use Rattle.noc_counts.specs.Low.{set_sum}
use Rattle.noc_counts.proofs.count.total_of.Given as goal

abbrev pub invariant-loop-slot : goal.invariant-loop-slot
invariant-loop-slot l = record { is : l.sum ≡ set_sum l.sets l.slot l.place l.router; small : l.sum ≤ l.slot }
