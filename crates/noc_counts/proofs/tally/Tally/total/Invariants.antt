use Rattle.std.proofs.Common.{◌≡◌}
use Rattle.noc_counts.specs.Tallies.{at_level, number_by}
use Rattle.noc_counts.proofs.tally.Tally.total.Given as goal

abbrev pub invariant-loop-level : goal.invariant-loop-level
invariant-loop-level l = l.upper ≡ number_by (at_level l.self.bits l.self.pending l.times l.index l.router) l.level
