use Rattle.noc_counts.specs.Counts.{AreClear}
use Rattle.noc_counts.proofs.counts.no_counts.Given as goal

abbrev pub invariant-loop-number : goal.invariant-loop-number
invariant-loop-number l = AreClear l.number l.all.items
