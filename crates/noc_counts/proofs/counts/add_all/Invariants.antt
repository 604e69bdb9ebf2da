use Rattle.noc_counts.specs.Counted.{HasAdded}
use Rattle.noc_counts.proofs.GroupLemmas.{AreDone}
use Rattle.noc_counts.proofs.counts.add_all.Given as goal

abbrev pub invariant-loop-group : goal.invariant-loop-group
invariant-loop-group l = AreDone (λ g old new. HasAdded l.times old new) l.fn.of l.of l.group
