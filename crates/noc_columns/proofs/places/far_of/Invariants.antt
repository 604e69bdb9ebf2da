use Rattle.noc_columns.proofs.PlaceLemmas.{AreFarTo}
use Rattle.noc_columns.proofs.places.far_of.Given as goal

abbrev pub invariant-loop-i : goal.invariant-loop-i
invariant-loop-i l = AreFarTo l.shape l.block l.port l.i l.far.items
