use Rattle.noc_rank.specs.Filled.{IsFilled}
use Rattle.noc_rank.proofs.ahead.Search.fill_least.Given as goal

abbrev pub invariant-loop-distance : goal.invariant-loop-distance
invariant-loop-distance l = IsFilled l.self l.distance 0 0 l.least
