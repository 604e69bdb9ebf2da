use Rattle.noc_rank.specs.NotRising.{HasNone}
use Rattle.noc_rank.specs.Arriving.{falls_in}
use Rattle.noc_rank.proofs.rising.Arrival.first_in.Given as goal

abbrev pub invariant-loop-index : goal.invariant-loop-index
invariant-loop-index l = HasNone (falls_in l.self l.set) l.index
