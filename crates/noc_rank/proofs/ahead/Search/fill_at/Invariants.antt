use Rattle.noc_rank.specs.Filled.{IsFilled}
use Rattle.noc_rank.proofs.ahead.Search.fill_at.Given as goal

abbrev pub invariant-loop-router : goal.invariant-loop-router
invariant-loop-router l = IsFilled l.self l.distance l.router 0 l.least
