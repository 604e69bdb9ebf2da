use Rattle.noc_topo.specs.Shape.{distance}
use Rattle.noc_rank.specs.Filled.{IsFilled}
use Rattle.noc_rank.proofs.ahead.Search.fill_router.Given as goal

abbrev pub invariant-loop-input : goal.invariant-loop-input
invariant-loop-input l = IsFilled l.self (distance l.self.relation.now.grid l.router l.self.dst) l.router l.input l.least
