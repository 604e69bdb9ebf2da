use Rattle.noc_rank.specs.LeastAhead.{IsLeastOf}
use Rattle.noc_rank.specs.Filled.{IsFoundIn}
use Rattle.noc_rank.proofs.ahead.Search.least_of.Given as goal

abbrev pub invariant-loop-index : goal.invariant-loop-index
invariant-loop-index l = IsLeastOf (IsFoundIn l.self l.least l.router l.set l.index) l.best
