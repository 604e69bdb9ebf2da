use Rattle.noc_rank.specs.LeastAhead.{IsLeastOf}
use Rattle.noc_rank.specs.NotRisingTo.{IsOverFirst, IsStartBy}
use Rattle.noc_rank.proofs.descent.first_start.Given as goal

abbrev pub invariant-loop-number : goal.invariant-loop-number
invariant-loop-number l = IsLeastOf (IsOverFirst l.list.relation.now (IsStartBy l.list.relation.now l.list.ranks.now) l.number) l.first
