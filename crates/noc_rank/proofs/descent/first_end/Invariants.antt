use Rattle.noc_rank.specs.LeastAhead.{IsLeastOf}
use Rattle.noc_rank.specs.NotRisingTo.{IsOverFirst, IsAheadAt}
use Rattle.noc_rank.proofs.descent.first_end.Given as goal

abbrev pub invariant-loop-number : goal.invariant-loop-number
invariant-loop-number l = IsLeastOf (IsOverFirst l.list.relation.now (λ m t n. IsAheadAt l.list.relation.now l.list.ranks.now l.marks m t l.start n) l.number) l.first
