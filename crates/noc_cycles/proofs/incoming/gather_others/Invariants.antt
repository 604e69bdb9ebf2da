use Rattle.noc_cycles.proofs.Common.{left_by}
use Rattle.noc_cycles.proofs.GatherLemmas.{AreJoinedTo}
use Rattle.noc_cycles.proofs.incoming.gather_others.Given as goal

abbrev pub invariant-loop-one : goal.invariant-loop-one
invariant-loop-one l = record {
  flits : AreJoinedTo l.links l.far (λ b. (left_by l.left b).flits) l.one-index l.fn.came.flits l.came.flits;
  tails : AreJoinedTo l.links l.far (λ b. (left_by l.left b).tails) l.one-index l.fn.came.tails l.came.tails;
  credits : AreJoinedTo l.links l.far (λ b. (left_by l.left b).credits) l.one-index l.fn.came.credits l.came.credits;
}
