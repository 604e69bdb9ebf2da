use Rattle.noc_columns.proofs.FarLemmas.{AreJoined}
use Rattle.noc_columns.proofs.over_links.gather_far.Given as goal

abbrev pub invariant-loop-v : goal.invariant-loop-v
invariant-loop-v l = record {
  flits : AreJoined l.links l.far l.v l.left.flits l.fn.came.flits l.came.flits;
  tails : AreJoined l.links l.far l.v l.left.tails l.fn.came.tails l.came.tails;
  credits : AreJoined l.links l.far l.v l.left.credits l.fn.came.credits l.came.credits;
}
