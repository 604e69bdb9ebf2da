use Rattle.std.proofs.Common.{get_or}
use Rattle.noc_steps.proofs.WrittenLemmas.{StandsTo, LeavesOthers}
use Rattle.noc_route.proofs.columns.write.Given as goal

abbrev pub invariant-loop-dst : goal.invariant-loop-dst
invariant-loop-dst l = record {
  written : StandsTo (λ t. get_or l.column t 0) l.sets l.start l.dst;
  others : LeavesOthers l.fn.sets l.sets l.start l.dst;
}
