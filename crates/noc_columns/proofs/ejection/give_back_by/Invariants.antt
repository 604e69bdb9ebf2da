use Rattle.std.proofs.Common.{◌+◌, ◌^◌}
use Rattle.noc_columns.specs.Marks.{ChangesIdle}
use Rattle.noc_columns.specs.Supply.{number_in}
use Rattle.noc_columns.proofs.WalkLemmas.{AreAdded}
use Rattle.noc_columns.proofs.ejection.give_back_by.Given as goal

abbrev pub invariant-loop-rest : goal.invariant-loop-rest
invariant-loop-rest l = record {
  idle : AreAdded l.routers l.rest (λ r. 2 ^ (l.links + number_in l.vc r)) l.fn.marks.idle l.marks.idle;
  kept : ChangesIdle l.fn.marks l.marks;
}

abbrev pub decreases-loop-rest : goal.decreases-loop-rest
decreases-loop-rest l = l.rest
