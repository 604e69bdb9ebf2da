use Rattle.std.proofs.Common.{get_or}
use Rattle.noc_steps.proofs.WrittenLemmas.{StandsTo}
use Rattle.noc_route.proofs.columns.is_at.Given as goal

abbrev pub invariant-loop-dst : goal.invariant-loop-dst
invariant-loop-dst l = StandsTo (λ t. get_or l.column t 0) l.kept l.start l.dst
