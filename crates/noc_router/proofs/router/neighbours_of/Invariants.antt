use Rattle.std.proofs.Common.{None}
use Rattle.noc_topo.specs.Shape.{neighbour}
use Rattle.noc_router.proofs.TableLemmas.{IsWrittenTo}
use Rattle.noc_router.proofs.router.neighbours_of.Given as goal

-- those of the ports so far are there
abbrev pub invariant-loop-port : goal.invariant-loop-port
invariant-loop-port l = IsWrittenTo 6 l.port None (neighbour l.shape l.node) l.neighbours
