use Rattle.noc_cycles.proofs.AroundLemmas.{AreFarTo}
use Rattle.noc_cycles.proofs.around.far_by_port.Given as goal

abbrev pub invariant-loop-port : goal.invariant-loop-port
invariant-loop-port l = AreFarTo l.shape l.block l.port l.far.items
