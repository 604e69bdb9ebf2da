use Rattle.std.proofs.Common.{slice_index}
use Rattle.noc_cycles.proofs.Common.{packet_in}
use Rattle.noc_cycles.proofs.ArrivalLemmas.{HaveArrivedBut}
use Rattle.noc_cycles.proofs.deliveries.arrive_from.Given as goal

abbrev pub invariant-loop-rest : goal.invariant-loop-rest
invariant-loop-rest l = HaveArrivedBut l.cycle l.routers l.rest (λ r. packet_in l.packets r l.channel) (slice_index l.fn.arrivals) (slice_index l.arrivals)

abbrev pub decreases-loop-rest : goal.decreases-loop-rest
decreases-loop-rest l = l.rest
