use Rattle.std.proofs.Common.{◌≡◌, ℕ, ◌+◌, ◌*◌, ◌<◌, true, slice_index}
use Rattle.noc_columns.proofs.UsedLemmas.{walked}
use Rattle.noc_cycles.proofs.Common.{has_bit, packet_in, channels_of}
use Rattle.noc_cycles.proofs.ArrivalLemmas.{HaveArrivedIn}
use Rattle.noc_cycles.proofs.deliveries.arrive_all.Given as goal

abbrev pub invariant-loop-rest : goal.invariant-loop-rest
invariant-loop-rest l = record {
  few : (i : ℕ) → has_bit l.rest i ≡ true → i < (l.table.ports.links.width + 1) * l.table.ports.links.vcs;
  are : HaveArrivedIn l.cycle (λ r. walked (channels_of l.table.ports) r l.arrived l.rest) (packet_in l.packets) (slice_index l.fn.arrivals) (slice_index l.arrivals);
}

abbrev pub decreases-loop-rest : goal.decreases-loop-rest
decreases-loop-rest l = l.rest
