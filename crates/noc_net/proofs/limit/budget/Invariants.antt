use Rattle.std.proofs.Common.{◌≡◌, ◌≤◌, ◌+◌, ◌*◌, take, length}
use Rattle.std.specs.List.{sum_by}
use Rattle.noc_topo.specs.Lists.{below}
use Rattle.noc_theory.specs.Network.{packet_at}
use Rattle.noc_theory.specs.Progress.{hops}
use Rattle.noc_net.specs.declared.limit.TheConstants.{MAX_EVENTS}
use Rattle.noc_net.proofs.limit.budget.Given as goal

-- the events of the packets so far
abbrev pub invariant-loop-packet : goal.invariant-loop-packet
invariant-loop-packet l =
    (l.events ≡ sum_by (λ p. (packet_at l.network.net p).length * (3 * hops l.network.net p + 2) + 2 * (hops l.network.net p + 1)) (take l.packet (below (length l.network.net.packets))))
    × (l.events ≤ l.packet * MAX_EVENTS)
