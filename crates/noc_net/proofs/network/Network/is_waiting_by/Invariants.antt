use Rattle.std.proofs.Common.{◌≡◌, false, take, length}
use Rattle.std.specs.Prelude.{◌&&◌, is_none, nat_le}
use Rattle.std.specs.List.{list_any}
use Rattle.noc_topo.specs.Lists.{below}
use Rattle.noc_theory.specs.Network.{arrival_in, packet_at, state_at}
use Rattle.noc_net.proofs.network.Network.is_waiting_by.Given as goal

-- no packet so far waits
abbrev pub invariant-loop-packet : goal.invariant-loop-packet
invariant-loop-packet l =
    list_any (λ p. nat_le (packet_at l.self.net p).due l.cycle && is_none (arrival_in l.self.net (state_at l.self.net l.self.count) p)) (take l.packet (below (length l.self.net.packets))) ≡ false
