use Rattle.std.proofs.Common.{◌≡◌, true, take, length}
use Rattle.std.specs.Prelude.{is_some}
use Rattle.std.specs.List.{list_all}
use Rattle.noc_topo.specs.Lists.{below}
use Rattle.noc_theory.specs.Network.{arrival_in, state_at}
use Rattle.noc_net.proofs.network.Network.all_out.Given as goal

-- every packet so far is out
abbrev pub invariant-loop-packet : goal.invariant-loop-packet
invariant-loop-packet l =
    list_all (λ p. is_some (arrival_in l.self.net (state_at l.self.net l.self.count) p)) (take l.packet (below (length l.self.net.packets))) ≡ true
