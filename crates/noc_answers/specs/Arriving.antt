-- The packets to one node that are not out.
use Rattle.std.specs.Prelude.{ℕ, ◌&&◌, Bool, List, filter, is_none, length, nat_eq}
use Rattle.noc_topo.specs.Lists.{below}
use Rattle.noc_theory.specs.Network.{Setup, arrival_in, packet_at, state_at}

-- whether packet p goes to a node, and is not out at a count
abbrev pub is_left : Setup → ℕ → ℕ → ℕ → Bool
is_left net count node p =
    nat_eq (packet_at net p).destination node && is_none (arrival_in net (state_at net count) p)

-- these packets, in order
abbrev pub left_for : Setup → ℕ → ℕ → List ℕ
left_for net count node = filter (is_left net count node) (below (length net.packets))
