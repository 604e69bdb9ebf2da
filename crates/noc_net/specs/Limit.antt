-- Whether all packets are out, and by when they have to be (docs/MODEL.md,
-- "Events, pending, stuck").
use Rattle.std.specs.Prelude.{◌≡◌, ◌⊎◌, ℕ, ◌+◌, ◌≤◌, Bool, List, Some, length, is_some, slice_get}
use Rattle.std.specs.List.{list_all}
use Rattle.noc_topo.specs.Lists.{below}
use Rattle.noc_packet.specs.declared.packet.Packet.{Packet}
use Rattle.noc_theory.specs.Network.{Setup, State, arrival_in}
use Rattle.noc_theory.specs.Progress.{budget}

-- the last due time of some packets: none is due later, and one is due then; 0 where there are none
pub record IsLastDue (packets : List Packet) (last : ℕ) : Type 0 where
  pub none_later : (i : ℕ) (p : Packet) → slice_get packets i ≡ Some p → p.due ≤ last
  pub one_then : (last ≡ 0)
      ⊎ ((i : ℕ) × (p : Packet) × (slice_get packets i ≡ Some p) × (p.due ≡ last))

-- the last due time and the budget; 0 without packets
pub record IsLimit (net : Setup) (limit : ℕ) : Type 0 where
  pub last : ℕ
  pub due : IsLastDue net.packets last
  pub sum : limit ≡ last + budget net

-- the tail of every packet is out
abbrev pub are_all_out : Setup → State → Bool
are_all_out net S = list_all (λ p. is_some (arrival_in net S p)) (below (length net.packets))
