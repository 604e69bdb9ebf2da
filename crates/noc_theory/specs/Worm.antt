-- Worm order: the channels of a packet are one path, and its flits stand along it in order
-- (docs/MODEL.md, "Worms"; Dally and Towles, chapter 13).
use Rattle.std.specs.Prelude.{◌≡◌, ◌≢◌, ℕ, ◌+◌, ◌<◌, ◌≤◌, IsTrue, List, [], ◌∷◌, length, Some, ◌⊎◌}
use Rattle.noc_topo.specs.Lists.{Has, Pairs}
use Rattle.noc_route.specs.Channel.{Channel, Inject, is_link}
use Rattle.noc_route.specs.Routes.{permits}
use Rattle.noc_theory.specs.Network.{Setup, State, Located, place_of_flit, tail_place, Place, Source, On, In, is_past, packet_at, all_inputs, buffer_of, owned_by, owner_of, has_channel}
use Rattle.noc_theory.specs.Progress.{weight}

module _ (net : Setup) where
  -- each channel leads on to the next along the relation
  abbrev pub IsPath : ℕ → ℕ → List Channel → Type 0
  IsPath m t [] = Unit {0}
  IsPath m t (c ∷ []) = Unit {0}
  IsPath m t (c ∷ o ∷ rest) = IsTrue (permits net.relation m c t o) × IsPath m t (o ∷ rest)

  -- these flits are of packet p, with consecutive indices from i on
  abbrev pub IsRun : ℕ → ℕ → List Located → Type 0
  IsRun p i [] = Unit {0}
  IsRun p i (f ∷ fs) = (f.packet ≡ p) × (f.index ≡ i) × IsRun p (i + 1) fs

  -- where the tail is of a packet whose first channel is c: in its buffer, on its wire,
  -- or at the source if c is an injection channel. Or it has gone on, while the last
  -- credit of c is on its way
  abbrev pub IsRear : State → ℕ → Channel → Place → Type 0
  IsRear S p (Inject n v) Source = Unit {0}
  IsRear S p c place =
      (place ≡ In c) ⊎ (place ≡ On c)
      ⊎ (IsTrue (is_past net c (packet_at net p).destination place) × IsTrue (has_channel S.back c))

  -- what holds of every state of every network
  pub record IsWormOrder (S : State) : Type 0 where
    -- the channels that a packet owns are one path along the relation, from its tail to its head
    pub path : (p : ℕ) → p < length net.packets
        → IsPath (packet_at net p).class (packet_at net p).destination (owned_by net S p)
    -- no channel is owned twice, by one packet or by two
    pub one_owner : Pairs (λ (a b : Channel × ℕ). a.0 ≢ b.0) S.own
    pub rear : (p : ℕ) (c : Channel) (rest : List Channel) → p < length net.packets
        → owned_by net S p ≡ c ∷ rest → IsRear S p c (tail_place net S p)
    -- no flit is ahead of one with a smaller index
    pub in_order : (p i j : ℕ) → p < length net.packets → i ≤ j → j < (packet_at net p).length →
        weight net p (place_of_flit net S p i) ≤ weight net p (place_of_flit net S p j)
    -- a flit on a wire is on a link channel of its packet
    pub on_own : (f : Located) (c : Channel) → Has f S.at → f.place ≡ On c
        → IsTrue (is_link c) × (owner_of net S c ≡ Some f.packet)
    -- no buffer holds more flits than its depth
    pub in_depth : (c : Channel) → length (buffer_of net S c) ≤ net.depth
    -- a flit in a buffer is in one of a link or an injection channel of the network: there are none
    -- in ejection channels, nor at ports without a link
    pub in_input : (c : Channel) → (buffer_of net S c ≡ []) ⊎ Has c (all_inputs net)
    -- the flits of a buffer are of the packet that owns it, with consecutive indices
    pub unmixed : (c : Channel)
        → (buffer_of net S c ≡ [])
        ⊎ ((p : ℕ) × (i : ℕ) × (owner_of net S c ≡ Some p) × IsRun p i (buffer_of net S c))
