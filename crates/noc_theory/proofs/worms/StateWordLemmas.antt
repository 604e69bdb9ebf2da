-- The words of the invariant: where flits are, who owns what, and what is routed.
use Rattle.std.specs.Prelude.{◌≡◌, ◌≢◌, ◌⊎◌, ℕ, ◌+◌, ◌-◌, ◌<◌, ◌≤◌, true, false, List, length}
use Rattle.noc_theory.proofs.Common.{Has, Pairs, distance, Channel, Link, Inject, Eject, Setup, State, Located, Place, Source, On, In, Out, packet_at, has_channel, is_past, leads_from, end_distance, tail_place, hops, head_place, IsValid}

-- the first index of a packet is below the second, if they are of one packet
abbrev pub IsSortedPair : Located → Located → Type 0
IsSortedPair f g = f.packet ≡ g.packet → f.index < g.index

-- pairs of different channels
abbrev pub IsOtherChannel : Channel × ℕ → Channel × ℕ → Type 0
IsOtherChannel a b = a.0 ≢ b.0

-- an ejection channel
abbrev pub IsEject : Channel → Type 0
IsEject (Link r p v) = ⊥
IsEject (Inject n v) = ⊥
IsEject (Eject n v) = Unit {0}

-- x comes before y, or is y: by key, then by number
abbrev pub Precedes : (ℕ → ℕ) → ℕ → ℕ → Type 0
Precedes key x y = (key x < key y) ⊎ ((key x ≡ key y) × (x ≤ y))

module _ (net : Setup) where
  -- the class of a packet, its destination, the index of its tail, and how far from its
  -- destination a channel ends
  abbrev pub class_of : ℕ → ℕ
  class_of p = (packet_at net p).class

  abbrev pub goal : ℕ → ℕ
  goal p = (packet_at net p).destination

  abbrev pub last_of : ℕ → ℕ
  last_of p = (packet_at net p).length - 1

  abbrev pub far_of : ℕ → Channel → ℕ
  far_of p c = end_distance net.relation c (goal p)

  -- a link channel of p leads one nearer, and ends nearer to its destination than its source; an
  -- injection channel is at its source, an ejection channel at its destination
  abbrev pub IsNear : ℕ → Channel → Type 0
  IsNear p (Link r a v) = (far_of p (Link r a v) < hops net p) × (distance net.relation.grid r (goal p) ≡ far_of p (Link r a v) + 1)
  IsNear p (Inject n v) = n ≡ (packet_at net p).source
  IsNear p (Eject n v) = distance net.relation.grid n (goal p) ≡ 0

  -- a flit of p is on a link channel or in the buffer of a link or injection
  -- channel only where p owns it
  abbrev pub IsPlaced : List (Channel × ℕ) → ℕ → Place → Type 0
  IsPlaced own p Source = Unit {0}
  IsPlaced own p (On (Link r a v)) = Has (Link r a v, p) own
  IsPlaced own p (On (Inject n v)) = ⊥
  IsPlaced own p (On (Eject n v)) = ⊥
  IsPlaced own p (In (Link r a v)) = Has (Link r a v, p) own
  IsPlaced own p (In (Inject n v)) = Has (Inject n v, p) own
  IsPlaced own p (In (Eject n v)) = ⊥
  IsPlaced own p (Out n) = Unit {0}

  -- at the source, or in the buffer of c
  abbrev pub IsEntering : Channel → Place → Type 0
  IsEntering c Source = Unit {0}
  IsEntering c (On d) = ⊥
  IsEntering c (In d) = d ≡ c
  IsEntering c (Out n) = ⊥

  -- every flit of every packet once, in order
  pub record IsKeyed (at : List Located) : Type 0 where
    pub sorted : Pairs IsSortedPair at
    pub valid : (f : Located) → Has f at → IsValid net f.packet f.index
    pub whole : (p i : ℕ) → IsValid net p i → (f : Located) × Has f at × (f.packet ≡ p) × (f.index ≡ i)

  -- this place is in the buffer of c, or past it
  abbrev pub Come : ℕ → Channel → Place → Type 0
  Come p c x = (x ≡ In c) ⊎ (is_past net c (goal p) x ≡ true)

  -- p owns c, which is no ejection channel
  abbrev pub IsHeld : State → Channel → ℕ → Type 0
  IsHeld S c p = Has (c, p) S.own × (IsEject c → ⊥)

  -- some channel of p begins at the end of c
  abbrev pub HasNext : State → Channel → ℕ → Type 0
  HasNext S c p = (o : Channel) × Has (o, p) S.own × (leads_from net c o ≡ true)

  -- between the phases: c is routed where the head has come and the tail is
  -- not past it, and not before
  pub record IsRoutedMid (S : State) : Type 0 where
    pub only : (c : Channel) → has_channel S.routed c ≡ true → (p : ℕ) × IsHeld S c p × Come p c (head_place net S p) × (is_past net c (goal p) (tail_place net S p) ≡ false)
    pub passed : (c : Channel) (p : ℕ) → IsHeld S c p → is_past net c (goal p) (head_place net S p) ≡ true → is_past net c (goal p) (tail_place net S p) ≡ false → has_channel S.routed c ≡ true
    pub leads : (c : Channel) (p : ℕ) → IsHeld S c p → is_past net c (goal p) (head_place net S p) ≡ true → is_past net c (goal p) (tail_place net S p) ≡ false → HasNext S c p
    pub granted : (c : Channel) (p : ℕ) → IsHeld S c p → HasNext S c p → is_past net c (goal p) (tail_place net S p) ≡ false → has_channel S.routed c ≡ true
    pub eject : (n v p k : ℕ) → Has (Eject n v, p) S.own → tail_place net S p ≡ Out k → ⊥

  -- p precedes each packet of its node that has its tail at its source
  abbrev pub IsFirstOf : State → ℕ → Type 0
  IsFirstOf S p = (q : ℕ) → q < length net.packets → (packet_at net q).source ≡ (packet_at net p).source → tail_place net S q ≡ Source → Precedes (λ x. (packet_at net x).due) p q
