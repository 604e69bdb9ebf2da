-- The least mark among the channels with a rank to which steps lead from a channel, directly or
-- through adaptive channels.
use Rattle.std.specs.Prelude.{◌≡◌, ℕ, ◌+◌, ◌*◌, ◌<◌, ◌≤◌, ◌⊎◌, true, List, Option, Some, None, min, slice_index_or, length, IsTrue}
use Rattle.noc_packet.specs.Set.{has_bit}
use Rattle.noc_topo.specs.Shape.{local_port, neighbour, distance}
use Rattle.noc_steps.specs.Falls.{counts_for}
use Rattle.noc_route.specs.Channel.{Link}
use Rattle.noc_route.specs.Ranks.{Ranking, LeadsTo, is_port_channel, rank_count, rank_index, rank_at}
use Rattle.noc_route.specs.Routes.{Routes, permits}

-- the least number with this property; none where no number has it
pub record IsLeastOf (Has : ℕ → Type 0) (o : Option ℕ) : Type 0 where
  pub met : (n : ℕ) → o ≡ Some n → Has n
  pub least : (n : ℕ) → Has n → (l : ℕ) × (o ≡ Some l) × (l ≤ n)

-- the lesser of two numbers, where either may be missing
abbrev pub lesser : Option ℕ → Option ℕ → Option ℕ
lesser None b = b
lesser (Some x) None = Some x
lesser (Some x) (Some y) = Some (min x y)

-- ranks over the shape and the channels of a relation
abbrev pub over : Routes → List (Option ℕ) → Ranking
over routes ranks = record { grid = routes.grid; vcs = routes.vcs; ranks = ranks }

-- what a list has for a link channel
abbrev pub mark_at : Routes → List (Option ℕ) → ℕ → ℕ → ℕ → Option ℕ
mark_at routes marks r p v = slice_index_or marks (rank_index routes.grid routes.vcs r p v) None

-- permitted steps of a class to a destination lead from a channel to one with a rank and this mark,
-- directly or through adaptive channels
pub record IsAhead (routes : Routes) (ranks marks : List (Option ℕ)) (m t r p v n : ℕ)
    : Type 0 where
  pub router : ℕ
  pub port : ℕ
  pub vc : ℕ
  pub rank : ℕ
  pub leads : LeadsTo (λ m c t o. IsTrue (permits routes m c t o)) (rank_at (over routes ranks)) m t
      (Link r p v) (Link router port vc)
  pub ranked : rank_at (over routes ranks) router port vc ≡ Some rank
  pub mark : mark_at routes marks router port vc ≡ Some n

-- how many output channels on link ports a router has
abbrev pub outputs : Routes → ℕ
outputs routes = local_port routes.grid * routes.vcs

-- a channel of this set, with an index below `end`, counts for n
pub record IsValueIn (routes : Routes) (ranks marks least : List (Option ℕ)) (r set end n : ℕ)
    : Type 0 where
  pub index : ℕ
  pub below : index < end
  pub member : has_bit set index ≡ true
  pub value : counts_for ranks marks least (r * outputs routes + index) ≡ Some n

-- the input channels before input channel i of router b at distance d: those of nearer routers,
-- those of routers as near with lower numbers, and those of this router with lower indices
abbrev pub IsBefore : Routes → ℕ → ℕ → ℕ → ℕ → ℕ → ℕ → Type 0
IsBefore routes t d b i r j =
    (distance routes.grid r t < d) ⊎ ((distance routes.grid r t ≡ d) × (r < b))
    ⊎ ((r ≡ b) × (j < i))

-- the list has the least mark ahead of each channel that arrives at one of these
pub record AreLeast (routes : Routes) (ranks marks : List (Option ℕ)) (m t d b i : ℕ)
    (least : List (Option ℕ)) : Type 0 where
  pub long : length least ≡ rank_count routes.grid routes.vcs
  pub each : (a p w r q : ℕ) → is_port_channel routes.grid routes.vcs a p w ≡ true
      → neighbour routes.grid a p ≡ Some (r, q) → IsBefore routes t d b i r (q * routes.vcs + w)
      → IsLeastOf (IsAhead routes ranks marks m t a p w) (mark_at routes least a p w)

-- the list has the least mark ahead of each link channel
pub record AreAllLeast (routes : Routes) (ranks marks : List (Option ℕ)) (m t : ℕ)
    (least : List (Option ℕ)) : Type 0 where
  pub long : length least ≡ rank_count routes.grid routes.vcs
  pub each : (a p w r q : ℕ) → is_port_channel routes.grid routes.vcs a p w ≡ true
      → neighbour routes.grid a p ≡ Some (r, q)
      → IsLeastOf (IsAhead routes ranks marks m t a p w) (mark_at routes least a p w)
