-- What comes to the routers of a block over the links, and where their neighbours stand.
use Rattle.std.specs.Prelude.{◌≡◌, ℕ, ◌+◌, ◌-◌, ◌*◌, ◌/◌, ◌%◌, ◌<◌, Bool, true, ◌&&◌, ◌||◌, List, Some, nat_eq, if◌then◌else◌}
use Rattle.noc_packet.specs.Set.{has_bit}
use Rattle.noc_sets.specs.Gather.{goes_round, goes_straight, round, span, straight, stride}
use Rattle.noc_sets.specs.Unions.{some_below}
use Rattle.noc_topo.specs.Shape.{Grid, is_plus, neighbour, nodes, opposite}
use Rattle.noc_columns.specs.Words.{word}
use Rattle.noc_columns.specs.declared.neighbours.Near.{Near}
use Rattle.noc_columns.specs.declared.neighbours.Neighbours.{Neighbours}
use Rattle.noc_columns.specs.declared.words.TheConstants.{ROUTERS}

-- whether router r gets what the one has in this word that stands so far from it
abbrev pub comes_from : ℕ → ℕ → ℕ → ℕ → Bool
comes_from distance mask sent r = has_bit mask r && has_bit sent ((r + distance) % ROUTERS)

-- whether it gets that of link channel k, from neighbours in the same block. (Words of opposite
-- ports stand in pairs.)
abbrev pub comes_at : Neighbours → List ℕ → ℕ → ℕ → Bool
comes_at n sent k r = comes_from (word k n.distance) (word k n.mask) (word (opposite k) sent) r

abbrev pub comes_near : Near → List ℕ → ℕ → ℕ → Bool
comes_near near sent k r =
    comes_at near.straight sent k r || (near.rings && comes_at near.round sent k r)

-- ---- where the neighbours of a router by one port may stand: of so many places each in a block,
-- so far on, for the routers of a mask
pub record Places : Type 0 where
  pub count : ℕ
  pub block : ℕ → ℕ
  pub distance : ℕ → ℕ
  pub mask : ℕ → ℕ

-- whether router r gets what the one there has, where `sent` has the words by block
abbrev pub comes_by : Places → (ℕ → ℕ) → ℕ → Bool
comes_by places sent r =
    some_below places.count
    (λ j. comes_from (places.distance j) (places.mask j) (sent (places.block j)) r)

-- router s is router s % ROUTERS of block s / ROUTERS; these are the places of its neighbour by
-- port p: the neighbour stands in each of which the mask has the router, and there is one if it has
-- a neighbour
pub record ArePlaces (g : Grid) (s p : ℕ) (places : Places) : Type 0 where
  pub right : (j : ℕ) → j < places.count → has_bit (places.mask j) (s % ROUTERS) ≡ true
      → neighbour g s p
      ≡ Some (ROUTERS * places.block j + (s % ROUTERS + places.distance j) % ROUTERS, opposite p)
  pub some : (t q : ℕ) → neighbour g s p ≡ Some (t, q)
      → (j : ℕ) × (j < places.count) × (has_bit (places.mask j) (s % ROUTERS) ≡ true)

-- ---- where they stand in a mesh or a torus
-- whether port p of router s leads one step on, or to the other end of its line, and to which
-- router
abbrev pub leads : Grid → ℕ → ℕ → Bool → Bool
leads g s p far = if far then goes_round g s p else goes_straight g s p

abbrev pub lands_at : Grid → ℕ → ℕ → Bool → ℕ
lands_at g s p far = if far then round g s p else straight g s p

-- how many routers further on that is, around the end of a block
abbrev pub distance_by : Grid → ℕ → Bool → ℕ
distance_by g p far =
    let up = (if far then span g (p / 2) else stride g (p / 2)) % ROUTERS in
    if is_plus p then (if far then (ROUTERS - up) % ROUTERS else up)
    else (if far then up else (ROUTERS - up) % ROUTERS)

-- these are the places of the neighbours of the routers of block b by port p, each one step on or
-- at the other end of a line
pub record ArePlacesOf (g : Grid) (b p : ℕ) (far : ℕ → Bool) (places : Places) : Type 0 where
  pub distance : (j : ℕ) → j < places.count → places.distance j ≡ distance_by g p (far j)
  pub mask : (j s : ℕ) → j < places.count → s / ROUTERS ≡ b → s < nodes g
      → has_bit (places.mask j) (s % ROUTERS)
      ≡ (leads g s p (far j) && nat_eq (lands_at g s p (far j) / ROUTERS) (places.block j))
  pub all : (s : ℕ) (way : Bool) → s / ROUTERS ≡ b → s < nodes g → leads g s p way ≡ true
      → (j : ℕ) × (j < places.count) × (far j ≡ way)
      × (places.block j ≡ lands_at g s p way / ROUTERS)
