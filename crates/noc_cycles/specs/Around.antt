-- Where the links of the routers of a block lead.
use Rattle.std.specs.Prelude.{◌≡◌, ℕ, ◌+◌, ◌*◌, ◌<◌, List, [], Option, Some, None, filter, length, map, nat_eq, slice_index, slice_index_or}
use Rattle.noc_topo.specs.Shape.{Grid, local_port, neighbour, nodes}
use Rattle.noc_columns.specs.Places.{AreFar, IsNear, far_places}
use Rattle.noc_columns.specs.declared.neighbours.Far.{Far}
use Rattle.noc_columns.specs.declared.words.TheConstants.{ROUTERS}
use Rattle.noc_cycles.specs.declared.around.Around.{Around}
use Rattle.noc_cycles.specs.declared.around.TheConstants.{NOWHERE}

-- those of a list that stand at the ends of links of port p
abbrev pub far_by : List Far → ℕ → List Far
far_by far p = filter (λ (f : Far). nat_eq f.port p) far

-- the number of a neighbour, if there is one
abbrev pub number_or_nowhere : Option (ℕ × ℕ) → ℕ
number_or_nowhere None = NOWHERE
number_or_nowhere (Some (s, q)) = s

-- .. of that of router r of a block by port p
abbrev pub end_by : List (List ℕ) → ℕ → ℕ → ℕ
end_by ends r p = slice_index (slice_index_or ends r []) p

-- all neighbours of the routers of block b that stand in other blocks
pub record AreFarBy (g : Grid) (b : ℕ) (far : List Far) : Type 0 where
  pub ports : (j : ℕ) → j < length far
      → slice_index (map (λ (f : Far). f.port) far) j < local_port g
  pub blocks : (j : ℕ) → j < length far → ROUTERS * (far_places far).block j < nodes g
  pub each : (p : ℕ) → p < local_port g → AreFar g b p (far_by far p)

-- the numbers of all neighbours of the routers of block b, by router and port
abbrev pub AreEnds : Grid → ℕ → List (List ℕ) → Type 0
AreEnds g b ends =
    (r p : ℕ) → r < ROUTERS → ROUTERS * b + r < nodes g → p < local_port g
    → end_by ends r p ≡ number_or_nowhere (neighbour g (ROUTERS * b + r) p)

-- these are the tables of block b of a network, where each port has so many virtual channels
pub record IsAround (g : Grid) (vcs b : ℕ) (around : Around) : Type 0 where
  pub block : around.block ≡ b
  pub near : IsNear g vcs b around.near
  pub far : AreFarBy g b around.far.items
  pub ends : AreEnds g b around.ends

-- .. of so many blocks
pub record AreAround (g : Grid) (vcs count : ℕ) (all : List Around) : Type 0 where
  pub many : length all ≡ count
  pub each : (b : ℕ) (d : Around) → b < count → IsAround g vcs b (slice_index_or all b d)
