-- Nodes, ports, links and distances of a mesh or a torus.
use Rattle.std.specs.Prelude.{◌≡◌, ℕ, ◌+◌, ◌-◌, ◌*◌, ◌/◌, ◌%◌, ◌<◌, ◌≤◌, min, Bool, true, false, ◌&&◌, not, List, [], ◌∷◌, length, Option, Some, None, Result, Ok, Err, option_map, nat_eq, nat_lt, nat_le, slice_index, slice_set, if◌then◌else◌}
use Rattle.std.specs.List.{list_all}
use Rattle.noc_topo.specs.declared.limits.TheConstants.{MAX_DIMENSIONS, MAX_RADIX, MAX_NODES}
use Rattle.noc_topo.specs.declared.shape.Kind.{Kind}
use Rattle.noc_topo.specs.declared.shape.Kind.TheVariants.{Mesh, Torus}
use Rattle.noc_topo.specs.declared.shape.ShapeFault.{ShapeFault}
use Rattle.noc_topo.specs.declared.shape.ShapeFault.TheVariants.{BadDimensions, BadRadix, TooManyNodes}

-- a shape: the lengths of its dimensions, lowest first, and whether their ends are joined
pub record Grid : Type 0 where
  pub wraps : Bool  -- a torus
  pub radix : List ℕ

abbrev pub product : List ℕ → ℕ
product [] = 1
product (k ∷ ks) = k * product ks

abbrev pub nodes : Grid → ℕ
nodes g = product g.radix

abbrev pub dimensions : Grid → ℕ
dimensions g = length g.radix

-- the port 2i leads up in dimension i, the port 2i+1 leads down, and the last port is local
abbrev pub local_port : Grid → ℕ
local_port g = 2 * dimensions g

abbrev pub ports : Grid → ℕ
ports g = 2 * dimensions g + 1

-- a radix is 2 to MAX_RADIX
abbrev pub is_radix : ℕ → Bool
is_radix k = nat_le 2 k && nat_le k MAX_RADIX

-- a dimension or more, each of a radix, within the limits
pub record IsGrid (g : Grid) : Type 0 where
  pub some_dimensions : 1 ≤ length g.radix
  pub few_dimensions : length g.radix ≤ MAX_DIMENSIONS
  pub sizes : list_all is_radix g.radix ≡ true
  pub few_nodes : product g.radix ≤ MAX_NODES

abbrev pub wraps_of : Kind → Bool
wraps_of Mesh = false
wraps_of Torus = true

-- the shape of these sizes, or the first fault: dimensions, then sizes, then nodes
abbrev pub shape_of : Kind → List ℕ → Result Grid ShapeFault
shape_of kind ks =
    if not (nat_le 1 (length ks) && nat_le (length ks) MAX_DIMENSIONS) then Err BadDimensions
    else (if not (list_all is_radix ks) then Err BadRadix
    else (if nat_lt MAX_NODES (product ks) then Err TooManyNodes
    else Ok (record { wraps = wraps_of kind; radix = ks })))

-- the node with these coordinates, x0 + k0*(x1 + k1*x2)
abbrev pub node_at : List ℕ → List ℕ → ℕ
node_at [] xs = 0
node_at (k ∷ ks) [] = 0
node_at (k ∷ ks) (x ∷ xs) = x + k * node_at ks xs

-- the coordinates of a node, lowest dimension first
abbrev pub coordinates : List ℕ → ℕ → List ℕ
coordinates [] node = []
coordinates (k ∷ ks) node = (node % k) ∷ coordinates ks (node / k)

-- three coordinates, 0 where a dimension is missing
abbrev pub three_coordinates : List ℕ → List ℕ
three_coordinates xs = slice_index xs 0 ∷ slice_index xs 1 ∷ slice_index xs 2 ∷ []

abbrev pub is_plus : ℕ → Bool
is_plus port = nat_eq (port % 2) 0

-- the port at the other end of a link
abbrev pub opposite : ℕ → ℕ
opposite port = if is_plus port then port + 1 else port - 1

-- the coordinate one further in a dimension of radix k, up or down
abbrev pub moved_in : Bool → ℕ → Bool → ℕ → Option ℕ
moved_in wraps k true x =
    if nat_lt (x + 1) k then Some (x + 1) else (if wraps then Some 0 else None)
moved_in wraps k false x =
    if nat_lt 0 x then Some (x - 1) else (if wraps then Some (k - 1) else None)

-- the node to which a port leads, and the port by which a flit enters there
abbrev pub neighbour : Grid → ℕ → ℕ → Option (ℕ × ℕ)
neighbour g node port =
    let xs = coordinates g.radix node in
    let i = port / 2 in
    if nat_lt port (local_port g)
    then option_map (λ x. (node_at g.radix (slice_set xs i x), opposite port))
    (moved_in g.wraps (slice_index g.radix i) (is_plus port) (slice_index xs i))
    else None

-- port q of node b is a link port that leads back to port p of node a
pub record IsLinkBack (g : Grid) (a p b q : ℕ) : Type 0 where
  pub node : b < nodes g
  pub port : q < local_port g
  pub back : neighbour g b q ≡ Some (a, p)

-- how far x and t are apart in a dimension of radix k
abbrev pub distance_in : Bool → ℕ → ℕ → ℕ → ℕ
distance_in wraps k x t = let d = (x - t) + (t - x) in if wraps then min d (k - d) else d

-- the sum of the distances in each dimension
abbrev pub distance_of : Bool → List ℕ → List ℕ → List ℕ → ℕ
distance_of wraps [] xs ts = 0
distance_of wraps (k ∷ ks) [] ts = 0
distance_of wraps (k ∷ ks) (x ∷ xs) [] = 0
distance_of wraps (k ∷ ks) (x ∷ xs) (t ∷ ts) = distance_in wraps k x t + distance_of wraps ks xs ts

abbrev pub distance : Grid → ℕ → ℕ → ℕ
distance g a b = distance_of g.wraps g.radix (coordinates g.radix a) (coordinates g.radix b)
