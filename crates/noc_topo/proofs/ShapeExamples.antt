-- Small shapes, computed.
use Rattle.std.proofs.Common.{◌≡◌, true, false, [], ◌∷◌, map, Some, None, Ok, Err, refl}
use Rattle.noc_topo.specs.Lists.{below, tabulate, least_by}
use Rattle.noc_topo.specs.Shape.{Grid, shape_of, neighbour, distance, coordinates, three_coordinates}
use Rattle.noc_topo.specs.declared.shape.Kind.TheVariants.{Mesh, Torus}
use Rattle.noc_topo.specs.declared.shape.ShapeFault.TheVariants.{BadDimensions, BadRadix, TooManyNodes}

torus : Grid
torus = record { wraps = true; radix = 2 ∷ 3 ∷ [] }

torus-made : shape_of Torus (2 ∷ 3 ∷ []) ≡ Ok torus
unfolding torus
torus-made = refl

torus-links : map (neighbour torus 5) (0 ∷ 1 ∷ 2 ∷ 4 ∷ []) ≡ Some (4, 1) ∷ Some (4, 0) ∷ Some (1, 3) ∷ None ∷ []
unfolding torus
torus-links = refl

torus-distance : distance torus 0 5 ≡ 2
unfolding torus
torus-distance = refl

mesh : Grid
mesh = record { wraps = false; radix = 4 ∷ 3 ∷ [] }

mesh-coordinates : three_coordinates (coordinates mesh.radix 11) ≡ 3 ∷ 2 ∷ 0 ∷ []
unfolding mesh
mesh-coordinates = refl

mesh-links : map (neighbour mesh 3) (0 ∷ 2 ∷ []) ≡ None ∷ Some (7, 3) ∷ []
unfolding mesh
mesh-links = refl

mesh-distance : distance mesh 0 11 ≡ 5
unfolding mesh
mesh-distance = refl

too-long : shape_of Mesh (17 ∷ 2 ∷ 2 ∷ 2 ∷ []) ≡ Err BadDimensions
too-long = refl

too-short : shape_of Torus [] ≡ Err BadDimensions
too-short = refl

too-small : shape_of Mesh (1 ∷ []) ≡ Err BadRadix
too-small = refl

too-many : shape_of Torus (16 ∷ 16 ∷ 2 ∷ []) ≡ Err TooManyNodes
too-many = refl

first-of-least : least_by (λ x. x) (3 ∷ 1 ∷ 2 ∷ []) ≡ Some 1
unfolding least_by
first-of-least = refl

doubled : tabulate 3 (λ i. i) ≡ 0 ∷ 1 ∷ 2 ∷ []
unfolding tabulate below
doubled = refl
