-- Coordinates, links and sizes of shapes.
use Rattle.std.proofs.Common.{◌≡◌, ◌≢◌, ℕ, zero, suc, ◌+◌, ◌*◌, ◌/◌, ◌<◌, ◌≤◌, Bool, true, false, List, [], ◌∷◌, length, length-take-le, get_or, take, Option, Some, None, refl, ap, sym, subst, ◌∙◌, arith, inl, inr, Ok, Err}
use Rattle.std.proofs.Math.Nat.{mod-one, mod-lt}
use Rattle.std.specs.Prelude.{option_map, nat_lt, nat_le, ◌&&◌, slice_set, ◌⊎◌}
use Rattle.std.specs.List.{list_all}
use Rattle.std.proofs.lemmas.List.{length-set, get_or-set_same, get_or-set_other}
use Rattle.std.proofs.lemmas.Bool.{cases_eq, lt-ltb, le-ltb, and_parts, leb-true, le-leb}
use Rattle.noc_topo.specs.Shape.{Grid, node_at, coordinates, moved_in, neighbour, opposite, is_plus, product, three_coordinates, is_radix, nodes, distance, distance_in, distance_of, shape_of, wraps_of}
use Rattle.noc_topo.specs.Filled.{three_sizes}
use Rattle.noc_topo.specs.Inside.{grid_of, IsSound}
use Rattle.noc_topo.specs.declared.shape.Shape.TheInside.{Inside}
use Rattle.noc_topo.specs.declared.shape.Kind.{Kind}
use Rattle.noc_topo.specs.declared.shape.ShapeFault.TheVariants.{TooManyNodes}

-- a fact of each list of one, two or three
pub each_few : (P : List ℕ → Type 0) → ((x : ℕ) → P (x ∷ [])) → ((x y : ℕ) → P (x ∷ y ∷ [])) → ((x y z : ℕ) → P (x ∷ y ∷ z ∷ []))
    → (ks : List ℕ) → 1 ≤ length ks → length ks ≤ 3 → P ks
each_few P one two three [] some few = absurd (omega arith)
each_few P one two three (x ∷ []) some few = one x
each_few P one two three (x ∷ y ∷ []) some few = two x y
each_few P one two three (x ∷ y ∷ z ∷ []) some few = three x y z
each_few P one two three (x ∷ y ∷ z ∷ u ∷ us) some few = absurd (omega arith)

pub take-filled : (ks : List ℕ) → 1 ≤ length ks → length ks ≤ 3 → take (length ks) (three_sizes ks) ≡ ks
take-filled = each_few (λ ks. take (length ks) (three_sizes ks) ≡ ks) (λ x. refl) (λ x y. refl) (λ x y z. refl)

pub length-filled : (ks : List ℕ) → length (three_sizes ks) ≡ 3
length-filled [] = refl
length-filled (x ∷ []) = refl
length-filled (x ∷ y ∷ []) = refl
length-filled (x ∷ y ∷ z ∷ us) = refl

pub product-filled : (ks : List ℕ) → 1 ≤ length ks → length ks ≤ 3 → product (three_sizes ks) ≡ product ks
product-filled = each_few (λ ks. product (three_sizes ks) ≡ product ks) (λ x. refl) (λ x y. refl) (λ x y z. refl)

-- a fact of each index of three
pub each_of_three : (Q : ℕ → Type 0) → Q 0 → Q 1 → Q 2 → (i : ℕ) → i < 3 → Q i
each_of_three Q a b c zero l = a
each_of_three Q a b c (suc zero) l = b
each_of_three Q a b c (suc (suc zero)) l = c
each_of_three Q a b c (suc (suc (suc i))) l = absurd (omega arith)

-- a size that is 1 to 16
abbrev pub IsSize : ℕ → Type 0
IsSize k = (1 ≤ k) × (k ≤ 16)

is_radix-size : (k : ℕ) → is_radix k ≡ true → IsSize k
is_radix-size k e = let parts = and_parts (nat_le 2 k) (nat_le k 16) e in (let low : 2 ≤ k = leb-true 2 k parts.0 in omega arith, leb-true k 16 parts.1)

one_is : IsSize 1
one_is = (omega arith, omega arith)

-- each of the three sizes is 1 to 16
pub filled-sizes : (ks : List ℕ) → 1 ≤ length ks → length ks ≤ 3 → list_all is_radix ks ≡ true → (i : ℕ) → i < 3 → IsSize (get_or (three_sizes ks) i 0)
filled-sizes =
    each_few (λ ks. list_all is_radix ks ≡ true → (i : ℕ) → i < 3 → IsSize (get_or (three_sizes ks) i 0))
    (λ x e. let first = and_parts (is_radix x) true e in each_of_three (λ i. IsSize (get_or (x ∷ 1 ∷ 1 ∷ []) i 0)) (is_radix-size x first.0) one_is one_is)
    (λ x y e. let first = and_parts (is_radix x) (is_radix y && true) e in let second = and_parts (is_radix y) true first.1 in
    each_of_three (λ i. IsSize (get_or (x ∷ y ∷ 1 ∷ []) i 0)) (is_radix-size x first.0) (is_radix-size y second.0) one_is)
    (λ x y z e. let first = and_parts (is_radix x) (is_radix y && (is_radix z && true)) e in let second = and_parts (is_radix y) (is_radix z && true) first.1 in
    let third = and_parts (is_radix z) true second.1 in
    each_of_three (λ i. IsSize (get_or (x ∷ y ∷ z ∷ []) i 0)) (is_radix-size x first.0) (is_radix-size y second.0) (is_radix-size z third.0))

-- three sizes as they stand
pub three-items : (ks : List ℕ) → length ks ≡ 3 → ks ≡ get_or ks 0 0 ∷ get_or ks 1 0 ∷ get_or ks 2 0 ∷ []
three-items [] e = absurd (omega (arith, e))
three-items (x ∷ []) e = absurd (omega (arith, e))
three-items (x ∷ y ∷ []) e = absurd (omega (arith, e))
three-items (x ∷ y ∷ z ∷ []) e = refl
three-items (x ∷ y ∷ z ∷ u ∷ us) e = absurd (omega (arith, e))

pub coordinates-filled : (ks : List ℕ) → 1 ≤ length ks → length ks ≤ 3 → (node : ℕ) → coordinates (three_sizes ks) node ≡ three_coordinates (coordinates ks node)
coordinates-filled =
    each_few (λ ks. (node : ℕ) → coordinates (three_sizes ks) node ≡ three_coordinates (coordinates ks node))
    (λ x node. simp mod-one) (λ x y node. simp mod-one) (λ x y z node. refl)

distance_in-missing : (wraps : Bool) → distance_in wraps 1 0 0 ≡ 0
distance_in-missing true = refl
distance_in-missing false = refl

-- the distance in dimension i of three
abbrev distance_at : Bool → List ℕ → ℕ → ℕ → ℕ → ℕ
distance_at wraps ks a b i = distance_in wraps (get_or ks i 0) (get_or (coordinates ks a) i 0) (get_or (coordinates ks b) i 0)

pub distance_of-filled : (wraps : Bool) (ks : List ℕ) → 1 ≤ length ks → length ks ≤ 3 → (a b : ℕ)
    → distance_at wraps (three_sizes ks) a b 0 + distance_at wraps (three_sizes ks) a b 1 + distance_at wraps (three_sizes ks) a b 2 ≡ distance_of wraps ks (coordinates ks a) (coordinates ks b)
distance_of-filled wraps =
    each_few (λ ks. (a b : ℕ) → distance_at wraps (three_sizes ks) a b 0 + distance_at wraps (three_sizes ks) a b 1 + distance_at wraps (three_sizes ks) a b 2 ≡ distance_of wraps ks (coordinates ks a) (coordinates ks b))
    (λ x a b. simp (mod-one, distance_in-missing wraps) (omega arith))
    (λ x y a b. simp (mod-one, distance_in-missing wraps) (omega arith))
    (λ x y z a b. omega arith)

pub get_or-filled : (ks : List ℕ) (i : ℕ) → i < length ks → length ks ≤ 3 → get_or (three_sizes ks) i 0 ≡ get_or ks i 0
get_or-filled [] i l few = absurd (omega arith)
get_or-filled (x ∷ []) zero l few = refl
get_or-filled (x ∷ []) (suc i) l few = absurd (omega arith)
get_or-filled (x ∷ y ∷ []) zero l few = refl
get_or-filled (x ∷ y ∷ []) (suc zero) l few = refl
get_or-filled (x ∷ y ∷ []) (suc (suc i)) l few = absurd (omega arith)
get_or-filled (x ∷ y ∷ z ∷ []) zero l few = refl
get_or-filled (x ∷ y ∷ z ∷ []) (suc zero) l few = refl
get_or-filled (x ∷ y ∷ z ∷ []) (suc (suc zero)) l few = refl
get_or-filled (x ∷ y ∷ z ∷ []) (suc (suc (suc i))) l few = absurd (omega arith)
get_or-filled (x ∷ y ∷ z ∷ u ∷ us) i l few = absurd (omega arith)

pub coordinate-filled : (ks : List ℕ) (node i : ℕ) → i < length ks → length ks ≤ 3 → get_or (coordinates (three_sizes ks) node) i 0 ≡ get_or (coordinates ks node) i 0
coordinate-filled [] node i l few = absurd (omega arith)
coordinate-filled (x ∷ []) node zero l few = refl
coordinate-filled (x ∷ []) node (suc i) l few = absurd (omega arith)
coordinate-filled (x ∷ y ∷ []) node zero l few = refl
coordinate-filled (x ∷ y ∷ []) node (suc zero) l few = refl
coordinate-filled (x ∷ y ∷ []) node (suc (suc i)) l few = absurd (omega arith)
coordinate-filled (x ∷ y ∷ z ∷ []) node zero l few = refl
coordinate-filled (x ∷ y ∷ z ∷ []) node (suc zero) l few = refl
coordinate-filled (x ∷ y ∷ z ∷ []) node (suc (suc zero)) l few = refl
coordinate-filled (x ∷ y ∷ z ∷ []) node (suc (suc (suc i))) l few = absurd (omega arith)
coordinate-filled (x ∷ y ∷ z ∷ u ∷ us) node i l few = absurd (omega arith)

pub node_at-filled : (ks : List ℕ) (node i y : ℕ) → i < length ks → length ks ≤ 3
    → node_at (three_sizes ks) (slice_set (coordinates (three_sizes ks) node) i y) ≡ node_at ks (slice_set (coordinates ks node) i y)
node_at-filled [] node i v l few = absurd (omega arith)
node_at-filled (x ∷ []) node zero v l few = simp mod-one (omega arith)
node_at-filled (x ∷ []) node (suc i) v l few = absurd (omega arith)
node_at-filled (x ∷ y ∷ []) node zero v l few = simp mod-one (omega arith)
node_at-filled (x ∷ y ∷ []) node (suc zero) v l few = simp mod-one (omega arith)
node_at-filled (x ∷ y ∷ []) node (suc (suc i)) v l few = absurd (omega arith)
node_at-filled (x ∷ y ∷ z ∷ []) node zero v l few = refl
node_at-filled (x ∷ y ∷ z ∷ []) node (suc zero) v l few = refl
node_at-filled (x ∷ y ∷ z ∷ []) node (suc (suc zero)) v l few = refl
node_at-filled (x ∷ y ∷ z ∷ []) node (suc (suc (suc i))) v l few = absurd (omega arith)
node_at-filled (x ∷ y ∷ z ∷ u ∷ us) node i v l few = absurd (omega arith)

-- ---- the stored shape and its view

pub product-stored : (s : Inside) (g : Grid) → grid_of s ≡ g → IsSound s → product s.sizes ≡ nodes g
product-stored s g e h = ap product (sym h.missing) ∙ product-filled (take s.count s.sizes) h.shape.some_dimensions h.shape.few_dimensions ∙ ap nodes e

pub coordinates-stored : (s : Inside) (g : Grid) → grid_of s ≡ g → IsSound s → (node : ℕ) → coordinates s.sizes node ≡ three_coordinates (coordinates g.radix node)
coordinates-stored s g e h node =
    ap (λ ks. coordinates ks node) (sym h.missing) ∙ coordinates-filled (take s.count s.sizes) h.shape.some_dimensions h.shape.few_dimensions node
    ∙ ap (λ (g : Grid). three_coordinates (coordinates g.radix node)) e

pub distance-stored : (s : Inside) (g : Grid) → grid_of s ≡ g → IsSound s → (a b : ℕ)
    → distance_at s.wraps s.sizes a b 0 + distance_at s.wraps s.sizes a b 1 + distance_at s.wraps s.sizes a b 2 ≡ distance g a b
distance-stored s g e h a b =
    ap (λ ks. distance_at s.wraps ks a b 0 + distance_at s.wraps ks a b 1 + distance_at s.wraps ks a b 2) (sym h.missing)
    ∙ distance_of-filled s.wraps (take s.count s.sizes) h.shape.some_dimensions h.shape.few_dimensions a b
    ∙ ap (λ (g : Grid). distance g a b) e

pub sizes-stored : (s : Inside) → IsSound s → (i : ℕ) → i < 3 → IsSize (get_or s.sizes i 0)
sizes-stored s h i l =
    let P : List ℕ → Type 0 = λ ks. IsSize (get_or ks i 0) in
    subst P h.missing (filled-sizes (take s.count s.sizes) h.shape.some_dimensions h.shape.few_dimensions h.shape.sizes i l)

-- where a port leads, by the stored sizes
abbrev stepped : Bool → List ℕ → ℕ → ℕ → Option (ℕ × ℕ)
stepped wraps ks node port =
    option_map (λ x. (node_at ks (slice_set (coordinates ks node) (port / 2) x), opposite port)) (moved_in wraps (get_or ks (port / 2) 0) (is_plus port) (get_or (coordinates ks node) (port / 2) 0))

stepped-filled : (wraps : Bool) (ks : List ℕ) (node port : ℕ) → port / 2 < length ks → length ks ≤ 3 → stepped wraps (three_sizes ks) node port ≡ stepped wraps ks node port
stepped-filled wraps ks node port l few =
    rw (get_or-filled ks (port / 2) l few, coordinate-filled ks node (port / 2) l few)
    (ap (λ (f : ℕ → ℕ). option_map (λ x. (f x, opposite port)) (moved_in wraps (get_or ks (port / 2) 0) (is_plus port) (get_or (coordinates ks node) (port / 2) 0)))
    (λ i x. node_at-filled ks node (port / 2) x l few i))

pub neighbour-stored : (s : Inside) (g : Grid) → grid_of s ≡ g → IsSound s → (node port : ℕ) → port < 2 * s.count → stepped s.wraps s.sizes node port ≡ neighbour g node port
neighbour-stored s g e h node port l =
    let count : length (take s.count s.sizes) ≡ s.count = length-take-le s.count s.sizes h.fits in
    let half : port / 2 < length (take s.count s.sizes) = omega (arith, count) in
    let link : nat_lt port (2 * length (take s.count s.sizes)) ≡ true = lt-ltb port (2 * length (take s.count s.sizes)) (omega (arith, count)) in
    ap (λ ks. stepped s.wraps ks node port) (sym h.missing)
    ∙ stepped-filled s.wraps (take s.count s.sizes) node port half h.shape.few_dimensions
    ∙ sym (rw link)
    ∙ ap (λ (g : Grid). neighbour g node port) e

pub length-coordinates : (ks : List ℕ) (node : ℕ) → length (coordinates ks node) ≡ length ks
length-coordinates [] node = refl
length-coordinates (k ∷ ks) node = ap suc (length-coordinates ks (node / k))

-- a node's coordinate is below the size
pub coordinate-below : (ks : List ℕ) (node i : ℕ) → length ks ≡ 3 → i < 3 → ((j : ℕ) → j < 3 → IsSize (get_or ks j 0)) → get_or (coordinates ks node) i 0 < get_or ks i 0
coordinate-below [] node i e l sizes = absurd (omega (arith, e))
coordinate-below (x ∷ []) node i e l sizes = absurd (omega (arith, e))
coordinate-below (x ∷ y ∷ []) node i e l sizes = absurd (omega (arith, e))
coordinate-below (x ∷ y ∷ z ∷ []) node i e l sizes =
    each_of_three (λ i. get_or (coordinates (x ∷ y ∷ z ∷ []) node) i 0 < get_or (x ∷ y ∷ z ∷ []) i 0)
    (mod-lt node {m = x} (sizes 0 (omega arith)).0) (mod-lt (node / x) {m = y} (sizes 1 (omega arith)).0) (mod-lt (node / x / y) {m = z} (sizes 2 (omega arith)).0) i l
coordinate-below (x ∷ y ∷ z ∷ u ∷ us) node i e l sizes = absurd (omega (arith, e))

pub length-stored : (s : Inside) → IsSound s → length s.sizes ≡ 3
length-stored s h = ap length (sym h.missing) ∙ length-filled (take s.count s.sizes)

-- a node's coordinate of the stored shape is below the size
pub split-below : (s : Inside) (xs : List ℕ) (node i : ℕ) → IsSound s → xs ≡ coordinates s.sizes node → i < 3 → get_or xs i 0 < get_or s.sizes i 0
split-below s xs node i h e l = rw e (coordinate-below s.sizes node i (length-stored s h) l (sizes-stored s h))

pub stepped-none : (s : Inside) (g : Grid) → grid_of s ≡ g → IsSound s → (node port : ℕ) → port < 2 * s.count
    → moved_in s.wraps (get_or s.sizes (port / 2) 0) (is_plus port) (get_or (coordinates s.sizes node) (port / 2) 0) ≡ None → None ≡ neighbour g node port
stepped-none s g e h node port l none =
    sym (ap (option_map (λ x. (node_at s.sizes (slice_set (coordinates s.sizes node) (port / 2) x), opposite port))) none) ∙ neighbour-stored s g e h node port l

pub stepped-some : (s : Inside) (g : Grid) → grid_of s ≡ g → IsSound s → (node port x : ℕ) → port < 2 * s.count
    → moved_in s.wraps (get_or s.sizes (port / 2) 0) (is_plus port) (get_or (coordinates s.sizes node) (port / 2) 0) ≡ Some x
    → Some (node_at s.sizes (slice_set (coordinates s.sizes node) (port / 2) x), opposite port) ≡ neighbour g node port
stepped-some s g e h node port x l some =
    sym (ap (option_map (λ x. (node_at s.sizes (slice_set (coordinates s.sizes node) (port / 2) x), opposite port))) some) ∙ neighbour-stored s g e h node port l

-- one coordinate changed stays below 16
pub changed-below : (s : Inside) → IsSound s → (node at x i : ℕ) → at < 3 → x < get_or s.sizes at 0 → i < length (slice_set (coordinates s.sizes node) at x)
    → get_or (slice_set (coordinates s.sizes node) at x) i 0 < 16
changed-below s h node at x i l small within =
    let three = length-stored s h in
    let long : length (coordinates s.sizes node) ≡ 3 = length-coordinates s.sizes node ∙ three in
    let inside : i < 3 = omega (arith, length-set {A = ℕ} (coordinates s.sizes node) at x, long) in
    split inside long (cases_eq i at)
  where
    split : i < 3 → length (coordinates s.sizes node) ≡ 3 → (i ≡ at) ⊎ (i ≢ at) → get_or (slice_set (coordinates s.sizes node) at x) i 0 < 16
    split inside long (inl same) =
        let size = sizes-stored s h at l in
        let here : at < length (coordinates s.sizes node) = omega (arith, long) in
        rw (same, get_or-set_same (coordinates s.sizes node) at x 0 here) (omega arith)
    split inside long (inr other) =
        let size = sizes-stored s h i inside in
        let below = coordinate-below s.sizes node i (length-stored s h) inside (sizes-stored s h) in
        rw (get_or-set_other (coordinates s.sizes node) at i x 0 other) (omega arith)

-- ---- making a shape

pub shape_of-ok : (kind : Kind) (ks : List ℕ) → 1 ≤ length ks → length ks ≤ 3 → list_all is_radix ks ≡ true → product ks ≤ 256
    → shape_of kind ks ≡ Ok (record { wraps = wraps_of kind; radix = ks })
shape_of-ok kind ks some few sizes small =
    let a : nat_le 1 (length ks) ≡ true = le-leb 1 (length ks) some in
    let b : nat_le (length ks) 3 ≡ true = le-leb (length ks) 3 few in
    let c : nat_lt 256 (product ks) ≡ false = le-ltb 256 (product ks) small in
    rw (a, b, sizes, c)

pub shape_of-many : (kind : Kind) (ks : List ℕ) → 1 ≤ length ks → length ks ≤ 3 → list_all is_radix ks ≡ true → 256 < product ks
    → shape_of kind ks ≡ Err TooManyNodes
shape_of-many kind ks some few sizes large =
    let a : nat_le 1 (length ks) ≡ true = le-leb 1 (length ks) some in
    let b : nat_le (length ks) 3 ≡ true = le-leb (length ks) 3 few in
    let c : nat_lt 256 (product ks) ≡ true = lt-ltb 256 (product ks) large in
    rw (a, b, sizes, c)

pub IsSound-filled : (wraps : Bool) (ks : List ℕ) → 1 ≤ length ks → length ks ≤ 3 → list_all is_radix ks ≡ true → product ks ≤ 256
    → IsSound (record { wraps = wraps; sizes = three_sizes ks; count = length ks })
IsSound-filled wraps ks some few sizes small =
    let back : take (length ks) (three_sizes ks) ≡ ks = take-filled ks some few in
    record {
      fits = omega (arith, length-filled ks);
      missing = ap three_sizes back;
      shape = record { some_dimensions = rw back some; few_dimensions = rw back few; sizes = rw back sizes; few_nodes = rw back small };
    }
