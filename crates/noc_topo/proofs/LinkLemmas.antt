-- Each link leads back.
use Rattle.std.proofs.Common.{◌≡◌, ◌≢◌, ℕ, zero, suc, ◌+◌, ◌-◌, ◌*◌, ◌/◌, ◌%◌, ◌<◌, ◌≤◌, Bool, true, false, cond, List, [], ◌∷◌, length, map, get_or, set, Option, Some, None, refl, ap, sym, ◌∙◌, arith, inl, inr, zero-add}
use Rattle.std.proofs.Math.Nat.{add-mul-mod_self_left, add-mul-div_left, mod-eq_of_lt, div-eq_of_lt, mod-add-div, mod-lt, mul-le-mul_left, div-lt_iff_lt-mul}
use Rattle.std.specs.Prelude.{IfSome, option_map, nat_lt, nat_le, nat_eq, ◌⊎◌}
use Rattle.std.specs.List.{list_all}
use Rattle.std.proofs.lemmas.Bool.{cases_lt, lt-ltb, le-ltb, and_parts, leb-true}
use Rattle.std.proofs.lemmas.Bool.Decides.{eqb_tells}
use Rattle.std.proofs.lemmas.List.{get_or-set_same, set-set, set-get_or}
use Rattle.noc_topo.specs.Shape.{Grid, IsGrid, node_at, coordinates, moved_in, neighbour, opposite, is_plus, product, is_radix, nodes, local_port, three_coordinates, IsLinkBack}
use Rattle.noc_topo.proofs.ShapeLemmas.{length-coordinates, each_of_three}

-- coordinates that are each below their radix
abbrev pub IsWithin : List ℕ → List ℕ → Type 0
IsWithin [] [] = Unit {0}
IsWithin (k ∷ ks) (x ∷ xs) = (x < k) × IsWithin ks xs
IsWithin [] (x ∷ xs) = ⊥
IsWithin (k ∷ ks) [] = ⊥

pub coordinates-node_at : (ks xs : List ℕ) → IsWithin ks xs → coordinates ks (node_at ks xs) ≡ xs
coordinates-node_at [] [] w = refl
coordinates-node_at (k ∷ ks) (x ∷ xs) w =
    let low : (x + k * node_at ks xs) % k ≡ x = add-mul-mod_self_left x k (node_at ks xs) ∙ mod-eq_of_lt w.0 in
    let high : (x + k * node_at ks xs) / k ≡ node_at ks xs = add-mul-div_left x (node_at ks xs) (omega (arith, w.0)) ∙ (let z : x / k ≡ 0 = div-eq_of_lt w.0 in rw z (zero-add _)) in
    rw (low, high) (ap (λ ys. x ∷ ys) (coordinates-node_at ks xs w.1))
coordinates-node_at [] (x ∷ xs) w = elim w [ ]
coordinates-node_at (k ∷ ks) [] w = elim w [ ]

-- each radix is 2 to 16
abbrev pub AreRadices : List ℕ → Type 0
AreRadices [] = Unit {0}
AreRadices (k ∷ ks) = (2 ≤ k) × (k ≤ 16) × AreRadices ks

pub AreRadices-from_test : (ks : List ℕ) → list_all is_radix ks ≡ true → AreRadices ks
AreRadices-from_test [] e = tt
AreRadices-from_test (k ∷ ks) e =
    let first = and_parts (is_radix k) (list_all is_radix ks) e in
    let parts = and_parts (nat_le 2 k) (nat_le k 16) first.0 in
    (leb-true 2 k parts.0, leb-true k 16 parts.1, AreRadices-from_test ks first.1)

pub IsWithin-coordinates : (ks : List ℕ) (node : ℕ) → AreRadices ks → IsWithin ks (coordinates ks node)
IsWithin-coordinates [] node r = tt
IsWithin-coordinates (k ∷ ks) node r = (mod-lt node {m = k} (omega (arith, r.0)), IsWithin-coordinates ks (node / k) r.2)

pub node_at-coordinates : (ks : List ℕ) (node : ℕ) → AreRadices ks → node < product ks → node_at ks (coordinates ks node) ≡ node
node_at-coordinates [] node r l = omega arith
node_at-coordinates (k ∷ ks) node r l =
    let small : node / k < product ks = (div-lt_iff_lt-mul {k = k} {x = node} {y = product ks} (omega (arith, r.0))).1 (omega arith) in
    rw (node_at-coordinates ks (node / k) r.2 small) (mod-add-div node k)

pub node_at-below : (ks xs : List ℕ) → IsWithin ks xs → node_at ks xs < product ks
node_at-below [] [] w = omega arith
node_at-below (k ∷ ks) (x ∷ xs) w =
    let rest : node_at ks xs + 1 ≤ product ks = omega (arith, node_at-below ks xs w.1) in
    let all : k * (node_at ks xs + 1) ≤ k * product ks = mul-le-mul_left k rest in
    omega (arith, w.0, all)
node_at-below [] (x ∷ xs) w = elim w [ ]
node_at-below (k ∷ ks) [] w = elim w [ ]

pub IsWithin-set : (ks xs : List ℕ) (i y : ℕ) → IsWithin ks xs → y < get_or ks i 0 → IsWithin ks (set xs i y)
IsWithin-set [] [] i y w l = tt
IsWithin-set (k ∷ ks) (x ∷ xs) zero y w l = (l, w.1)
IsWithin-set (k ∷ ks) (x ∷ xs) (suc i) y w l = (w.0, IsWithin-set ks xs i y w.1 l)
IsWithin-set [] (x ∷ xs) i y w l = elim w [ ]
IsWithin-set (k ∷ ks) [] i y w l = elim w [ ]

pub IsWithin-at : (ks xs : List ℕ) (i : ℕ) → IsWithin ks xs → i < length ks → get_or xs i 0 < get_or ks i 0
IsWithin-at [] [] i w l = absurd (omega arith)
IsWithin-at (k ∷ ks) (x ∷ xs) zero w l = w.0
IsWithin-at (k ∷ ks) (x ∷ xs) (suc i) w l = IsWithin-at ks xs i w.1 (omega arith)
IsWithin-at [] (x ∷ xs) i w l = elim w [ ]
IsWithin-at (k ∷ ks) [] i w l = elim w [ ]

pub AreRadices-at : (ks : List ℕ) (i : ℕ) → AreRadices ks → i < length ks → (2 ≤ get_or ks i 0) × (get_or ks i 0 ≤ 16)
AreRadices-at [] i r l = absurd (omega arith)
AreRadices-at (k ∷ ks) zero r l = (r.0, r.1)
AreRadices-at (k ∷ ks) (suc i) r l = AreRadices-at ks i r.2 (omega arith)

pub product-some : (ks : List ℕ) → AreRadices ks → 1 ≤ product ks
product-some [] r = omega arith
product-some (k ∷ ks) r =
    let all : k * 1 ≤ k * product ks = mul-le-mul_left k (product-some ks r.2) in
    omega (arith, r.0, all)

product-radices : (ks : List ℕ) → AreRadices ks → 1 ≤ length ks → 2 ≤ product ks
product-radices [] r l = absurd (omega arith)
product-radices (k ∷ ks) r l =
    let all : k * 1 ≤ k * product ks = mul-le-mul_left k (product-some ks r.2) in
    omega (arith, r.0, all)

pub nodes-some : (g : Grid) → IsGrid g → 2 ≤ nodes g
nodes-some g sound = product-radices g.radix (AreRadices-from_test g.radix sound.sizes) sound.some_dimensions

-- one step in a dimension, and back
pub moved_in-back : (wraps : Bool) (k x y : ℕ) (up : Bool) → x < k → 2 ≤ k → moved_in wraps k up x ≡ Some y
    → (y < k) × (moved_in wraps k (cond up false true) y ≡ Some x)
moved_in-back wraps k x y true l two e = at (cases_lt (x + 1) k) wraps refl
  where
    at : (x + 1 < k) ⊎ (k ≤ x + 1) → (b : Bool) → wraps ≡ b → (y < k) × (moved_in wraps k false y ≡ Some x)
    at (inl more) b h =
        let g : Some (x + 1) ≡ Some y = sym (rw (lt-ltb (x + 1) k more)) ∙ e in
        let yx : x + 1 ≡ y = cc in
        let t : nat_lt 0 y ≡ true = lt-ltb 0 y (omega arith) in
        let back : y - 1 ≡ x = omega arith in
        (omega arith, rw t (ap Some back))
    at (inr last) true h =
        let g : Some 0 ≡ Some y = sym (rw (le-ltb (x + 1) k last, h)) ∙ e in
        let yx : 0 ≡ y = cc in
        let t : nat_lt 0 y ≡ false = le-ltb 0 y (omega arith) in
        let back : k - 1 ≡ x = omega arith in
        (omega arith, rw (t, h) (ap Some back))
    at (inr last) false h = let g : None ≡ Some y = sym (rw (le-ltb (x + 1) k last, h)) ∙ e in absurd (cc g)
moved_in-back wraps k x y false l two e = at (cases_lt 0 x) wraps refl
  where
    at : (0 < x) ⊎ (x ≤ 0) → (b : Bool) → wraps ≡ b → (y < k) × (moved_in wraps k true y ≡ Some x)
    at (inl more) b h =
        let g : Some (x - 1) ≡ Some y = sym (rw (lt-ltb 0 x more)) ∙ e in
        let yx : x - 1 ≡ y = cc in
        let t : nat_lt (y + 1) k ≡ true = lt-ltb (y + 1) k (omega arith) in
        let back : y + 1 ≡ x = omega arith in
        (omega arith, rw t (ap Some back))
    at (inr last) true h =
        let g : Some (k - 1) ≡ Some y = sym (rw (le-ltb 0 x last, h)) ∙ e in
        let yx : k - 1 ≡ y = cc in
        let t : nat_lt (y + 1) k ≡ false = le-ltb (y + 1) k (omega arith) in
        let back : 0 ≡ x = omega arith in
        (omega arith, rw (t, h) (ap Some back))
    at (inr last) false h = let g : None ≡ Some y = sym (rw (le-ltb 0 x last, h)) ∙ e in absurd (cc g)

-- ---- opposite ports

opposite_cases : (p : ℕ) → ((p % 2 ≡ 0) × (is_plus p ≡ true) × (opposite p ≡ p + 1)) ⊎ ((p % 2 ≡ 1) × (is_plus p ≡ false) × (opposite p ≡ p - 1))
opposite_cases p = at (eqb_tells (p % 2) 0)
  where
    at : ((nat_eq (p % 2) 0 ≡ true) × (p % 2 ≡ 0)) ⊎ ((nat_eq (p % 2) 0 ≡ false) × (p % 2 ≢ 0)) → ((p % 2 ≡ 0) × (is_plus p ≡ true) × (opposite p ≡ p + 1)) ⊎ ((p % 2 ≡ 1) × (is_plus p ≡ false) × (opposite p ≡ p - 1))
    at (inl e) = inl (e.1, e.0, rw e.0)
    at (inr e) = inr (omega arith, e.0, rw e.0)

pub opposite-half : (p : ℕ) → opposite p / 2 ≡ p / 2
opposite-half p = elim (opposite_cases p) [ inl e ↦ rw e.2 (omega (arith, e.0)) | inr e ↦ rw e.2 (omega (arith, e.0)) ]

pub opposite-below : (p n : ℕ) → p < 2 * n → opposite p < 2 * n
opposite-below p n l = elim (opposite_cases p) [ inl e ↦ rw e.2 (omega (arith, e.0)) | inr e ↦ rw e.2 (omega (arith, e.0)) ]

pub opposite-opposite : (p : ℕ) → opposite (opposite p) ≡ p
opposite-opposite p = at (opposite_cases p) (opposite_cases (opposite p))
  where
    at : ((p % 2 ≡ 0) × (is_plus p ≡ true) × (opposite p ≡ p + 1)) ⊎ ((p % 2 ≡ 1) × (is_plus p ≡ false) × (opposite p ≡ p - 1))
        → ((opposite p % 2 ≡ 0) × (is_plus (opposite p) ≡ true) × (opposite (opposite p) ≡ opposite p + 1)) ⊎ ((opposite p % 2 ≡ 1) × (is_plus (opposite p) ≡ false) × (opposite (opposite p) ≡ opposite p - 1))
        → opposite (opposite p) ≡ p
    at (inl e) (inl f) = absurd (omega (arith, e.0, e.2, f.0))
    at (inl e) (inr f) = omega (arith, e.0, e.2, f.0, f.2)
    at (inr e) (inl f) = omega (arith, e.0, e.2, f.0, f.2)
    at (inr e) (inr f) = absurd (omega (arith, e.0, e.2, f.0))

pub is_plus-opposite : (p : ℕ) → is_plus (opposite p) ≡ cond (is_plus p) false true
is_plus-opposite p = at (opposite_cases p) (opposite_cases (opposite p))
  where
    at : ((p % 2 ≡ 0) × (is_plus p ≡ true) × (opposite p ≡ p + 1)) ⊎ ((p % 2 ≡ 1) × (is_plus p ≡ false) × (opposite p ≡ p - 1))
        → ((opposite p % 2 ≡ 0) × (is_plus (opposite p) ≡ true) × (opposite (opposite p) ≡ opposite p + 1)) ⊎ ((opposite p % 2 ≡ 1) × (is_plus (opposite p) ≡ false) × (opposite (opposite p) ≡ opposite p - 1))
        → is_plus (opposite p) ≡ cond (is_plus p) false true
    at (inl e) (inl f) = absurd (omega (arith, e.0, e.2, f.0))
    at (inl e) (inr f) = f.1 ∙ sym (ap (λ v. cond v false true) e.1)
    at (inr e) (inl f) = f.1 ∙ sym (ap (λ v. cond v false true) e.1)
    at (inr e) (inr f) = absurd (omega (arith, e.0, e.2, f.0))

-- ---- the link behind a port

-- the node at which one coordinate is changed, and the port back
abbrev pub led : Grid → ℕ → ℕ → ℕ → ℕ × ℕ
led g a p x = (node_at g.radix (set (coordinates g.radix a) (p / 2) x), opposite p)

-- what is known where a port has a link: the coordinate that changes, and its new value
pub record Hop (g : Grid) (a p b q : ℕ) : Type 0 where
  pub link : p < local_port g
  pub coordinate : ℕ
  pub moved : moved_in g.wraps (get_or g.radix (p / 2) 0) (is_plus p) (get_or (coordinates g.radix a) (p / 2) 0) ≡ Some coordinate
  pub within : coordinate < get_or g.radix (p / 2) 0
  pub node : b ≡ node_at g.radix (set (coordinates g.radix a) (p / 2) coordinate)
  pub port : q ≡ opposite p

pub hop_of : (g : Grid) (a p b q : ℕ) → IsGrid g → neighbour g a p ≡ Some (b, q) → Hop g a p b q
hop_of g a p b q sound e = below (cases_lt p (local_port g))
  where
    some : p < local_port g → (o : Option ℕ) → moved_in g.wraps (get_or g.radix (p / 2) 0) (is_plus p) (get_or (coordinates g.radix a) (p / 2) 0) ≡ o
        → option_map (led g a p) o ≡ Some (b, q) → Hop g a p b q
    some l None m f = let never : None ≡ Some (b, q) = f in absurd (cc never)
    some l (Some x) m f =
        let here : Some (led g a p x) ≡ Some (b, q) = f in
        let pair : led g a p x ≡ (b, q) = cc in
        let half : p / 2 < length g.radix = omega arith in
        let radices = AreRadices-from_test g.radix sound.sizes in
        let size = AreRadices-at g.radix (p / 2) radices half in
        let small = IsWithin-at g.radix (coordinates g.radix a) (p / 2) (IsWithin-coordinates g.radix a radices) half in
        record {
          link = l;
          coordinate = x;
          moved = m;
          within = (moved_in-back g.wraps (get_or g.radix (p / 2) 0) (get_or (coordinates g.radix a) (p / 2) 0) x (is_plus p) small size.0 m).0;
          node = sym (ap (λ (pair : ℕ × ℕ). pair.0) pair);
          port = sym (ap (λ (pair : ℕ × ℕ). pair.1) pair);
        }

    below : (p < local_port g) ⊎ (local_port g ≤ p) → Hop g a p b q
    below (inl l) = some l _ refl (sym (rw (lt-ltb p (local_port g) l)) ∙ e)
    below (inr l) = let never : None ≡ Some (b, q) = sym (rw (le-ltb p (local_port g) l)) ∙ e in absurd (cc never)

pub link_back : (g : Grid) (a p b q : ℕ) → IsGrid g → a < nodes g → neighbour g a p ≡ Some (b, q) → IsLinkBack g a p b q
link_back g a p b q sound known e =
    let h = hop_of g a p b q sound e in
    let ks = g.radix in
    let i = p / 2 in
    let xs = coordinates ks a in
    let half : i < length ks = omega (arith, h.link) in
    let radices = AreRadices-from_test ks sound.sizes in
    let size = AreRadices-at ks i radices half in
    let inside : IsWithin ks xs = IsWithin-coordinates ks a radices in
    let small : get_or xs i 0 < get_or ks i 0 = IsWithin-at ks xs i inside half in
    let changed : IsWithin ks (set xs i h.coordinate) = IsWithin-set ks xs i h.coordinate inside h.within in
    let link : q < local_port g = omega (arith, h.port, opposite-below p (length ks) h.link) in
    let there : coordinates ks b ≡ set xs i h.coordinate = ap (coordinates ks) h.node ∙ coordinates-node_at ks (set xs i h.coordinate) changed in
    let dimension : q / 2 ≡ i = ap (λ v. v / 2) h.port ∙ opposite-half p in
    let way : is_plus q ≡ cond (is_plus p) false true = ap is_plus h.port ∙ is_plus-opposite p in
    let long : i < length xs = omega (arith, length-coordinates ks a) in
    let value : get_or (set xs i h.coordinate) i 0 ≡ h.coordinate = get_or-set_same xs i h.coordinate 0 long in
    let again : set (set xs i h.coordinate) i (get_or xs i 0) ≡ xs = set-set xs i h.coordinate (get_or xs i 0) ∙ set-get_or xs i 0 in
    let step : moved_in g.wraps (get_or ks (q / 2) 0) (is_plus q) (get_or (coordinates ks b) (q / 2) 0) ≡ Some (get_or xs i 0)
    = rw (dimension, way, there, value) (moved_in-back g.wraps (get_or ks i 0) (get_or xs i 0) h.coordinate (is_plus p) small size.0 h.moved).1 in
    let home : led g b q (get_or xs i 0) ≡ (a, p)
    = rw (dimension, there, again, node_at-coordinates ks a radices known) (ap (λ v. (a, v)) (ap opposite h.port ∙ opposite-opposite p)) in
    record {
      node = omega (arith, h.node, node_at-below ks (set xs i h.coordinate) changed);
      port = link;
      back = rw (lt-ltb q (local_port g) link) (ap (option_map (led g b q)) step ∙ ap Some home);
    }

-- ---- the last node

last-mod : (k n : ℕ) → 1 ≤ k → 1 ≤ n → (k * n - 1) % k ≡ k - 1
last-mod k n some few =
    let rest : n - 1 + 1 ≡ n = omega arith in
    let spread : k * n ≡ k * (n - 1) + k = ap (λ v. k * v) (sym rest) ∙ omega arith in
    let split : k * n - 1 ≡ (k - 1) + k * (n - 1) = omega (arith, spread) in
    rw split (add-mul-mod_self_left (k - 1) k (n - 1) ∙ mod-eq_of_lt {n = k - 1} {m = k} (omega arith))

last-div : (k n : ℕ) → 1 ≤ k → 1 ≤ n → (k * n - 1) / k ≡ n - 1
last-div k n some few =
    let rest : n - 1 + 1 ≡ n = omega arith in
    let spread : k * n ≡ k * (n - 1) + k = ap (λ v. k * v) (sym rest) ∙ omega arith in
    let split : k * n - 1 ≡ (k - 1) + k * (n - 1) = omega (arith, spread) in
    let none : (k - 1) / k ≡ 0 = div-eq_of_lt {n = k - 1} {m = k} (omega arith) in
    rw split (add-mul-div_left (k - 1) (n - 1) (omega arith) ∙ rw none (zero-add _))

-- the coordinates of the last node are the greatest
pub coordinates-last : (ks : List ℕ) → AreRadices ks → coordinates ks (product ks - 1) ≡ map (λ k. k - 1) ks
coordinates-last [] r = refl
coordinates-last (k ∷ ks) r =
    let some : 1 ≤ k = omega (arith, r.0) in
    rw (last-mod k (product ks) some (product-some ks r.2), last-div k (product ks) some (product-some ks r.2)) (ap (λ xs. (k - 1) ∷ xs) (coordinates-last ks r.2))

-- where a port leads, if it leads anywhere, there are a node and a link port
pub neighbour-range : (g : Grid) (a p : ℕ) (o : Option (ℕ × ℕ)) → IsGrid g → a < nodes g → neighbour g a p ≡ o → IfSome o (λ to. (to.0 < nodes g) × (to.1 < local_port g))
neighbour-range g a p None sound known e = tt
neighbour-range g a p (Some to) sound known e = let back = link_back g a p to.0 to.1 sound known e in (back.node, back.port)

-- ---- coordinates as arrays of three

pub get_or-padded : (xs : List ℕ) (i : ℕ) → i < 3 → get_or (three_coordinates xs) i 0 ≡ get_or xs i 0
get_or-padded xs = each_of_three (λ i. get_or (three_coordinates xs) i 0 ≡ get_or xs i 0) refl refl refl

pub get_or-past : (xs : List ℕ) (i : ℕ) → length xs ≤ i → get_or xs i 0 ≡ 0
get_or-past [] i l = refl
get_or-past (x ∷ xs) zero l = absurd (omega arith)
get_or-past (x ∷ xs) (suc i) l = get_or-past xs i (omega arith)

pub get_or-pred : (ks : List ℕ) (i : ℕ) → get_or (map (λ k. k - 1) ks) i 0 ≡ get_or ks i 0 - 1
get_or-pred [] i = refl
get_or-pred (k ∷ ks) zero = refl
get_or-pred (k ∷ ks) (suc i) = get_or-pred ks i

-- the greatest coordinate in a dimension is one below its size
pub corner-at : (g : Grid) (i : ℕ) → IsGrid g → i < 3 → get_or (three_coordinates (coordinates g.radix (nodes g - 1))) i 0 ≡ get_or g.radix i 0 - 1
corner-at g i sound l =
    get_or-padded (coordinates g.radix (nodes g - 1)) i l
    ∙ ap (λ xs. get_or xs i 0) (coordinates-last g.radix (AreRadices-from_test g.radix sound.sizes))
    ∙ get_or-pred g.radix i

-- no coordinate is greater
pub padded-below : (g : Grid) (node i : ℕ) → IsGrid g → i < 3 → get_or (three_coordinates (coordinates g.radix node)) i 0 ≤ get_or (three_coordinates (coordinates g.radix (nodes g - 1))) i 0
padded-below g node i sound l = at (cases_lt i (length g.radix))
  where
    at : (i < length g.radix) ⊎ (length g.radix ≤ i) → get_or (three_coordinates (coordinates g.radix node)) i 0 ≤ get_or (three_coordinates (coordinates g.radix (nodes g - 1))) i 0
    at (inl inside) =
        let radices = AreRadices-from_test g.radix sound.sizes in
        let below = IsWithin-at g.radix (coordinates g.radix node) i (IsWithin-coordinates g.radix node radices) inside in
        omega (arith, get_or-padded (coordinates g.radix node) i l, corner-at g i sound l, below)
    at (inr past) =
        let none : get_or (coordinates g.radix node) i 0 ≡ 0 = get_or-past (coordinates g.radix node) i (omega (arith, length-coordinates g.radix node)) in
        omega (arith, get_or-padded (coordinates g.radix node) i l, none)
