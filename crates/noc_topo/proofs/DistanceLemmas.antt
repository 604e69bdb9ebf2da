-- Distances.
use Rattle.std.proofs.Common.{◌≡◌, ℕ, zero, suc, ◌+◌, ◌-◌, ◌*◌, ◌/◌, ◌<◌, ◌≤◌, Bool, true, false, List, [], ◌∷◌, length, get_or, set, sum, Some, None, refl, sym, ap, ◌∙◌, subst, arith, inl, inr, add-mul, mul-le-mul_left, mul-one}
use Rattle.std.specs.Prelude.{◌⊎◌}
use Rattle.std.proofs.lemmas.Bool.{cases_lt, lt-ltb, le-ltb}
use Rattle.std.proofs.lemmas.List.Sums.{sum_by-cons}
use Rattle.noc_topo.specs.Shape.{Grid, IsGrid, coordinates, distance, distance_in, distance_of, moved_in, neighbour, is_plus, product}
use Rattle.noc_topo.proofs.ShapeLemmas.{length-coordinates}
use Rattle.noc_topo.proofs.LinkLemmas.{IsWithin, IsWithin-coordinates, IsWithin-set, IsWithin-at, AreRadices, AreRadices-from_test, AreRadices-at, coordinates-node_at, Hop, hop_of}

pub distance_in-below : (wraps : Bool) (k x t : ℕ) → x < k → t < k → distance_in wraps k x t < k
distance_in-below true k x t a b = omega arith
distance_in-below false k x t a b = omega arith

-- each dimension has at most one hop less than nodes
distance_of-bound : (wraps : Bool) (ks xs ts : List ℕ) → AreRadices ks → IsWithin ks xs → IsWithin ks ts → distance_of wraps ks xs ts + length ks ≤ sum ks
distance_of-bound wraps [] xs ts r a b = omega arith
distance_of-bound wraps (k ∷ ks) [] ts r a b = elim a [ ]
distance_of-bound wraps (k ∷ ks) (x ∷ xs) [] r a b = elim b [ ]
distance_of-bound wraps (k ∷ ks) (x ∷ xs) (t ∷ ts) r a b =
    omega (arith, distance_in-below wraps k x t a.0 b.0, distance_of-bound wraps ks xs ts r.2 a.1 b.1, sum_by-cons (λ y. y) k ks)

-- two radices of which the sum is great have a great product
pair-product : (b c : ℕ) → b ≤ 16 → c ≤ 16 → 16 * b + 16 * c ≤ b * c + 256
pair-product b c l m =
    let i = 16 - b in
    let whole : b + i ≡ 16 = omega arith in
    let split : 16 * c ≡ b * c + i * c = ap (λ x. x * c) (sym whole) ∙ add-mul b i c in
    let few : i * c ≤ i * 16 = mul-le-mul_left i m in
    omega arith

-- three radices of which the sum is great have a great product
more-product : (a many : ℕ) → 2 ≤ a → 32 ≤ many → 32 * a + 2 * many ≤ a * many + 64
more-product a many l m =
    let i = a - 2 in
    let whole : a ≡ 2 + i = omega arith in
    let split : a * many ≡ 2 * many + i * many = ap (λ x. x * many) whole ∙ add-mul 2 i many in
    let few : i * 32 ≤ i * many = mul-le-mul_left i m in
    omega arith

-- radices of at most 256 nodes
few-hops : (ks : List ℕ) → AreRadices ks → length ks ≤ 3 → product ks ≤ 256 → sum ks ≤ 30 + length ks
few-hops [] r l p = omega arith
few-hops (a ∷ []) r l p = omega (arith, r.1)
few-hops (a ∷ b ∷ []) r l p = omega (arith, r.1, r.2.1)
few-hops (a ∷ b ∷ c ∷ []) r l p =
    let pair = pair-product b c r.2.1 r.2.2.1 in
    let nodes : a * (b * c) ≤ 256 = subst (λ x. a * (b * x) ≤ 256) (mul-one c) p in
    elim (cases_lt (a + b + c) 34) [
      | inl few ↦ omega arith
      | inr many ↦ let more = more-product a (b * c) r.0 (omega (arith, r.1)) in absurd (omega (arith, r.1))
    ]
few-hops (a ∷ b ∷ c ∷ d ∷ ks) r l p = absurd (omega (arith, l))

-- no two nodes are more than 30 hops apart
pub distance-bound : (g : Grid) (a b : ℕ) → IsGrid g → distance g a b ≤ 30
distance-bound g a b sound =
    let radices = AreRadices-from_test g.radix sound.sizes in
    let hops = distance_of-bound g.wraps g.radix (coordinates g.radix a) (coordinates g.radix b) radices (IsWithin-coordinates g.radix a radices) (IsWithin-coordinates g.radix b radices) in
    let sizes = few-hops g.radix radices sound.few_dimensions sound.few_nodes in
    omega arith

-- ---- one coordinate changed

pub distance_of-set : (wraps : Bool) (ks xs ts : List ℕ) (i y : ℕ) → i < length ks → length xs ≡ length ks → length ts ≡ length ks
    → distance_of wraps ks (set xs i y) ts + distance_in wraps (get_or ks i 0) (get_or xs i 0) (get_or ts i 0)
    ≡ distance_of wraps ks xs ts + distance_in wraps (get_or ks i 0) y (get_or ts i 0)
distance_of-set wraps [] xs ts i y l e f = absurd (omega arith)
distance_of-set wraps (k ∷ ks) [] ts i y l e f = absurd (omega (arith, e))
distance_of-set wraps (k ∷ ks) (x ∷ xs) [] i y l e f = absurd (omega (arith, f))
distance_of-set wraps (k ∷ ks) (x ∷ xs) (t ∷ ts) zero y l e f = swap_sum (distance_in wraps k x t) (distance_in wraps k y t) (distance_of wraps ks xs ts)
  where
    swap_sum : (a b r : ℕ) → b + r + a ≡ a + r + b
    swap_sum a b r = omega arith
distance_of-set wraps (k ∷ ks) (x ∷ xs) (t ∷ ts) (suc i) y l e f =
    more (distance_in wraps k x t) (distance_of wraps ks (set xs i y) ts) (distance_in wraps (get_or ks i 0) (get_or xs i 0) (get_or ts i 0)) (distance_of wraps ks xs ts) (distance_in wraps (get_or ks i 0) y (get_or ts i 0))
    (distance_of-set wraps ks xs ts i y (omega arith) (omega (arith, e)) (omega (arith, f)))
  where
    more : (d a b a' b' : ℕ) → a + b ≡ a' + b' → d + a + b ≡ d + a' + b'
    more d a b a' b' h = omega (arith, h)

-- the node that a hop leads to has the coordinates of its beginning but for one
pub hop-coordinates : (g : Grid) (a p b q : ℕ) → IsGrid g → (h : Hop g a p b q) → coordinates g.radix b ≡ set (coordinates g.radix a) (p / 2) h.coordinate
hop-coordinates g a p b q sound h =
    let radices = AreRadices-from_test g.radix sound.sizes in
    ap (coordinates g.radix) h.node
    ∙ coordinates-node_at g.radix (set (coordinates g.radix a) (p / 2) h.coordinate) (IsWithin-set g.radix (coordinates g.radix a) (p / 2) h.coordinate (IsWithin-coordinates g.radix a radices) h.within)

-- a hop changes the distance by what it changes in its dimension
pub hop-distance : (g : Grid) (a p b q t : ℕ) → IsGrid g → (h : Hop g a p b q)
    → distance g b t + distance_in g.wraps (get_or g.radix (p / 2) 0) (get_or (coordinates g.radix a) (p / 2) 0) (get_or (coordinates g.radix t) (p / 2) 0)
    ≡ distance g a t + distance_in g.wraps (get_or g.radix (p / 2) 0) h.coordinate (get_or (coordinates g.radix t) (p / 2) 0)
hop-distance g a p b q t sound h =
    ap (λ xs. distance_of g.wraps g.radix xs (coordinates g.radix t) + distance_in g.wraps (get_or g.radix (p / 2) 0) (get_or (coordinates g.radix a) (p / 2) 0) (get_or (coordinates g.radix t) (p / 2) 0)) (hop-coordinates g a p b q sound h)
    ∙ distance_of-set g.wraps g.radix (coordinates g.radix a) (coordinates g.radix t) (p / 2) h.coordinate (omega (arith, h.link)) (length-coordinates g.radix a) (length-coordinates g.radix t)

-- ---- one step in a dimension

-- a step changes the distance by one at most
pub step-by_one : (wraps : Bool) (k x y t : ℕ) (up : Bool) → x < k → t < k → 2 ≤ k → moved_in wraps k up x ≡ Some y → distance_in wraps k x t ≤ distance_in wraps k y t + 1
step-by_one wraps k x y t true l m two e = at (cases_lt (x + 1) k) wraps refl
  where
    at : (x + 1 < k) ⊎ (k ≤ x + 1) → (b : Bool) → wraps ≡ b → distance_in wraps k x t ≤ distance_in wraps k y t + 1
    at (inl more) true h =
        let g : Some (x + 1) ≡ Some y = sym (rw (lt-ltb (x + 1) k more)) ∙ e in
        let yx : x + 1 ≡ y = cc in
        rw (h, ← yx) (omega arith)
    at (inl more) false h =
        let g : Some (x + 1) ≡ Some y = sym (rw (lt-ltb (x + 1) k more)) ∙ e in
        let yx : x + 1 ≡ y = cc in
        rw (h, ← yx) (omega arith)
    at (inr last) true h =
        let g : Some 0 ≡ Some y = sym (rw (le-ltb (x + 1) k last, h)) ∙ e in
        let yx : 0 ≡ y = cc in
        rw (h, ← yx) (omega arith)
    at (inr last) false h = let g : None ≡ Some y = sym (rw (le-ltb (x + 1) k last, h)) ∙ e in absurd (cc g)
step-by_one wraps k x y t false l m two e = at (cases_lt 0 x) wraps refl
  where
    at : (0 < x) ⊎ (x ≤ 0) → (b : Bool) → wraps ≡ b → distance_in wraps k x t ≤ distance_in wraps k y t + 1
    at (inl more) true h =
        let g : Some (x - 1) ≡ Some y = sym (rw (lt-ltb 0 x more)) ∙ e in
        let yx : x - 1 ≡ y = cc in
        rw (h, ← yx) (omega arith)
    at (inl more) false h =
        let g : Some (x - 1) ≡ Some y = sym (rw (lt-ltb 0 x more)) ∙ e in
        let yx : x - 1 ≡ y = cc in
        rw (h, ← yx) (omega arith)
    at (inr last) true h =
        let g : Some (k - 1) ≡ Some y = sym (rw (le-ltb 0 x last, h)) ∙ e in
        let yx : k - 1 ≡ y = cc in
        rw (h, ← yx) (omega arith)
    at (inr last) false h = let g : None ≡ Some y = sym (rw (le-ltb 0 x last, h)) ∙ e in absurd (cc g)

-- a hop that comes nearer comes nearer by one
pub hop-by_one : (g : Grid) (a p b q t : ℕ) → IsGrid g → neighbour g a p ≡ Some (b, q) → distance g b t < distance g a t → distance g b t + 1 ≡ distance g a t
hop-by_one g a p b q t sound e nearer =
    let h = hop_of g a p b q sound e in
    let radices = AreRadices-from_test g.radix sound.sizes in
    let half : p / 2 < length g.radix = omega (arith, h.link) in
    let size = AreRadices-at g.radix (p / 2) radices half in
    let here = IsWithin-at g.radix (coordinates g.radix a) (p / 2) (IsWithin-coordinates g.radix a radices) half in
    let there = IsWithin-at g.radix (coordinates g.radix t) (p / 2) (IsWithin-coordinates g.radix t radices) half in
    let by = step-by_one g.wraps (get_or g.radix (p / 2) 0) (get_or (coordinates g.radix a) (p / 2) 0) h.coordinate (get_or (coordinates g.radix t) (p / 2) 0) (is_plus p) here there size.0 h.moved in
    let sum = hop-distance g a p b q t sound h in
    exact (distance g b t) (distance g a t) (distance_in g.wraps (get_or g.radix (p / 2) 0) (get_or (coordinates g.radix a) (p / 2) 0) (get_or (coordinates g.radix t) (p / 2) 0))
    (distance_in g.wraps (get_or g.radix (p / 2) 0) h.coordinate (get_or (coordinates g.radix t) (p / 2) 0)) sum by nearer
  where
    exact : (b a x y : ℕ) → b + x ≡ a + y → x ≤ y + 1 → b < a → b + 1 ≡ a
    exact b a x y e f g = omega (arith, e, f, g)
