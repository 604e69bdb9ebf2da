-- Neighbours stand at fixed distances in the numbering of routers.
use Rattle.std.proofs.Common.{◌≡◌, ℕ, zero, suc, ◌+◌, ◌-◌, ◌*◌, ◌/◌, ◌%◌, ◌<◌, ◌≤◌, Bool, true, false, List, [], ◌∷◌, length, get_or, set, take, Option, Some, None, refl, ap, sym, ◌∙◌, arith, inl, inr}
use Rattle.std.proofs.Math.Nat.{div-lt_iff_lt-mul, mod-add-div}
use Rattle.std.specs.Prelude.{◌⊎◌, ◌&&◌, nat_lt, not, option_map, if◌then◌else◌}
use Rattle.std.proofs.lemmas.Bool.{and_parts, cases_lt, le-ltb, lt-ltb, ltb-false, ltb-true, not-true}
use Rattle.noc_topo.specs.Shape.{Grid, IsGrid, coordinates, is_plus, local_port, moved_in, neighbour, node_at, nodes, opposite, product}
use Rattle.noc_topo.proofs.LinkLemmas.{link_back, AreRadices, AreRadices-from_test, IsWithin-at, IsWithin-coordinates, led, node_at-coordinates}
use Rattle.noc_sets.specs.Gather.{goes_round, goes_straight, neighbour_by, round, span, straight, stride}

-- one coordinate changed: the number changes by so many strides
pub node-changed : (ks : List ℕ) → AreRadices ks → (node x i : ℕ) → node < product ks → i < length ks
    → node_at ks (set (coordinates ks node) i x) + product (take i ks) * get_or (coordinates ks node) i 0 ≡ node + product (take i ks) * x
node-changed [] r node x i l u = absurd (omega arith)
node-changed (k ∷ ks) r node x zero l u =
    let small : node / k < product ks = (div-lt_iff_lt-mul {k = k} {x = node} {y = product ks} (omega (arith, r.0))).1 (omega arith) in
    let same : node_at ks (coordinates ks (node / k)) ≡ node / k = node_at-coordinates ks (node / k) r.2 small in
    let whole : node % k + k * (node / k) ≡ node = mod-add-div node k in
    rw same (omega (arith, whole))
node-changed (k ∷ ks) r node x (suc i) l u =
    let small : node / k < product ks = (div-lt_iff_lt-mul {k = k} {x = node} {y = product ks} (omega (arith, r.0))).1 (omega arith) in
    let rest = node-changed ks r.2 (node / k) x i small (omega arith) in
    let whole : node % k + k * (node / k) ≡ node = mod-add-div node k in
    let all : k * (node_at ks (set (coordinates ks (node / k)) i x) + product (take i ks) * get_or (coordinates ks (node / k)) i 0) ≡ k * (node / k + product (take i ks) * x) = ap (λ z. k * z) rest in
    omega (arith, all, whole)

module _ (g : Grid) (sound : IsGrid g) (r port : ℕ) (known : r < nodes g) (link : port < local_port g) where
  abbrev k : ℕ
  k = get_or g.radix (port / 2) 0

  abbrev c : ℕ
  c = get_or (coordinates g.radix r) (port / 2) 0

  half : port / 2 < length g.radix
  half = omega (arith, link)

  radices : AreRadices g.radix
  radices = AreRadices-from_test g.radix sound.sizes

  small : c < k
  small = IsWithin-at g.radix (coordinates g.radix r) (port / 2) (IsWithin-coordinates g.radix r radices) half

  changed : (x : ℕ) → node_at g.radix (set (coordinates g.radix r) (port / 2) x) + stride g (port / 2) * c ≡ r + stride g (port / 2) * x
  changed x = node-changed g.radix radices r x (port / 2) known half

  -- by the direction
  abbrev Straight : Bool → Bool
  Straight up = if up then nat_lt (c + 1) k else nat_lt 0 c

  abbrev By : Bool → Option (ℕ × ℕ)
  By up =
      if Straight up then Some (if up then r + stride g (port / 2) else r - stride g (port / 2), opposite port)
      else if g.wraps && not (Straight up) then Some (if up then r - span g (port / 2) else r + span g (port / 2), opposite port)
      else None

  abbrev Led : Option ℕ → Option (ℕ × ℕ)
  Led o = option_map (led g r port) o

  same : (a b : ℕ) → a ≡ b → ◌≡◌ {A = Option (ℕ × ℕ)} (Some (a, opposite port)) (Some (b, opposite port))
  same a b e = ap (λ n. Some (n, opposite port)) e

  moved : (up : Bool) → Led (moved_in g.wraps k up c) ≡ By up
  moved true = at (cases_lt (c + 1) k) g.wraps refl
    where
      at : (c + 1 < k) ⊎ (k ≤ c + 1) → (b : Bool) → g.wraps ≡ b → Led (moved_in g.wraps k true c) ≡ By true
      at (inl m) b w = let t = lt-ltb (c + 1) k m in let e = changed (c + 1) in rw t (same _ _ (omega (arith, e)))
      at (inr m) true w =
          let t = le-ltb (c + 1) k m in
          let last : k - 1 ≡ c = let s = small in omega (arith, s, m) in
          let e = changed 0 in
          let far : span g (port / 2) ≡ stride g (port / 2) * c = ap (λ n. stride g (port / 2) * n) last in
          rw (t, w) (same _ _ (omega (arith, e, far)))
      at (inr m) false w = let t = le-ltb (c + 1) k m in rw (t, w) refl
  moved false = at (cases_lt 0 c) g.wraps refl
    where
      at : (0 < c) ⊎ (c ≤ 0) → (b : Bool) → g.wraps ≡ b → Led (moved_in g.wraps k false c) ≡ By false
      at (inl m) b w =
          let t = lt-ltb 0 c m in
          let e = changed (c - 1) in
          let more : c - 1 + 1 ≡ c = omega (arith, m) in
          let spread : stride g (port / 2) * c ≡ stride g (port / 2) * (c - 1) + stride g (port / 2) = ap (λ n. stride g (port / 2) * n) (sym more) ∙ omega arith in
          rw t (same _ _ (omega (arith, e, spread)))
      at (inr m) true w =
          let t = le-ltb 0 c m in
          let e = changed (k - 1) in
          let none : stride g (port / 2) * c ≡ 0 = let z : c ≡ 0 = omega (arith, m) in ap (λ n. stride g (port / 2) * n) z ∙ omega arith in
          rw (t, w) (same _ _ (omega (arith, e, none)))
      at (inr m) false w = let t = le-ltb 0 c m in rw (t, w) refl

-- the neighbour of a router at a port is at one distance or the other
pub neighbour-by : (g : Grid) → IsGrid g → (r port : ℕ) → r < nodes g → neighbour g r port ≡ neighbour_by g r port
neighbour-by g sound r port known = at (cases_lt port (local_port g))
  where
    directed : (up : Bool) (sound : IsGrid g) (link : port < local_port g) → is_plus port ≡ up → option_map (led g r port) (moved_in g.wraps (get_or g.radix (port / 2) 0) (is_plus port) (get_or (coordinates g.radix r) (port / 2) 0))
        ≡ (if goes_straight g r port then Some (straight g r port, opposite port) else if goes_round g r port then Some (round g r port, opposite port) else None)
    directed up sound link e = moved g sound r port known link (is_plus port)

    at : (port < local_port g) ⊎ (local_port g ≤ port) → neighbour g r port ≡ neighbour_by g r port
    at (inl l) = rw (lt-ltb port (local_port g) l) (directed (is_plus port) sound l refl)
    at (inr u) = rw (le-ltb port (local_port g) u) refl

-- ---- where it is, it is a router
module _ (g : Grid) (sound : IsGrid g) (r port : ℕ) (known : r < nodes g) (link : port < local_port g) where
  there : (b : ℕ) → neighbour g r port ≡ Some (b, opposite port) → b < nodes g
  there b e = (link_back g r port b (opposite port) sound known e).node

  by-distance : neighbour g r port ≡ (if goes_straight g r port then Some (straight g r port, opposite port) else if goes_round g r port then Some (round g r port, opposite port) else None)
  by-distance = neighbour-by g sound r port known
      ∙ ap (λ b. if b then (if goes_straight g r port then Some (straight g r port, opposite port) else if goes_round g r port then Some (round g r port, opposite port) else None) else None) (lt-ltb port (local_port g) link)

  pub straight-known : goes_straight g r port ≡ true → straight g r port < nodes g
  straight-known e = there (straight g r port) (by-distance ∙ ap (λ b. if b then Some (straight g r port, opposite port) else if goes_round g r port then Some (round g r port, opposite port) else None) e)

  pub round-known : goes_round g r port ≡ true → round g r port < nodes g
  round-known e =
      let parts = and_parts g.wraps (not (goes_straight g r port)) e in
      there (round g r port)
      (by-distance ∙ ap (λ b. if b then Some (straight g r port, opposite port) else if goes_round g r port then Some (round g r port, opposite port) else None) (not-true (goes_straight g r port) parts.1)
      ∙ ap (λ b. if b then Some (round g r port, opposite port) else None) e)

  -- no stride and no span goes below the first router
  pub stride-fits : is_plus port ≡ false → goes_straight g r port ≡ true → stride g (port / 2) ≤ r
  stride-fits down e =
      let more : 0 < get_or (coordinates g.radix r) (port / 2) 0
      = ltb-true 0 (get_or (coordinates g.radix r) (port / 2) 0) (sym (ap (λ b. if b then nat_lt (get_or (coordinates g.radix r) (port / 2) 0 + 1) (get_or g.radix (port / 2) 0) else nat_lt 0 (get_or (coordinates g.radix r) (port / 2) 0)) down) ∙ e) in
      let one : get_or (coordinates g.radix r) (port / 2) 0 - 1 + 1 ≡ get_or (coordinates g.radix r) (port / 2) 0 = omega (arith, more) in
      let all = changed g sound r port known link (get_or (coordinates g.radix r) (port / 2) 0 - 1) in
      let spread : stride g (port / 2) * get_or (coordinates g.radix r) (port / 2) 0 ≡ stride g (port / 2) * (get_or (coordinates g.radix r) (port / 2) 0 - 1) + stride g (port / 2)
      = ap (λ n. stride g (port / 2) * n) (sym one) ∙ omega arith in
      omega (arith, all, spread)

  pub span-fits : is_plus port ≡ true → goes_round g r port ≡ true → span g (port / 2) ≤ r
  span-fits up e =
      let parts = and_parts g.wraps (not (goes_straight g r port)) e in
      let last : nat_lt (get_or (coordinates g.radix r) (port / 2) 0 + 1) (get_or g.radix (port / 2) 0) ≡ false
      = sym (ap (λ b. if b then nat_lt (get_or (coordinates g.radix r) (port / 2) 0 + 1) (get_or g.radix (port / 2) 0) else nat_lt 0 (get_or (coordinates g.radix r) (port / 2) 0)) up) ∙ not-true (goes_straight g r port) parts.1 in
      let most = ltb-false (get_or (coordinates g.radix r) (port / 2) 0 + 1) (get_or g.radix (port / 2) 0) last in
      let within = small g sound r port known link in
      let is : get_or g.radix (port / 2) 0 - 1 ≡ get_or (coordinates g.radix r) (port / 2) 0 = omega (arith, most, within) in
      let all = changed g sound r port known link 0 in
      let far : span g (port / 2) ≡ stride g (port / 2) * get_or (coordinates g.radix r) (port / 2) 0 = ap (λ n. stride g (port / 2) * n) is in
      omega (arith, all, far)
