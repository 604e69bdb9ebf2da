-- The tables of a block have the places of the neighbours of its routers.
use Rattle.std.proofs.Common.{◌≡◌, ◌≢◌, ◌⊎◌, ℕ, zero, suc, ◌+◌, ◌-◌, ◌*◌, ◌/◌, ◌%◌, ◌^◌, ◌<◌, ◌≤◌, Bool, true, false, List, [], ◌∷◌, ◌++◌, Some, None, length, map, take, arith, ap, ap₂, sym, ◌∙◌, subst, refl, inl, inr, bit_or, lit≤, pow-add, replicate, slice_index}
use Rattle.std.specs.Prelude.{◌&&◌, ◌||◌, not, nat_eq, nat_lt, if◌then◌else◌}
use Rattle.std.proofs.lemmas.Bool.{cases_eq, cases_lt, eq-eqb, false_from_ne_true, le-ltb, lt-ltb, ne_eqb, true_from_ne_false, true≢false}
use Rattle.std.proofs.lemmas.List.{length_push}
use Rattle.std.proofs.lemmas.Nat.{mod-mul-add, mod_below, mul-le, shl_whole}
use Rattle.noc_packet.specs.Set.{has_bit}
use Rattle.noc_topo.specs.Lists.{one_if}
use Rattle.noc_topo.specs.Shape.{Grid, IsGrid, is_plus, local_port, neighbour, nodes, opposite, product}
use Rattle.noc_sets.specs.Gather.{goes_straight, span, stride}
use Rattle.noc_sets.specs.Unions.{some_below}
use Rattle.noc_sets.proofs.DistanceLemmas.{round-known, straight-known}
use Rattle.noc_sets.proofs.UnionLemmas.{or-assoc}
use Rattle.noc_columns.specs.Near.{ArePlacesOf, comes_by, comes_from, distance_by, lands_at, leads}
use Rattle.noc_columns.specs.Places.{AreFar, AreFarIn, IsNear, far_places, places_by, stands_in, way_by}
use Rattle.noc_columns.specs.Words.{set_below, word}
use Rattle.noc_columns.specs.declared.neighbours.Far.{Far}
use Rattle.noc_columns.specs.declared.neighbours.Near.{Near}
use Rattle.noc_sets.proofs.MemberLemmas.{and-false}
use Rattle.noc_columns.proofs.NearLemmas.{neighbour-is}
use Rattle.noc_columns.proofs.PickLemmas.{apart}
use Rattle.noc_columns.proofs.SetLemmas.{below-members}

-- ---- how far apart neighbours are
-- the product of the lower radices, with one more
pub product-next : (ks : List ℕ) (d : ℕ) → d < length ks → product (take (d + 1) ks) ≡ product (take d ks) * slice_index ks d
product-next [] d l = absurd (omega (arith, l))
product-next (k ∷ ks) zero l = omega arith
product-next (k ∷ ks) (suc d) l =
    let n : suc d + 1 ≡ suc (d + 1) = omega arith in
    ap (λ m. product (take m (k ∷ ks))) n ∙ ap (λ p. k * p) (product-next ks d (omega (arith, l))) ∙ omega arith

pub product-few : (s k d : ℕ) → s ≤ 16 ^ d → k ≤ 16 → s * k ≤ 16 ^ (d + 1)
product-few s k d l m =
    let e : 16 ^ (d + 1) ≡ 16 ^ d * 16 = pow-add 16 d 1 in
    let f : s * k ≤ 16 ^ d * 16 = mul-le s k (16 ^ d) 16 l m in
    omega (arith, e, f)

pub power-few : (d : ℕ) → d < 3 → 16 ^ d ≤ 256
power-few zero l = lit≤ tt
power-few (suc zero) l = lit≤ tt
power-few (suc (suc zero)) l = lit≤ tt
power-few (suc (suc (suc d))) l = absurd (omega (arith, l))

pub step-few : (s k d : ℕ) → d < 3 → s ≤ 16 ^ d → k ≤ 16 → s * k ≤ 4096
step-few s k d l few small =
    let most = power-few d l in
    let f : s * k ≤ 256 * 16 = mul-le s k 256 16 (omega (arith, few, most)) small in
    omega (arith, f)

-- around the end of a block, where the way to a neighbour leads back, and where it leads on
pub turned-back : (g : Grid) (p step : ℕ) (far : Bool) → step ≡ (if far then span g (p / 2) else stride g (p / 2)) → is_plus p ≡ far → (64 - step % 64) % 64 ≡ distance_by g p far
turned-back g p step true is e = ap (λ n. (64 - n % 64) % 64) is ∙ ap (λ b. if b then (64 - span g (p / 2) % 64) % 64 else span g (p / 2) % 64) (sym e)
turned-back g p step false is e = ap (λ n. (64 - n % 64) % 64) is ∙ ap (λ b. if b then stride g (p / 2) % 64 else (64 - stride g (p / 2) % 64) % 64) (sym e)

pub turned-on : (g : Grid) (p step : ℕ) (far : Bool) → step ≡ (if far then span g (p / 2) else stride g (p / 2)) → is_plus p ≢ far → step % 64 ≡ distance_by g p far
turned-on g p step true is o = ap (λ n. n % 64) is ∙ ap (λ b. if b then (64 - span g (p / 2) % 64) % 64 else span g (p / 2) % 64) (sym (false_from_ne_true (is_plus p) o))
turned-on g p step false is o = ap (λ n. n % 64) is ∙ ap (λ b. if b then stride g (p / 2) % 64 else (64 - stride g (p / 2) % 64) % 64) (sym (true_from_ne_false (is_plus p) o))

-- ---- the routers whose neighbour stands in a block
-- a router by its place in its block
router-is : (s b : ℕ) → s / 64 ≡ b → 64 * b + s % 64 ≡ s
router-is s b e = omega (arith, e)

place-few : (s : ℕ) → s % 64 < 64
place-few s = omega arith

module _ (g : Grid) (s p c : ℕ) (far : Bool) where
  stands-at : s < nodes g → stands_in g s p far c ≡ (leads g s p far && nat_eq (lands_at g s p far / 64) c)
  stands-at known = ap (λ b. b && (leads g s p far && nat_eq (lands_at g s p far / 64) c)) (lt-ltb s (nodes g) known)

  pub stands-beyond : nodes g ≤ s → false ≡ stands_in g s p far c
  stands-beyond beyond = sym (ap (λ b. b && (leads g s p far && nat_eq (lands_at g s p far / 64) c)) (le-ltb s (nodes g) beyond))

  pub stands-not : s < nodes g → leads g s p far ≡ false → false ≡ stands_in g s p far c
  stands-not known not_led = sym (stands-at known ∙ ap (λ b. b && nat_eq (lands_at g s p far / 64) c) not_led)

  module _ (sound : IsGrid g) (known : s < nodes g) (link : p < local_port g) (led : leads g s p far ≡ true) where
    lands-is : (to back : ℕ) → neighbour g s p ≡ Some (to, back) → to ≡ lands_at g s p far
    lands-is to back e =
        let both : Some (to, back) ≡ Some (lands_at g s p far, opposite p) = sym e ∙ neighbour-is g sound s p known link far led in
        let pair : (to, back) ≡ (lands_at g s p far, opposite p) = cc both in
        ap (λ (q : ℕ × ℕ). q.0) pair

    pub stands-some : (to back : ℕ) → neighbour g s p ≡ Some (to, back) → nat_eq (to / 64) c ≡ stands_in g s p far c
    stands-some to back e = ap (λ t. nat_eq (t / 64) c) (lands-is to back e) ∙ sym (stands-at known ∙ ap (λ b. b && nat_eq (lands_at g s p far / 64) c) led)

    pub stands-none : neighbour g s p ≡ None → ⊥
    stands-none e = let both : None ≡ Some (lands_at g s p far, opposite p) = sym e ∙ neighbour-is g sound s p known link far led in cc both

lands-known : (g : Grid) (s p : ℕ) (far : Bool) → IsGrid g → s < nodes g → p < local_port g → leads g s p far ≡ true → lands_at g s p far < nodes g
lands-known g s p false sound known link led = straight-known g sound s p known link led
lands-known g s p true sound known link led = round-known g sound s p known link led

stands-true : (g : Grid) (s b p c : ℕ) (far : Bool) → s / 64 ≡ b → s < nodes g → leads g s p far ≡ true → lands_at g s p far / 64 ≡ c → stands_in g (64 * b + s % 64) p far c ≡ true
stands-true g s b p c far here known led there =
    ap (λ t. stands_in g t p far c) (router-is s b here)
    ∙ stands-at g s p c far known
    ∙ ap₂ (λ x y. x && y) led (eq-eqb (lands_at g s p far / 64) c there)

-- ---- a mask, router by router
pub one-router : (r : ℕ) → r < 64 → 1 * 2 ^ r % 2 ^ 64 ≡ 2 ^ r
one-router r few = shl_whole 1 1 r 64 (omega arith) (omega (arith, few)) ∙ (let e : 1 * 2 ^ r ≡ 2 ^ r = omega arith in e)

pub mask-next : (mask bit r : ℕ) (inside : Bool) (test : ℕ → Bool) → mask ≡ set_below r test → bit ≡ (if inside then 2 ^ r else 0) → inside ≡ test r → bit_or mask bit ≡ set_below (r + 1) test
mask-next mask bit r inside test is next same =
    ap₂ bit_or is (next ∙ ap (λ b. if b then 2 ^ r else 0) same)
    ∙ (let e : suc r ≡ r + 1 = omega arith in ap (λ n. set_below n test) e)

pub mask-all : (n mask : ℕ) (test : ℕ → Bool) → mask ≡ set_below n test → n ≡ 64 → (r : ℕ) → r < 64 → has_bit mask r ≡ test r
mask-all n mask test is all r few = ap (λ m. has_bit m r) is ∙ below-members n test r ∙ ap (λ b. b && test r) (lt-ltb r n (omega (arith, all, few)))

-- ---- words that are written
-- none at first
pub zeros : (n k : ℕ) → slice_index (replicate n 0) k ≡ 0
zeros zero k = refl
zeros (suc n) zero = refl
zeros (suc n) (suc k) = zeros n k

pub link-below : (k links local : ℕ) → 0 < links → links ≡ local → k % links < local
link-below k links local some same = subst (λ n. k % links < n) same (mod_below k links some)

pub channels-few : (vcs links : ℕ) → vcs ≤ 8 → links ≤ 6 → vcs * links ≤ 48
channels-few vcs links l m = mul-le vcs links 8 6 l m

-- ---- neighbours in other blocks, of which those in so many are told: of each block those one step
-- on, and then those round
pub record AreFarTo (g : Grid) (b p i : ℕ) (far : List Far) : Type 0 where
  pub way : ℕ → Bool
  pub port : (j : ℕ) → j < length far → slice_index (map (λ (f : Far). f.port) far) j ≡ p
  pub block : (j : ℕ) → j < length far → ((far_places far).block j ≢ b) × (64 * (far_places far).block j < nodes g)
  pub distance : (j : ℕ) → j < length far → (far_places far).distance j ≡ distance_by g p (way j)
  pub mask : (j r : ℕ) → j < length far → r < 64 → has_bit ((far_places far).mask j) r ≡ stands_in g (64 * b + r) p (way j) ((far_places far).block j)
  pub all : (s : ℕ) (to : Bool) → s / 64 ≡ b → s < nodes g → leads g s p to ≡ true → 2 * (lands_at g s p to / 64) + one_if to < i
      → (lands_at g s p to / 64 ≡ b) ⊎ ((j : ℕ) × (j < length far) × (way j ≡ to) × ((far_places far).block j ≡ lands_at g s p to / 64))

-- the last element of a list, and the others
module _ (f : Far → ℕ) where
  at-left : (far : List Far) (x : Far) (j : ℕ) → j < length far → slice_index (map f (far ++ x ∷ [])) j ≡ slice_index (map f far) j
  at-left [] x j l = absurd (omega (arith, l))
  at-left (y ∷ far) x zero l = refl
  at-left (y ∷ far) x (suc j) l = at-left far x j (omega (arith, l))

  at-last : (far : List Far) (x : Far) → slice_index (map f (far ++ x ∷ [])) (length far) ≡ f x
  at-last [] x = refl
  at-last (y ∷ far) x = at-last far x

each-next : (far : List Far) (x : Far) (Q : ℕ → Type 0) → ((j : ℕ) → j < length far → Q j) → Q (length far) → (j : ℕ) → j < length (far ++ x ∷ []) → Q j
each-next far x Q before last j l =
    let more = length_push far x in
    elim (cases_lt j (length far)) [
      | inl below ↦ before j below
      | inr above ↦ let same : length far ≡ j = omega (arith, l, more, above) in subst Q same last
    ]

place-parts : (c i : ℕ) (to : Bool) → 2 * c + one_if to ≡ i → (c ≡ i / 2) × (to ≡ nat_eq (i % 2) 1)
place-parts c i true e = (omega (arith, e), sym (eq-eqb (i % 2) 1 (omega (arith, e))))
place-parts c i false e = (omega (arith, e), sym (ne_eqb (i % 2) 1 (omega (arith, e))))

module _ (g : Grid) (b p : ℕ) where
  pub far-none : AreFarTo g b p 0 []
  far-none = record {
    way = λ j. false;
    port = λ j l. absurd (omega (arith, l));
    block = λ j l. absurd (omega (arith, l));
    distance = λ j l. absurd (omega (arith, l));
    mask = λ j r l. absurd (omega (arith, l));
    all = λ s to here known led l. absurd (omega (arith, l));
  }

  pub far-skip : (i : ℕ) (far : List Far) → AreFarTo g b p i far → AreFarIn g b p (nat_eq (i % 2) 1) (i / 2) None → AreFarTo g b p (i + 1) far
  far-skip i far are none = record {
    way = are.way;
    port = are.port;
    block = are.block;
    distance = are.distance;
    mask = are.mask;
    all = λ s to here known led l. elim (cases_eq (2 * (lands_at g s p to / 64) + one_if to) i) [
      | inl same ↦ inl (own s to here known led (place-parts (lands_at g s p to / 64) i to same) none)
      | inr other ↦ are.all s to here known led (omega (arith, l, other))
    ];
  }
    where
      own : (s : ℕ) (to : Bool) → s / 64 ≡ b → s < nodes g → leads g s p to ≡ true → (lands_at g s p to / 64 ≡ i / 2) × (to ≡ nat_eq (i % 2) 1)
          → (i / 2 ≡ b) ⊎ ((r : ℕ) → r < 64 → stands_in g (64 * b + r) p (nat_eq (i % 2) 1) (i / 2) ≡ false) → lands_at g s p to / 64 ≡ b
      own s to here known led is (inl home) = is.0 ∙ home
      own s to here known led is (inr free) =
          absurd (true≢false (sym (stands-true g s b p (i / 2) to here known led is.0) ∙ ap (λ w. stands_in g (64 * b + s % 64) p w (i / 2)) is.1 ∙ free (s % 64) (place-few s)))

  pub far-push : (i : ℕ) (far : List Far) (f : Far) → AreFarTo g b p i far → AreFarIn g b p (nat_eq (i % 2) 1) (i / 2) (Some f) → 64 * (i / 2) < nodes g → AreFarTo g b p (i + 1) (far ++ f ∷ [])
  far-push i far f are one exists = record {
    way = next;
    port = each-next far f (λ j. slice_index (map (λ (x : Far). x.port) more) j ≡ p) (λ j l. at-left (λ x. x.port) far f j l ∙ are.port j l) (at-last (λ x. x.port) far f ∙ one.1.port);
    block = each-next far f (λ j. ((far_places more).block j ≢ b) × (64 * (far_places more).block j < nodes g))
        (λ j l. subst (λ n. (n ≢ b) × (64 * n < nodes g)) (sym (at-left (λ x. x.block) far f j l)) (are.block j l))
        (subst (λ n. (n ≢ b) × (64 * n < nodes g)) (sym here) (one.0, exists));
    distance = each-next far f (λ j. (far_places more).distance j ≡ distance_by g p (next j))
        (λ j l. at-left (λ x. x.distance) far f j l ∙ are.distance j l ∙ ap (distance_by g p) (sym (before j l)))
        (at-last (λ x. x.distance) far f ∙ one.1.distance ∙ ap (distance_by g p) (sym last));
    mask = λ j r l few. each-next far f (λ k. has_bit ((far_places more).mask k) r ≡ stands_in g (64 * b + r) p (next k) ((far_places more).block k))
        (λ k m.
        ap (λ w. has_bit w r) (at-left (λ x. x.mask) far f k m) ∙ are.mask k r m few
        ∙ ap₂ (λ w c. stands_in g (64 * b + r) p w c) (sym (before k m)) (sym (at-left (λ x. x.block) far f k m)))
        (ap (λ w. has_bit w r) (at-last (λ x. x.mask) far f) ∙ one.1.mask r few ∙ ap₂ (λ w c. stands_in g (64 * b + r) p w c) (sym last) (sym here)) j l;
    all = λ s to home known led l. elim (cases_eq (2 * (lands_at g s p to / 64) + one_if to) i) [
      | inl same ↦
          let parts = place-parts (lands_at g s p to / 64) i to same in
          inr (length far, (let e = length_push far f in omega (arith, e)), last ∙ sym parts.1, here ∙ sym parts.0)
      | inr other ↦ elim (are.all s to home known led (omega (arith, l, other))) [
        | inl own ↦ inl own
        | inr found ↦ inr (found.0, (let e = length_push far f in let m = found.1 in omega (arith, e, m)), before found.0 found.1 ∙ found.2, at-left (λ x. x.block) far f found.0 found.1 ∙ found.3)
      ]
    ];
  }
    where
      more : List Far
      more = far ++ f ∷ []

      next : ℕ → Bool
      next j = if nat_lt j (length far) then are.way j else nat_eq (i % 2) 1

      before : (j : ℕ) → j < length far → next j ≡ are.way j
      before j l = ap (λ b. if b then are.way j else nat_eq (i % 2) 1) (lt-ltb j (length far) l)

      last : next (length far) ≡ nat_eq (i % 2) 1
      last = ap (λ b. if b then are.way (length far) else nat_eq (i % 2) 1) (le-ltb (length far) (length far) (omega arith))

      here : (far_places more).block (length far) ≡ i / 2
      here = at-last (λ x. x.block) far f ∙ one.1.block

  pub far-all : (i : ℕ) (far : List Far) → IsGrid g → p < local_port g → i ≡ 2 * ((nodes g + 64 - 1) / 64) → AreFarTo g b p i far → AreFar g b p far
  far-all i far sound link count are = record {
    way = are.way;
    port = are.port;
    block = are.block;
    distance = are.distance;
    mask = are.mask;
    all = λ s to here known led. are.all s to here known led (inside (lands_at g s p to) to (lands-known g s p to sound known link led));
  }
    where
      inside : (t : ℕ) (to : Bool) → t < nodes g → 2 * (t / 64) + one_if to < i
      inside t true l = omega (arith, l, count)
      inside t false l = omega (arith, l, count)

-- ---- both
module _ (g : Grid) (vcs b v p : ℕ) (near : Near) (far : List Far) (other : AreFar g b p far) (few : v < vcs) (link : p < local_port g) (own : IsNear g vcs b near) where
  abbrev k : ℕ
  k = v * local_port g + p

  inside : k < vcs * local_port g
  inside = apart v vcs (local_port g) p few link

  port : k % local_port g ≡ p
  port = mod-mul-add v (local_port g) p link

  distances : (j : ℕ) → j < suc (suc (length far)) → (places_by near far b k).distance j ≡ distance_by g p (way_by other.way j)
  distances zero l = own.straight.distance k inside ∙ ap (λ q. distance_by g q false) port
  distances (suc zero) l = own.round.distance k inside ∙ ap (λ q. distance_by g q true) port
  distances (suc (suc j)) l = other.distance j (omega (arith, l))

  masks : (j s : ℕ) → j < suc (suc (length far)) → s / 64 ≡ b → s < nodes g
      → has_bit ((places_by near far b k).mask j) (s % 64) ≡ (leads g s p (way_by other.way j) && nat_eq (lands_at g s p (way_by other.way j) / 64) ((places_by near far b k).block j))
  masks zero s l here known =
      own.straight.mask k (s % 64) inside (place-few s)
      ∙ ap₂ (λ t q. stands_in g t q false b) (router-is s b here) port
      ∙ stands-at g s p b false known
  masks (suc zero) s l here known =
      own.round.mask k (s % 64) inside (place-few s)
      ∙ ap₂ (λ t q. stands_in g t q true b) (router-is s b here) port
      ∙ stands-at g s p b true known
  masks (suc (suc j)) s l here known =
      other.mask j (s % 64) (omega (arith, l)) (place-few s)
      ∙ ap (λ t. stands_in g t p (other.way j) ((far_places far).block j)) (router-is s b here)
      ∙ stands-at g s p ((far_places far).block j) (other.way j) known

  found : (s : ℕ) (way : Bool) → s / 64 ≡ b → s < nodes g → leads g s p way ≡ true
      → (j : ℕ) × (j < suc (suc (length far))) × (way_by other.way j ≡ way) × ((places_by near far b k).block j ≡ lands_at g s p way / 64)
  found s way here known led = at way (other.all s way here known led)
    where
      at : (to : Bool) → (lands_at g s p to / 64 ≡ b) ⊎ ((j : ℕ) × (j < length far) × (other.way j ≡ to) × ((far_places far).block j ≡ lands_at g s p to / 64))
          → (j : ℕ) × (j < suc (suc (length far))) × (way_by other.way j ≡ to) × ((places_by near far b k).block j ≡ lands_at g s p to / 64)
      at false (inl home) = (zero, omega arith, refl, sym home)
      at true (inl home) = (suc zero, omega arith, refl, sym home)
      at to (inr one) = (suc (suc one.0), (let m = one.1 in omega (arith, m)), one.2, one.3)

  pub near-and-far : ArePlacesOf g b p (way_by other.way) (places_by near far b k)
  near-and-far = record { distance = distances; mask = masks; all = found }

-- ---- what comes from there
or-no : (b : Bool) → (false || b) ≡ (b || false)
or-no true = refl
or-no false = refl

-- the first of the numbers, and the others
pub some-shift : (n : ℕ) (t : ℕ → Bool) → some_below (suc n) t ≡ (t zero || some_below n (λ j. t (suc j)))
some-shift zero t = or-no (t zero)
some-shift (suc n) t = ap (λ b. b || t (suc n)) (some-shift n t) ∙ or-assoc (t zero) (some_below n (λ j. t (suc j))) (t (suc n))

-- one at the other end of its line stands in a ring
no-round : (g : Grid) (s p c : ℕ) → g.wraps ≡ false → stands_in g s p true c ≡ false
no-round g s p c flat = ap (λ w. nat_lt s (nodes g) && ((w && not (goes_straight g s p)) && nat_eq (lands_at g s p true / 64) c)) flat ∙ and-false (nat_lt s (nodes g))

pub near-or-far : (g : Grid) (vcs b k r : ℕ) (near : Near) (far : List Far) (sent : ℕ → ℕ) → k < vcs * local_port g → r < 64 → IsNear g vcs b near
    → comes_by (places_by near far b k) sent r
    ≡ ((comes_from (word k near.straight.distance) (word k near.straight.mask) (sent b) r || (near.rings && comes_from (word k near.round.distance) (word k near.round.mask) (sent b) r)) || comes_by (far_places far) sent r)
near-or-far g vcs b k r near far sent inside few own =
    some-shift (suc (length far)) there
    ∙ ap (λ x. there zero || x) (some-shift (length far) (λ j. there (suc j)) ∙ ap (λ x. x || comes_by (far_places far) sent r) (ringed near.rings refl))
    ∙ sym (or-assoc (there zero) (near.rings && there (suc zero)) (comes_by (far_places far) sent r))
  where
    there : ℕ → Bool
    there j = comes_from ((places_by near far b k).distance j) ((places_by near far b k).mask j) (sent ((places_by near far b k).block j)) r

    ringed : (rings : Bool) → near.rings ≡ rings → there (suc zero) ≡ (rings && there (suc zero))
    ringed true e = refl
    ringed false e =
        ap (λ m. m && has_bit (sent b) ((r + word k near.round.distance) % 64))
        (own.round.mask k r inside few ∙ no-round g (64 * b + r) (k % local_port g) b (sym own.rings ∙ e))
