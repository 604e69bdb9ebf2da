-- The rules by coordinates.
use Rattle.std.proofs.Common.{◌≡◌, ◌≢◌, ℕ, zero, suc, ◌+◌, ◌-◌, ◌*◌, ◌/◌, ◌%◌, ◌<◌, ◌≤◌, Bool, true, false, List, [], ◌∷◌, length, get_or, Option, Some, None, refl, sym, subst, ap, ◌∙◌, arith, inl, inr}
use Rattle.std.specs.Prelude.{◌⊎◌, IfSome, ◌&&◌, ◌||◌, option_map, nat_eq, nat_lt, nat_le, if◌then◌else◌}
use Rattle.std.proofs.lemmas.Bool.{cases_lt, cases_eq, eq-eqb, ne_eqb, eqb-true, lt-ltb, le-ltb, ltb-true, ltb-false, leb-true, leb-false, false≢true}
use Rattle.std.proofs.Math.Nat.{add-mul-mod_self_left, mod-eq_of_lt}
use Rattle.std.proofs.Math.Bool.{or-true, or-false, and-false}
use Rattle.noc_topo.specs.Shape.{Grid, IsGrid, coordinates, three_coordinates, nodes, local_port, neighbour, moved_in, is_plus, distance, distance_in}
use Rattle.noc_topo.proofs.ShapeLemmas.{length-coordinates}
use Rattle.noc_topo.proofs.LinkLemmas.{AreRadices-from_test, AreRadices-at, get_or-padded, get_or-past, corner-at, IsWithin-at, IsWithin-coordinates, hop_of, led}
use Rattle.noc_topo.proofs.DistanceLemmas.{hop-distance}
use Rattle.noc_topo.specs.Lists.{is_some_of}
use Rattle.noc_route.specs.Relation.{dor_port, dor_port_from}
use Rattle.noc_steps.specs.Ways.{goes_up}

-- ---- the port of dimension order

dor_port_from-at : (wraps : Bool) (j : ℕ) (ks xs ts : List ℕ) (i : ℕ) → length xs ≡ length ks → length ts ≡ length ks → i < length ks
    → ((k : ℕ) → k < i → get_or xs k 0 ≡ get_or ts k 0) → get_or xs i 0 ≢ get_or ts i 0
    → dor_port_from wraps j ks xs ts ≡ Some (if goes_up wraps (get_or ks i 0) (get_or xs i 0) (get_or ts i 0) then 2 * (j + i) else 2 * (j + i) + 1)
dor_port_from-at wraps j [] xs ts i e f l same differ = absurd (omega arith)
dor_port_from-at wraps j (k ∷ ks) [] ts i e f l same differ = absurd (omega (arith, e))
dor_port_from-at wraps j (k ∷ ks) (x ∷ xs) [] i e f l same differ = absurd (omega (arith, f))
dor_port_from-at wraps j (k ∷ ks) (x ∷ xs) (t ∷ ts) zero e f l same differ =
    let unlike : nat_eq x t ≡ false = ne_eqb x t differ in
    let place : j + 0 ≡ j = omega arith in
    rw (unlike, place) refl
dor_port_from-at wraps j (k ∷ ks) (x ∷ xs) (t ∷ ts) (suc i) e f l same differ =
    let like : nat_eq x t ≡ true = eq-eqb x t (same 0 (omega arith)) in
    let place : j + 1 + i ≡ j + suc i = omega arith in
    rw (like, ← place) (dor_port_from-at wraps (j + 1) ks xs ts i (omega (arith, e)) (omega (arith, f)) (omega arith) (λ k l. same (suc k) (omega arith)) differ)

dor_port_from-none : (wraps : Bool) (j : ℕ) (ks xs ts : List ℕ) → length xs ≡ length ks → length ts ≡ length ks
    → ((k : ℕ) → k < length ks → get_or xs k 0 ≡ get_or ts k 0) → dor_port_from wraps j ks xs ts ≡ None
dor_port_from-none wraps j [] xs ts e f same = refl
dor_port_from-none wraps j (k ∷ ks) [] ts e f same = refl
dor_port_from-none wraps j (k ∷ ks) (x ∷ xs) [] e f same = refl
dor_port_from-none wraps j (k ∷ ks) (x ∷ xs) (t ∷ ts) e f same =
    let like : nat_eq x t ≡ true = eq-eqb x t (same 0 (omega arith)) in
    rw like (dor_port_from-none wraps (j + 1) ks xs ts (omega (arith, e)) (omega (arith, f)) (λ k l. same (suc k) (omega arith)))

-- by the padded coordinates, where the first that differ are those of dimension i
pub dor_port-at : (g : Grid) (r t i : ℕ) → IsGrid g → i < 3
    → ((k : ℕ) → k < i → get_or (three_coordinates (coordinates g.radix r)) k 0 ≡ get_or (three_coordinates (coordinates g.radix t)) k 0)
    → get_or (three_coordinates (coordinates g.radix r)) i 0 ≢ get_or (three_coordinates (coordinates g.radix t)) i 0
    → dor_port g (coordinates g.radix r) (coordinates g.radix t)
    ≡ Some (if goes_up g.wraps (get_or (three_coordinates (coordinates g.radix (nodes g - 1))) i 0 + 1) (get_or (three_coordinates (coordinates g.radix r)) i 0) (get_or (three_coordinates (coordinates g.radix t)) i 0) then 2 * i else 2 * i + 1)
dor_port-at g r t i sound three same differ = at (cases_lt i (length g.radix))
  where
    at : (i < length g.radix) ⊎ (length g.radix ≤ i) → dor_port g (coordinates g.radix r) (coordinates g.radix t)
        ≡ Some (if goes_up g.wraps (get_or (three_coordinates (coordinates g.radix (nodes g - 1))) i 0 + 1) (get_or (three_coordinates (coordinates g.radix r)) i 0) (get_or (three_coordinates (coordinates g.radix t)) i 0) then 2 * i else 2 * i + 1)
    at (inl inside) =
        let size = AreRadices-at g.radix i (AreRadices-from_test g.radix sound.sizes) inside in
        let corner : get_or (three_coordinates (coordinates g.radix (nodes g - 1))) i 0 + 1 ≡ get_or g.radix i 0 = omega (arith, corner-at g i sound three, size.0) in
        let here = get_or-padded (coordinates g.radix r) i three in
        let there = get_or-padded (coordinates g.radix t) i three in
        let place : 0 + i ≡ i = omega arith in
        rw (corner, here, there)
        (dor_port_from-at g.wraps 0 g.radix (coordinates g.radix r) (coordinates g.radix t) i (length-coordinates g.radix r) (length-coordinates g.radix t) inside
        (λ k l. sym (get_or-padded (coordinates g.radix r) k (omega arith)) ∙ same k l ∙ get_or-padded (coordinates g.radix t) k (omega arith))
        (λ e. differ (here ∙ e ∙ sym there)) ∙ rw place)
    at (inr past) =
        let here : get_or (three_coordinates (coordinates g.radix r)) i 0 ≡ 0 = get_or-padded (coordinates g.radix r) i three ∙ get_or-past (coordinates g.radix r) i (omega (arith, length-coordinates g.radix r)) in
        let there : get_or (three_coordinates (coordinates g.radix t)) i 0 ≡ 0 = get_or-padded (coordinates g.radix t) i three ∙ get_or-past (coordinates g.radix t) i (omega (arith, length-coordinates g.radix t)) in
        absurd (differ (here ∙ sym there))

pub dor_port-none : (g : Grid) (r t : ℕ) → IsGrid g → ((k : ℕ) → k < 3 → get_or (three_coordinates (coordinates g.radix r)) k 0 ≡ get_or (three_coordinates (coordinates g.radix t)) k 0)
    → dor_port g (coordinates g.radix r) (coordinates g.radix t) ≡ None
dor_port-none g r t sound same =
    dor_port_from-none g.wraps 0 g.radix (coordinates g.radix r) (coordinates g.radix t) (length-coordinates g.radix r) (length-coordinates g.radix t)
    (λ k l. sym (get_or-padded (coordinates g.radix r) k (omega (arith, sound.few_dimensions))) ∙ same k (omega (arith, sound.few_dimensions)) ∙ get_or-padded (coordinates g.radix t) k (omega (arith, sound.few_dimensions)))

pub dor_port-found : (g : Grid) (here there last : List ℕ) (r t i : ℕ) (b : Bool) → IsGrid g → here ≡ three_coordinates (coordinates g.radix r) → there ≡ three_coordinates (coordinates g.radix t)
    → last ≡ three_coordinates (coordinates g.radix (nodes g - 1)) → i < 3 → ((k : ℕ) → k < i → get_or here k 0 ≡ get_or there k 0) → get_or here i 0 ≢ get_or there i 0
    → goes_up g.wraps (get_or last i 0 + 1) (get_or here i 0) (get_or there i 0) ≡ b
    → Some (if b then 2 * i else 2 * i + 1) ≡ dor_port g (coordinates g.radix r) (coordinates g.radix t)
dor_port-found g here there last r t i b sound e f h three same differ up =
    let a = λ (k : ℕ). ap (λ xs. get_or xs k 0) e in
    let d = λ (k : ℕ). ap (λ xs. get_or xs k 0) f in
    let way : goes_up g.wraps (get_or (three_coordinates (coordinates g.radix (nodes g - 1))) i 0 + 1) (get_or (three_coordinates (coordinates g.radix r)) i 0) (get_or (three_coordinates (coordinates g.radix t)) i 0) ≡ b
    = ap (λ n. goes_up g.wraps (n + 1) (get_or (three_coordinates (coordinates g.radix r)) i 0) (get_or (three_coordinates (coordinates g.radix t)) i 0)) (sym (ap (λ xs. get_or xs i 0) h))
    ∙ ap (λ n. goes_up g.wraps (get_or last i 0 + 1) n (get_or (three_coordinates (coordinates g.radix t)) i 0)) (sym (a i))
    ∙ ap (λ n. goes_up g.wraps (get_or last i 0 + 1) (get_or here i 0) n) (sym (d i)) ∙ up in
    sym (dor_port-at g r t i sound three (λ k l. sym (a k) ∙ same k l ∙ d k) (λ q. differ (a i ∙ q ∙ sym (d i))) ∙ ap (λ b. Some (if b then 2 * i else 2 * i + 1)) way)

pub dor_port-missing : (g : Grid) (here there : List ℕ) (r t : ℕ) → IsGrid g → here ≡ three_coordinates (coordinates g.radix r) → there ≡ three_coordinates (coordinates g.radix t)
    → ((k : ℕ) → k < 3 → get_or here k 0 ≡ get_or there k 0) → None ≡ dor_port g (coordinates g.radix r) (coordinates g.radix t)
dor_port-missing g here there r t sound e f same =
    sym (dor_port-none g r t sound (λ k l. sym (ap (λ xs. get_or xs k 0) e) ∙ same k l ∙ ap (λ xs. get_or xs k 0) f))

-- ---- one channel more

pub and_next : (x l b : Bool) → (x ≡ true → b ≡ true) → (x || (l && b)) ≡ ((l || x) && b)
and_next true l b h = let yes = h refl in rw (yes, or-true l) refl
and_next false l b h = rw (or-false l) refl

pub and_next_not : (x l b : Bool) → (x ≡ true → b ≡ false) → (l && b) ≡ ((l || x) && b)
and_next_not true l b h = let no = h refl in rw (no, and-false l, and-false (l || true)) refl
and_next_not false l b h = rw (or-false l) refl

-- ---- a step in one dimension, by the shorter way

-- the way up and the way down, where the destination is above
pub round-above : (k x t : ℕ) → x < t → t < k → ((t + k - x) % k ≡ t - x) × ((x + k - t) % k ≡ x + k - t)
round-above k x t l m =
    let split : t + k - x ≡ (t - x) + k * 1 = omega arith in
    (ap (λ n. n % k) split ∙ add-mul-mod_self_left (t - x) k 1 ∙ mod-eq_of_lt {n = t - x} {m = k} (omega arith), mod-eq_of_lt {n = x + k - t} {m = k} (omega arith))

-- what a step in a dimension does
pub record Step (wraps : Bool) (k x t : ℕ) (up : Bool) : Type 0 where
  pub coordinate : ℕ
  pub moved : moved_in wraps k up x ≡ Some coordinate
  pub nearer : distance_in wraps k coordinate t + 1 ≡ distance_in wraps k x t

step_up : (wraps : Bool) (k x t : ℕ) → x + 1 < k → distance_in wraps k (x + 1) t + 1 ≡ distance_in wraps k x t → Step wraps k x t true
step_up wraps k x t l e = let more = lt-ltb (x + 1) k l in record { coordinate = x + 1; moved = rw more refl; nearer = e }

step_down : (wraps : Bool) (k x t : ℕ) → 0 < x → distance_in wraps k (x - 1) t + 1 ≡ distance_in wraps k x t → Step wraps k x t false
step_down wraps k x t l e = let more = lt-ltb 0 x l in record { coordinate = x - 1; moved = rw more refl; nearer = e }

step_over : (k x t : ℕ) → k ≤ x + 1 → distance_in true k 0 t + 1 ≡ distance_in true k x t → Step true k x t true
step_over k x t l e = let last = le-ltb (x + 1) k l in record { coordinate = 0; moved = rw last refl; nearer = e }

step_under : (k x t : ℕ) → x ≤ 0 → distance_in true k (k - 1) t + 1 ≡ distance_in true k x t → Step true k x t false
step_under k x t l e = let last = le-ltb 0 x l in record { coordinate = k - 1; moved = rw last refl; nearer = e }

pub step-mesh : (k x t : ℕ) (up : Bool) → x < k → t < k → x ≢ t → nat_lt x t ≡ up → Step false k x t up
step-mesh k x t true l m differ e = let above = ltb-true x t e in step_up false k x t (omega arith) (omega arith)
step-mesh k x t false l m differ e = let below = ltb-false x t e in step_down false k x t (omega arith) (omega arith)

step-torus : (k x t : ℕ) (up : Bool) → x < k → t < k → x ≢ t → nat_le ((t + k - x) % k) ((x + k - t) % k) ≡ up → Step true k x t up
step-torus k x t true l m differ e = at (cases_lt x t) (cases_lt (x + 1) k) (leb-true ((t + k - x) % k) ((x + k - t) % k) e)
  where
    at : (x < t) ⊎ (t ≤ x) → (x + 1 < k) ⊎ (k ≤ x + 1) → (t + k - x) % k ≤ (x + k - t) % k → Step true k x t true
    at (inl above) (inl more) short = let ways = round-above k x t above m in step_up true k x t more (omega (arith, ways.0, ways.1, short))
    at (inl above) (inr last) short = absurd (omega arith)
    at (inr below) (inl more) short = let ways = round-above k t x (omega arith) l in step_up true k x t more (omega (arith, ways.0, ways.1, short))
    at (inr below) (inr last) short = let ways = round-above k t x (omega arith) l in step_over k x t last (omega (arith, ways.0, ways.1, short))
step-torus k x t false l m differ e = at (cases_lt x t) (cases_lt 0 x) (leb-false ((t + k - x) % k) ((x + k - t) % k) e)
  where
    at : (x < t) ⊎ (t ≤ x) → (0 < x) ⊎ (x ≤ 0) → (x + k - t) % k < (t + k - x) % k → Step true k x t false
    at (inl above) (inl some) short = let ways = round-above k x t above m in step_down true k x t some (omega (arith, ways.0, ways.1, short))
    at (inl above) (inr none) short = let ways = round-above k x t above m in step_under k x t none (omega (arith, ways.0, ways.1, short))
    at (inr below) (inl some) short = let ways = round-above k t x (omega arith) l in step_down true k x t some (omega (arith, ways.0, ways.1, short))
    at (inr below) (inr none) short = absurd (omega arith)

pub step-nearer : (wraps : Bool) (k x t : ℕ) (up : Bool) → x < k → t < k → x ≢ t → goes_up wraps k x t ≡ up → Step wraps k x t up
step-nearer true k x t up l m differ e = step-torus k x t up l m differ e
step-nearer false k x t up l m differ e = step-mesh k x t up l m differ e

-- ---- a hop of a rule

-- a link to a node that is nearer by one
pub record NearerHop (g : Grid) (r p t : ℕ) : Type 0 where
  pub to : ℕ × ℕ
  pub link : neighbour g r p ≡ Some to
  pub nearer : distance g to.0 t + 1 ≡ distance g r t

pub NearerHop-from_step : (g : Grid) (r p t : ℕ) → IsGrid g → p < local_port g
    → Step g.wraps (get_or g.radix (p / 2) 0) (get_or (coordinates g.radix r) (p / 2) 0) (get_or (coordinates g.radix t) (p / 2) 0) (is_plus p) → NearerHop g r p t
NearerHop-from_step g r p t sound l step =
    let link = lt-ltb p (local_port g) l in
    let to = led g r p step.coordinate in
    let found : neighbour g r p ≡ Some to = rw link (ap (option_map (led g r p)) step.moved) in
    let h = hop_of g r p to.0 to.1 sound found in
    let both : Some step.coordinate ≡ Some h.coordinate = sym step.moved ∙ h.moved in
    let same : step.coordinate ≡ h.coordinate = cc in
    let sum = hop-distance g r p to.0 to.1 t sound h in
    let change : distance_in g.wraps (get_or g.radix (p / 2) 0) h.coordinate (get_or (coordinates g.radix t) (p / 2) 0) + 1
    ≡ distance_in g.wraps (get_or g.radix (p / 2) 0) (get_or (coordinates g.radix r) (p / 2) 0) (get_or (coordinates g.radix t) (p / 2) 0)
    = ap (λ y. distance_in g.wraps (get_or g.radix (p / 2) 0) y (get_or (coordinates g.radix t) (p / 2) 0) + 1) (sym same) ∙ step.nearer in
    record { to = to; link = found; nearer = one_less _ _ _ _ sum change }
  where
    one_less : (b a x y : ℕ) → b + x ≡ a + y → y + 1 ≡ x → b + 1 ≡ a
    one_less b a x y e f = omega (arith, e, f)

-- a port of a dimension, counted from the next one
port-next : (b : Bool) (j i : ℕ) → (if b then 2 * (j + 1 + i) else 2 * (j + 1 + i) + 1) ≡ (if b then 2 * (j + suc i) else 2 * (j + suc i) + 1)
port-next true j i = omega arith
port-next false j i = omega arith

-- the dimension of a port of dimension order: the lowest in which the coordinates differ
pub dor_port_from-some : (wraps : Bool) (j : ℕ) (ks xs ts : List ℕ) (p : ℕ) → dor_port_from wraps j ks xs ts ≡ Some p
    → (i : ℕ) × (i < length ks) × (get_or xs i 0 ≢ get_or ts i 0) × (p ≡ (if goes_up wraps (get_or ks i 0) (get_or xs i 0) (get_or ts i 0) then 2 * (j + i) else 2 * (j + i) + 1))
    × ((l : ℕ) → l < i → get_or xs l 0 ≡ get_or ts l 0)
dor_port_from-some wraps j [] xs ts p e = let never : None ≡ Some p = e in absurd (cc never)
dor_port_from-some wraps j (k ∷ ks) [] ts p e = let never : None ≡ Some p = e in absurd (cc never)
dor_port_from-some wraps j (k ∷ ks) (x ∷ xs) [] p e = let never : None ≡ Some p = e in absurd (cc never)
dor_port_from-some wraps j (k ∷ ks) (x ∷ xs) (t ∷ ts) p e = at (dor_port_from-some wraps (j + 1) ks xs ts p) (cases_eq x t)
  where
    at : (dor_port_from wraps (j + 1) ks xs ts ≡ Some p
        → (i : ℕ) × (i < length ks) × (get_or xs i 0 ≢ get_or ts i 0) × (p ≡ (if goes_up wraps (get_or ks i 0) (get_or xs i 0) (get_or ts i 0) then 2 * (j + 1 + i) else 2 * (j + 1 + i) + 1))
        × ((l : ℕ) → l < i → get_or xs l 0 ≡ get_or ts l 0))
        → (x ≡ t) ⊎ (x ≢ t)
        → (i : ℕ) × (i < length (k ∷ ks)) × (get_or (x ∷ xs) i 0 ≢ get_or (t ∷ ts) i 0)
        × (p ≡ (if goes_up wraps (get_or (k ∷ ks) i 0) (get_or (x ∷ xs) i 0) (get_or (t ∷ ts) i 0) then 2 * (j + i) else 2 * (j + i) + 1))
        × ((l : ℕ) → l < i → get_or (x ∷ xs) l 0 ≡ get_or (t ∷ ts) l 0)
    at more (inl same) =
        let like : nat_eq x t ≡ true = eq-eqb x t same in
        let rest = more (sym (rw like refl) ∙ e) in
        (suc rest.0, omega (arith, rest.1), rest.2, rest.3 ∙ port-next (goes_up wraps (get_or ks rest.0 0) (get_or xs rest.0 0) (get_or ts rest.0 0)) j rest.0, lower same rest.0 rest.4)
      where
        lower : x ≡ t → (i : ℕ) → ((l : ℕ) → l < i → get_or xs l 0 ≡ get_or ts l 0) → (l : ℕ) → l < suc i → get_or (x ∷ xs) l 0 ≡ get_or (t ∷ ts) l 0
        lower same i rest zero below = same
        lower same i rest (suc l) below = rest l (omega arith)
    at more (inr differ) =
        let unlike : nat_eq x t ≡ false = ne_eqb x t differ in
        let here : Some (if goes_up wraps k x t then 2 * j else 2 * j + 1) ≡ Some p = sym (rw unlike refl) ∙ e in
        let port : (if goes_up wraps k x t then 2 * j else 2 * j + 1) ≡ p = cc in
        let place : j + 0 ≡ j = omega arith in
        (0, omega arith, differ, sym port ∙ rw place refl, λ l below. absurd (omega arith))

-- it is a link port
pub dor_port-link : (g : Grid) (xs ts : List ℕ) (o : Option ℕ) → o ≡ dor_port g xs ts → IfSome o (λ p. p < local_port g)
dor_port-link g xs ts None e = tt
dor_port-link g xs ts (Some p) e =
    let found = dor_port_from-some g.wraps 0 g.radix xs ts p (sym e) in
    at (goes_up g.wraps (get_or g.radix found.0 0) (get_or xs found.0 0) (get_or ts found.0 0)) found.0 found.1 found.3
  where
    at : (b : Bool) (i : ℕ) → i < length g.radix → p ≡ (if b then 2 * (0 + i) else 2 * (0 + i) + 1) → p < local_port g
    at true i l e = omega (arith, l, e)
    at false i l e = omega (arith, l, e)

-- a port leads up or down in its dimension
pub port-up : (b : Bool) (i p : ℕ) → p ≡ (if b then 2 * (0 + i) else 2 * (0 + i) + 1) → (p / 2 ≡ i) × (is_plus p ≡ b)
port-up true i p e = (omega (arith, e), eq-eqb (p % 2) 0 (omega (arith, e)))
port-up false i p e = (omega (arith, e), ne_eqb (p % 2) 0 (λ z. omega (arith, e, z)))

pub some_of-true : (o : Option ℕ) (p : ℕ) → is_some_of o p ≡ true → o ≡ Some p
some_of-true None p e = absurd (false≢true e)
some_of-true (Some q) p e = ap Some (eqb-true q p e)

pub NearerHop-dor : (g : Grid) (r p t : ℕ) → IsGrid g → p < local_port g → is_some_of (dor_port g (coordinates g.radix r) (coordinates g.radix t)) p ≡ true → NearerHop g r p t
NearerHop-dor g r p t sound l e =
    let found = dor_port_from-some g.wraps 0 g.radix (coordinates g.radix r) (coordinates g.radix t) p (some_of-true _ p e) in
    let i = found.0 in
    let port = port-up (goes_up g.wraps (get_or g.radix i 0) (get_or (coordinates g.radix r) i 0) (get_or (coordinates g.radix t) i 0)) i p found.3 in
    let radices = AreRadices-from_test g.radix sound.sizes in
    let here = IsWithin-at g.radix (coordinates g.radix r) i (IsWithin-coordinates g.radix r radices) found.1 in
    let there = IsWithin-at g.radix (coordinates g.radix t) i (IsWithin-coordinates g.radix t radices) found.1 in
    let step = step-nearer g.wraps (get_or g.radix i 0) (get_or (coordinates g.radix r) i 0) (get_or (coordinates g.radix t) i 0) _ here there found.2 refl in
    let P : ℕ → Type 0 = λ i. Step g.wraps (get_or g.radix i 0) (get_or (coordinates g.radix r) i 0) (get_or (coordinates g.radix t) i 0) (is_plus p) in
    let Q : Bool → Type 0 = λ b. Step g.wraps (get_or g.radix i 0) (get_or (coordinates g.radix r) i 0) (get_or (coordinates g.radix t) i 0) b in
    NearerHop-from_step g r p t sound l (subst P (sym port.0) (subst Q (sym port.1) step))
