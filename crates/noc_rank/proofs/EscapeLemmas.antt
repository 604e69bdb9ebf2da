-- Away from its destination a packet of the rule `adaptive` has an escape channel.
use Rattle.std.proofs.Common.{◌≡◌, ◌≢◌, ℕ, ◌+◌, ◌*◌, ◌/◌, ◌%◌, ◌<◌, ◌≤◌, Bool, true, false, List, [], ◌∷◌, length, get_or, Option, Some, None, refl, sym, ap, ◌∙◌, arith, inl, inr}
use Rattle.std.specs.Prelude.{◌⊎◌, not, nat_eq, nat_lt, nat_le, if◌then◌else◌}
use Rattle.std.proofs.Math.Nat.{mod-add-div, mul-div_cancel_left, mul_comm, mul_assoc}
use Rattle.std.proofs.lemmas.Bool.{cases_eq, eq-eqb, ne_eqb, eqb-true, leb-true, lt-ltb, le-leb, and_parts, and_from, or_cases, false≢true}
use Rattle.std.proofs.lemmas.Nat.{mod-mul-add}
use Rattle.noc_packet.specs.declared.limits.TheConstants.{MAX_CLASSES}
use Rattle.noc_topo.specs.Lists.{is_some_of}
use Rattle.noc_topo.specs.Shape.{Grid, IsGrid, nodes, coordinates, is_plus, node_at}
use Rattle.noc_topo.proofs.ShapeLemmas.{length-coordinates}
use Rattle.noc_topo.proofs.LinkLemmas.{AreRadices-from_test, node_at-coordinates}
use Rattle.noc_route.specs.Relation.{is_right, escapes, dor_port, dor_port_from, is_nearer, index_in_class, is_escape, is_escape_taken, takes_channel}
use Rattle.noc_steps.specs.Ways.{goes_up, is_of_class}
use Rattle.noc_route.specs.declared.rule.Rule.TheVariants.{Adaptive}
use Rattle.noc_route.proofs.AdaptiveLemmas.{adaptive-some}
use Rattle.noc_rank.proofs.StepLemmas.{half-few}
use Rattle.noc_rank.proofs.RiseLemmas.{IsOrderPort, order-port, half_at}
use Rattle.noc_rank.proofs.ClimbLemmas.{escape_place}

-- ---- the port

-- dimension order has no port only where all coordinates are equal
dor_port_from-same : (wraps : Bool) (j : ℕ) (ks xs ts : List ℕ) → length xs ≡ length ks → length ts ≡ length ks → dor_port_from wraps j ks xs ts ≡ None → xs ≡ ts
dor_port_from-same wraps j [] [] [] e f none = refl
dor_port_from-same wraps j [] (x ∷ xs) ts e f none = absurd (omega (arith, e))
dor_port_from-same wraps j [] [] (t ∷ ts) e f none = absurd (omega (arith, f))
dor_port_from-same wraps j (k ∷ ks) [] ts e f none = absurd (omega (arith, e))
dor_port_from-same wraps j (k ∷ ks) (x ∷ xs) [] e f none = absurd (omega (arith, f))
dor_port_from-same wraps j (k ∷ ks) (x ∷ xs) (t ∷ ts) e f none = at (dor_port_from-same wraps (j + 1) ks xs ts (omega (arith, e)) (omega (arith, f))) (cases_eq x t)
  where
    at : (dor_port_from wraps (j + 1) ks xs ts ≡ None → xs ≡ ts) → (x ≡ t) ⊎ (x ≢ t) → x ∷ xs ≡ t ∷ ts
    at more (inl same) =
        let like : nat_eq x t ≡ true = eq-eqb x t same in
        let rest : xs ≡ ts = more (sym (rw like refl) ∙ none) in
        ap (λ y. y ∷ xs) same ∙ ap (λ ys. t ∷ ys) rest
    at more (inr differ) =
        let unlike : nat_eq x t ≡ false = ne_eqb x t differ in
        let never : Some (if goes_up wraps k x t then 2 * j else 2 * j + 1) ≡ None = sym (rw unlike refl) ∙ none in
        absurd (cc never)

-- so two routers have one between them
pub dor_port-found : (g : Grid) (r t : ℕ) → IsGrid g → r < nodes g → t < nodes g → r ≢ t → (p : ℕ) × (is_some_of (dor_port g (coordinates g.radix r) (coordinates g.radix t)) p ≡ true)
dor_port-found g r t sound here there away = at (dor_port g (coordinates g.radix r) (coordinates g.radix t)) refl
  where
    at : (o : Option ℕ) → dor_port g (coordinates g.radix r) (coordinates g.radix t) ≡ o → (p : ℕ) × (is_some_of (dor_port g (coordinates g.radix r) (coordinates g.radix t)) p ≡ true)
    at None e =
        let radices = AreRadices-from_test g.radix sound.sizes in
        let same = dor_port_from-same g.wraps 0 g.radix (coordinates g.radix r) (coordinates g.radix t) (length-coordinates g.radix r) (length-coordinates g.radix t) e in
        absurd (away (sym (node_at-coordinates g.radix r radices here) ∙ ap (node_at g.radix) same ∙ node_at-coordinates g.radix t radices there))
    at (Some p) e = (p, rw e (eq-eqb p p refl))

-- the port of dimension order comes nearer
pub order-nearer : (g : Grid) (xs ts : List ℕ) (p : ℕ) → IsOrderPort g xs ts p → is_nearer g xs ts p ≡ true
order-nearer g xs ts p order =
    let unlike : nat_eq (get_or xs (p / 2) 0) (get_or ts (p / 2) 0) ≡ false = ne_eqb _ _ order.differ in
    and_from _ _ (ap not unlike) (ap (λ b. if b then is_plus p else not (is_plus p)) order.way ∙ same (is_plus p))
  where
    same : (b : Bool) → (if b then b else not b) ≡ true
    same true = refl
    same false = refl

-- ---- the channel

-- what right numbers say of the channels of a class
class-size : (g : Grid) (vcs classes : ℕ) → is_right g vcs classes Adaptive ≡ true → (1 ≤ classes) × (vcs ≡ classes * (vcs / classes))
class-size g vcs classes right =
    let a = and_parts _ (nat_lt (escapes g) (vcs / classes)) right in
    let b = and_parts _ (nat_eq (vcs % classes) 0) a.0 in
    let c = and_parts _ (nat_le classes MAX_CLASSES) b.0 in
    let d = and_parts _ (nat_le 1 classes) c.0 in
    let none : vcs % classes ≡ 0 = eqb-true _ 0 b.1 in
    (leb-true 1 classes d.1, omega (arith, mod-add-div vcs classes, none))

-- the first channel of a class
class-start : (vcs classes size m : ℕ) → 1 ≤ classes → vcs ≡ classes * size → m * vcs / classes ≡ m * size
class-start vcs classes size m some whole =
    let turn : m * vcs ≡ classes * (m * size) = ap (λ n. m * n) whole ∙ sym (mul_assoc m classes size) ∙ ap (λ n. n * size) (mul_comm m classes) ∙ mul_assoc classes m size in
    ap (λ n. n / classes) turn ∙ mul-div_cancel_left (m * size) {n = classes} (omega (arith, some))

-- the channel at a place of a class
class-place : (vcs classes m place : ℕ) → 1 ≤ classes → vcs ≡ classes * (vcs / classes) → place < vcs / classes
    → (is_of_class vcs classes m (m * (vcs / classes) + place) ≡ true) × (index_in_class vcs classes (m * (vcs / classes) + place) ≡ place)
class-place vcs classes m place some whole l =
    let size = vcs / classes in
    let start = class-start vcs classes size m some whole in
    let end = class-start vcs classes size (m + 1) some whole in
    let next : (m + 1) * size ≡ m * size + size = omega arith in
    let low : nat_le (m * vcs / classes) (m * size + place) ≡ true = le-leb _ _ (omega (arith, start)) in
    let high : nat_lt (m * size + place) ((m + 1) * vcs / classes) ≡ true = lt-ltb _ _ (omega (arith, end, next, l)) in
    (and_from _ _ low high, mod-mul-add m size place l)

-- a port has no more escape channels than there are
escape-few : (g : Grid) (xs ts : List ℕ) (p : ℕ) → escape_place g xs ts p < escapes g
escape-few g xs ts p = at g.wraps
  where
    at : (wraps : Bool) → (if wraps then half_at xs ts p else 0) < (if wraps then 2 else 1)
    at true = let few = half-few (is_plus p) (get_or xs (p / 2) 0) (get_or ts (p / 2) 0) in omega (arith, few)
    at false = omega arith

-- a port of dimension order has an escape channel in each class
pub escape-found : (g : Grid) (vcs classes m : ℕ) (xs ts : List ℕ) (p : ℕ) → is_right g vcs classes Adaptive ≡ true → is_some_of (dor_port g xs ts) p ≡ true
    → (v : ℕ) × (takes_channel g vcs classes Adaptive m xs ts p v ≡ true) × (is_escape g vcs classes v ≡ true)
escape-found g vcs classes m xs ts p right port =
    let size = class-size g vcs classes right in
    let place = escape_place g xs ts p in
    let few = escape-few g xs ts p in
    let v = m * (vcs / classes) + place in
    let found = class-place vcs classes m place size.0 size.1 (omega (arith, few, adaptive-some g vcs classes right)) in
    let escape : is_escape g vcs classes v ≡ true = lt-ltb _ _ (omega (arith, found.1, few)) in
    let taken : is_escape_taken g vcs classes xs ts p v ≡ true = and_from _ _ port (eq-eqb _ _ found.1) in
    (v, and_from _ _ found.0 (rw (escape, taken) refl), escape)

-- an escape channel that the rule takes is that of the port of dimension order
pub escape-taken : (g : Grid) (vcs classes m : ℕ) (xs ts : List ℕ) (p v : ℕ) → takes_channel g vcs classes Adaptive m xs ts p v ≡ true → is_escape g vcs classes v ≡ true
    → IsOrderPort g xs ts p × (index_in_class vcs classes v ≡ escape_place g xs ts p)
escape-taken g vcs classes m xs ts p v takes escape = at (or_cases (not (is_escape g vcs classes v)) (is_escape_taken g vcs classes xs ts p v) (and_parts (is_of_class vcs classes m v) _ takes).1)
  where
    at : (not (is_escape g vcs classes v) ≡ true) ⊎ (is_escape_taken g vcs classes xs ts p v ≡ true) → IsOrderPort g xs ts p × (index_in_class vcs classes v ≡ escape_place g xs ts p)
    at (inl other) = absurd (false≢true (sym (ap not escape) ∙ other))
    at (inr taken) =
        let parts = and_parts (is_some_of (dor_port g xs ts) p) _ taken in
        (order-port g xs ts p parts.0, eqb-true _ _ parts.1)
