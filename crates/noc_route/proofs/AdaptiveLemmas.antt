-- The ports that come nearer, and the channels of the rule `adaptive`.
use Rattle.std.proofs.Common.{◌≡◌, ◌≢◌, ℕ, ◌+◌, ◌-◌, ◌/◌, ◌%◌, ◌<◌, ◌≤◌, Bool, true, false, List, length, get_or, refl, sym, ap, ◌∙◌, arith, inl, inr}
use Rattle.std.specs.Prelude.{◌⊎◌, ◌&&◌, not, nat_eq, nat_lt, nat_le, if◌then◌else◌}
use Rattle.std.proofs.lemmas.Bool.{cases_lt, eq-eqb, ne_eqb, ltb-true, and_parts, false≢true}
use Rattle.noc_packet.specs.declared.limits.TheConstants.{MAX_CHANNELS, MAX_CLASSES}
use Rattle.noc_topo.specs.Shape.{Grid, IsGrid, coordinates, three_coordinates, nodes, local_port, is_plus}
use Rattle.noc_topo.proofs.ShapeLemmas.{length-coordinates}
use Rattle.noc_topo.proofs.LinkLemmas.{AreRadices-from_test, AreRadices-at, get_or-padded, get_or-past, corner-at, IsWithin-at, IsWithin-coordinates}
use Rattle.noc_route.specs.Relation.{is_nearer, is_right, escapes}
use Rattle.noc_steps.specs.Ways.{goes_up}
use Rattle.noc_route.specs.declared.rule.Rule.TheVariants.{Adaptive}
use Rattle.noc_route.proofs.NamedLemmas.{NearerHop, NearerHop-from_step, step-nearer}

-- what the test says
pub record Nearer (g : Grid) (xs ts : List ℕ) (port : ℕ) : Type 0 where
  pub differ : get_or xs (port / 2) 0 ≢ get_or ts (port / 2) 0
  pub way : goes_up g.wraps (get_or g.radix (port / 2) 0) (get_or xs (port / 2) 0) (get_or ts (port / 2) 0) ≡ is_plus port

pub Nearer-from_test : (g : Grid) (xs ts : List ℕ) (port : ℕ) → is_nearer g xs ts port ≡ true → Nearer g xs ts port
Nearer-from_test g xs ts port e =
    let parts = and_parts (not (nat_eq (get_or xs (port / 2) 0) (get_or ts (port / 2) 0))) _ e in
    record {
      differ = λ same. false≢true (sym (ap not (eq-eqb _ _ same)) ∙ parts.0);
      way = along (goes_up g.wraps (get_or g.radix (port / 2) 0) (get_or xs (port / 2) 0) (get_or ts (port / 2) 0)) (is_plus port) parts.1;
    }
  where
    along : (up plus : Bool) → (if up then plus else not plus) ≡ true → up ≡ plus
    along true plus f = sym f
    along false true f = f
    along false false f = refl

-- coordinates that differ are those of a dimension
differ-inside : (g : Grid) (r t i : ℕ) → get_or (coordinates g.radix r) i 0 ≢ get_or (coordinates g.radix t) i 0 → i < length g.radix
differ-inside g r t i differ = at (cases_lt i (length g.radix))
  where
    at : (i < length g.radix) ⊎ (length g.radix ≤ i) → i < length g.radix
    at (inl inside) = inside
    at (inr past) = absurd (differ (get_or-past (coordinates g.radix r) i (omega (arith, length-coordinates g.radix r)) ∙ sym (get_or-past (coordinates g.radix t) i (omega (arith, length-coordinates g.radix t)))))

pub nearer-link : (g : Grid) (r t port : ℕ) → is_nearer g (coordinates g.radix r) (coordinates g.radix t) port ≡ true → port < local_port g
nearer-link g r t port e = let inside = differ-inside g r t (port / 2) (Nearer-from_test g _ _ port e).differ in omega (arith, inside)

pub NearerHop-adaptive : (g : Grid) (r p t : ℕ) → IsGrid g → p < local_port g → is_nearer g (coordinates g.radix r) (coordinates g.radix t) p ≡ true → NearerHop g r p t
NearerHop-adaptive g r p t sound l e =
    let nearer = Nearer-from_test g (coordinates g.radix r) (coordinates g.radix t) p e in
    let inside : p / 2 < length g.radix = omega arith in
    let radices = AreRadices-from_test g.radix sound.sizes in
    let here = IsWithin-at g.radix (coordinates g.radix r) (p / 2) (IsWithin-coordinates g.radix r radices) inside in
    let there = IsWithin-at g.radix (coordinates g.radix t) (p / 2) (IsWithin-coordinates g.radix t radices) inside in
    NearerHop-from_step g r p t sound l (step-nearer g.wraps (get_or g.radix (p / 2) 0) (get_or (coordinates g.radix r) (p / 2) 0) (get_or (coordinates g.radix t) (p / 2) 0) (is_plus p) here there nearer.differ nearer.way)

-- ---- by the padded coordinates

-- the test by the numbers of one dimension
abbrev pub is_along : Bool → ℕ → ℕ → ℕ → ℕ → Bool
is_along wraps k x t port = not (nat_eq x t) && (if goes_up wraps k x t then is_plus port else not (is_plus port))

pub nearer-padded : (g : Grid) (here there last : List ℕ) (r t port : ℕ) → IsGrid g → here ≡ three_coordinates (coordinates g.radix r) → there ≡ three_coordinates (coordinates g.radix t)
    → last ≡ three_coordinates (coordinates g.radix (nodes g - 1)) → port < 6
    → is_nearer g (coordinates g.radix r) (coordinates g.radix t) port ≡ is_along g.wraps (get_or last (port / 2) 0 + 1) (get_or here (port / 2) 0) (get_or there (port / 2) 0) port
nearer-padded g here there last r t port sound e f h few = at (cases_lt (port / 2) (length g.radix))
  where
    three : port / 2 < 3
    three = omega arith

    at_here : get_or here (port / 2) 0 ≡ get_or (coordinates g.radix r) (port / 2) 0
    at_here = ap (λ xs. get_or xs (port / 2) 0) e ∙ get_or-padded (coordinates g.radix r) (port / 2) three

    at_there : get_or there (port / 2) 0 ≡ get_or (coordinates g.radix t) (port / 2) 0
    at_there = ap (λ xs. get_or xs (port / 2) 0) f ∙ get_or-padded (coordinates g.radix t) (port / 2) three

    at : (port / 2 < length g.radix) ⊎ (length g.radix ≤ port / 2)
        → is_nearer g (coordinates g.radix r) (coordinates g.radix t) port ≡ is_along g.wraps (get_or last (port / 2) 0 + 1) (get_or here (port / 2) 0) (get_or there (port / 2) 0) port
    at (inl inside) =
        let size = AreRadices-at g.radix (port / 2) (AreRadices-from_test g.radix sound.sizes) inside in
        let corner : get_or last (port / 2) 0 + 1 ≡ get_or g.radix (port / 2) 0 = omega (arith, ap (λ xs. get_or xs (port / 2) 0) h, corner-at g (port / 2) sound three, size.0) in
        rw (corner, at_here, at_there) refl
    at (inr past) =
        let x : get_or (coordinates g.radix r) (port / 2) 0 ≡ 0 = get_or-past (coordinates g.radix r) (port / 2) (omega (arith, length-coordinates g.radix r)) in
        let y : get_or (coordinates g.radix t) (port / 2) 0 ≡ 0 = get_or-past (coordinates g.radix t) (port / 2) (omega (arith, length-coordinates g.radix t)) in
        rw (at_here, at_there, x, y) refl

-- where the router and the destination differ in the dimension of the port
pub nearer-found : (g : Grid) (here there last : List ℕ) (r t port : ℕ) (b : Bool) → IsGrid g → here ≡ three_coordinates (coordinates g.radix r) → there ≡ three_coordinates (coordinates g.radix t)
    → last ≡ three_coordinates (coordinates g.radix (nodes g - 1)) → port < 6 → get_or here (port / 2) 0 ≢ get_or there (port / 2) 0
    → goes_up g.wraps (get_or last (port / 2) 0 + 1) (get_or here (port / 2) 0) (get_or there (port / 2) 0) ≡ b
    → (if b then is_plus port else not (is_plus port)) ≡ is_nearer g (coordinates g.radix r) (coordinates g.radix t) port
nearer-found g here there last r t port b sound e f h few differ way =
    let unlike = ne_eqb (get_or here (port / 2) 0) (get_or there (port / 2) 0) differ in
    sym (nearer-padded g here there last r t port sound e f h few ∙ rw (unlike, way) refl)

-- ---- channels

-- each class has a channel beyond the escape channels
pub adaptive-some : (g : Grid) (vcs classes : ℕ) → is_right g vcs classes Adaptive ≡ true → escapes g < vcs / classes
adaptive-some g vcs classes e = ltb-true (escapes g) (vcs / classes) (and_parts (nat_le 1 vcs && nat_le vcs MAX_CHANNELS && nat_le 1 classes && nat_le classes MAX_CLASSES && nat_eq (vcs % classes) 0) (nat_lt (escapes g) (vcs / classes)) e).1
