-- One step of a rule at a time: what it leads to, by the tests that the code makes.
use Rattle.std.proofs.Common.{◌≡◌, ℕ, ◌+◌, ◌-◌, ◌*◌, ◌/◌, ◌%◌, ◌<◌, ◌≤◌, Bool, true, false, List, refl, sym, ap, ◌∙◌, arith, inl, inr, Vec, Global}
use Rattle.std.specs.Prelude.{◌⊎◌, ◌&&◌, ◌||◌, not, nat_eq, nat_lt, nat_le}
use Rattle.std.proofs.Math.Nat.{div-lt_iff_lt-mul}
use Rattle.std.proofs.lemmas.Bool.{and_parts, eq-eqb, eqb-true, le-leb, le-ltb, leb-true, lt-ltb, ltb-true}
use Rattle.std.proofs.lemmas.Nat.{div-mul-add, mod-mul-add}
use Rattle.noc_topo.specs.Shape.{Grid, coordinates, local_port}
use Rattle.noc_route.specs.Built.{routing_of}
use Rattle.noc_route.specs.Entered.{routing_in}
use Rattle.noc_route.specs.Relation.{RelationParts, escapes, index_in_class, is_escape_taken, is_led, is_nearer, takes_port, takes_channel, takes_of_class}
use Rattle.noc_steps.specs.Ways.{is_of_class, is_west_first}
use Rattle.noc_route.specs.declared.sizes.Sizes.{Sizes}
use Rattle.noc_route.specs.declared.rule.Rule.{Rule}
use Rattle.noc_route.specs.declared.rule.RouteRow.{RouteRow}
use Rattle.noc_route.specs.declared.rule.Rule.TheVariants.{Adaptive, Dor, Rows, WestFirst}
use Rattle.noc_route.proofs.BoolLemmas.{same_test}
use Rattle.noc_route.proofs.TrimLemmas.{index-parts}

-- ---- the index of a port and a channel

pub index_test : (k p v vcs : ℕ) → v < vcs → nat_eq k (p * vcs + v) ≡ (nat_eq (k / vcs) p && nat_eq (k % vcs) v)
index_test k p v vcs l = same_test _ _
    (λ e.
    let same = eqb-true k (p * vcs + v) e in
    let port = eq-eqb (k / vcs) p (ap (λ x. x / vcs) same ∙ div-mul-add p vcs v l) in
    let vc = eq-eqb (k % vcs) v (ap (λ x. x % vcs) same ∙ mod-mul-add p vcs v l) in
    rw (port, vc) refl)
    (λ e.
    let parts = and_parts (nat_eq (k / vcs) p) (nat_eq (k % vcs) v) e in
    eq-eqb k (p * vcs + v) (sym (index-parts vcs k) ∙ ap (λ x. x * vcs + k % vcs) (eqb-true _ _ parts.0) ∙ ap (λ x. p * vcs + x) (eqb-true _ _ parts.1)))

-- the channels from a to b of a port
pub span_test : (k p a b vcs from count : ℕ) → b ≤ vcs → from ≡ p * vcs + a → count ≡ b - a
    → (nat_le from k && nat_lt k (from + count)) ≡ (nat_eq (k / vcs) p && (nat_le a (k % vcs) && nat_lt (k % vcs) b))
span_test k p a b vcs from count few first all = same_test _ _
    (λ e.
    let parts = and_parts (nat_le from k) (nat_lt k (from + count)) e in
    let low = leb-true from k parts.0 in
    let high = ltb-true k (from + count) parts.1 in
    let v = k - p * vcs in
    let whole : k ≡ p * vcs + v = omega (arith, low, first) in
    let small : v < vcs = omega (arith, low, high) in
    let number : k % vcs ≡ v = ap (λ x. x % vcs) whole ∙ mod-mul-add p vcs v small in
    let port = eq-eqb (k / vcs) p (ap (λ x. x / vcs) whole ∙ div-mul-add p vcs v small) in
    let from_first = le-leb a (k % vcs) (omega (arith, number, low)) in
    let to_end = lt-ltb (k % vcs) b (omega (arith, number, low, high)) in
    rw (port, from_first, to_end) refl)
    (λ e.
    let parts = and_parts (nat_eq (k / vcs) p) (nat_le a (k % vcs) && nat_lt (k % vcs) b) e in
    let both = and_parts (nat_le a (k % vcs)) (nat_lt (k % vcs) b) parts.1 in
    let whole : p * vcs + k % vcs ≡ k = ap (λ x. x * vcs + k % vcs) (sym (eqb-true (k / vcs) p parts.0)) ∙ index-parts vcs k in
    let low = leb-true a (k % vcs) both.0 in
    let high = ltb-true (k % vcs) b both.1 in
    let from_first = le-leb from k (omega (arith, whole, low)) in
    let to_end = lt-ltb k (from + count) (omega (arith, whole, low, high)) in
    rw (from_first, to_end) refl)

-- the channels of the first n ports
pub port_test : (k n vcs : ℕ) → 1 ≤ vcs → nat_lt (k / vcs) n ≡ nat_lt k (n * vcs)
port_test k n vcs some =
    let iff = div-lt_iff_lt-mul {k = vcs} {x = k} {y = n} some in
    same_test _ _ (λ e. lt-ltb k (n * vcs) (iff.0 (ltb-true (k / vcs) n e))) (λ e. lt-ltb (k / vcs) n (iff.1 (ltb-true k (n * vcs) e)))

-- ---- what a rule leads to

-- at the destination, and before it
pub is_led-home : (g : RelationParts) (m r t port v : ℕ) → nat_eq r t ≡ true → is_led g m r t port v ≡ (nat_eq port (local_port g.grid) && is_of_class g.vcs g.classes m v)
is_led-home g m r t port v e = rw e refl

pub is_led-away : (g : RelationParts) (m r t port v : ℕ) → nat_eq r t ≡ false
    → is_led g m r t port v
    ≡ (takes_port g.grid g.rule (coordinates g.grid.radix r) (coordinates g.grid.radix t) port
    && takes_channel g.grid g.vcs g.classes g.rule m (coordinates g.grid.radix r) (coordinates g.grid.radix t) port v)
is_led-away g m r t port v e = rw e refl

-- the channels of a class are those from its first to its end
pub of_class-within : (vcs classes m v : ℕ) → m * vcs / classes ≤ v → v < (m + 1) * vcs / classes → is_of_class vcs classes m v ≡ true
of_class-within vcs classes m v low high =
    let from_first = le-leb (m * vcs / classes) v low in
    let to_end = lt-ltb v ((m + 1) * vcs / classes) high in
    rw (from_first, to_end) refl

pub takes_channel-below : (g : Grid) (vcs classes : ℕ) (rule : Rule) (m : ℕ) (xs ts : List ℕ) (port v : ℕ) → takes_channel g vcs classes rule m xs ts port v ≡ true → v < (m + 1) * vcs / classes
takes_channel-below g vcs classes rule m xs ts port v e =
    let class = and_parts (is_of_class vcs classes m v) (takes_of_class g vcs classes rule xs ts port v) e in
    ltb-true v ((m + 1) * vcs / classes) (and_parts (nat_le (m * vcs / classes) v) (nat_lt v ((m + 1) * vcs / classes)) class.0).1

-- each channel of the class is taken by these rules
pub takes-all : (g : Grid) (vcs classes : ℕ) (rule : Rule) (xs ts : List ℕ) (port v : ℕ) → (rule ≡ Dor) ⊎ ((rule ≡ WestFirst) ⊎ ((rows : Vec RouteRow Global) × (rule ≡ Rows rows)))
    → true ≡ takes_of_class g vcs classes rule xs ts port v
takes-all g vcs classes rule xs ts port v (inl is) = ap (λ rule. takes_of_class g vcs classes rule xs ts port v) (sym is)
takes-all g vcs classes rule xs ts port v (inr (inl is)) = ap (λ rule. takes_of_class g vcs classes rule xs ts port v) (sym is)
takes-all g vcs classes rule xs ts port v (inr (inr is)) = ap (λ rule. takes_of_class g vcs classes rule xs ts port v) (sym is.1)

-- an adaptive channel is taken, and an escape channel where the rule takes it
pub takes-adaptive : (g : Grid) (vcs classes : ℕ) (rule : Rule) (xs ts : List ℕ) (port v few : ℕ) → rule ≡ Adaptive → few ≡ escapes g → few ≤ index_in_class vcs classes v
    → takes_of_class g vcs classes rule xs ts port v ≡ true
takes-adaptive g vcs classes rule xs ts port v few is count l =
    let above : nat_lt (index_in_class vcs classes v) (escapes g) ≡ false = le-ltb (index_in_class vcs classes v) (escapes g) (omega (arith, count, l)) in
    ap (λ rule. takes_of_class g vcs classes rule xs ts port v) is ∙ ap (λ b. not b || is_escape_taken g vcs classes xs ts port v) above

pub takes-escape : (g : Grid) (vcs classes : ℕ) (rule : Rule) (xs ts : List ℕ) (port v few : ℕ) → rule ≡ Adaptive → few ≡ escapes g → index_in_class vcs classes v < few
    → takes_of_class g vcs classes rule xs ts port v ≡ is_escape_taken g vcs classes xs ts port v
takes-escape g vcs classes rule xs ts port v few is count l =
    let below : nat_lt (index_in_class vcs classes v) (escapes g) ≡ true = lt-ltb (index_in_class vcs classes v) (escapes g) (omega (arith, count, l)) in
    ap (λ rule. takes_of_class g vcs classes rule xs ts port v) is ∙ ap (λ b. not b || is_escape_taken g vcs classes xs ts port v) below

-- west first, by its two tests
pub takes-west : (g : Grid) (rule : Rule) (xs ts : List ℕ) (port : ℕ) (near west : Bool) → rule ≡ WestFirst → is_nearer g xs ts port ≡ near → is_west_first xs ts port ≡ west
    → takes_port g rule xs ts port ≡ (near && west)
takes-west g rule xs ts port near west is first second =
    ap (λ rule. takes_port g rule xs ts port) is ∙ ap (λ b. b && is_west_first xs ts port) first ∙ ap (λ b. near && b) second

-- a rule over the numbers of a sizes, where these are known
pub routing_in-sizes : (f : Sizes) (g : Grid) (vcs classes : ℕ) (rule : Rule) → f.shape ≡ g → f.vcs ≡ vcs → f.classes ≡ classes → routing_in f rule ≡ routing_of g vcs classes rule
routing_in-sizes f g vcs classes rule a b c =
    ap (λ x. routing_of x f.vcs f.classes rule) a ∙ ap (λ x. routing_of g x f.classes rule) b ∙ ap (λ x. routing_of g vcs x rule) c
