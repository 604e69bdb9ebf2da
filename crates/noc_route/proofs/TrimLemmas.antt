-- What packets can come to, and the lists of channels by which they leave.
use Rattle.std.proofs.Common.{◌≡◌, ◌≢◌, ℕ, zero, suc, ◌+◌, ◌*◌, ◌/◌, ◌%◌, ◌<◌, ◌≤◌, Bool, true, false, List, length, set, Option, Some, None, refl, sym, subst, ap, ◌∙◌, arith, inl, inr}
use Rattle.std.specs.Prelude.{◌||◌, ◌&&◌, ◌⊎◌, ◌-◌, not, nat_eq, nat_le, nat_lt, slice_index, if◌then◌else◌}
use Rattle.std.proofs.Math.Nat.{mod-lt, div-add-mod, mul_comm, div-lt_iff_lt-mul}
use Rattle.std.proofs.lemmas.Nat.{div-mul-add, mod-mul-add}
use Rattle.std.proofs.lemmas.Bool.{cases_eq, cases_lt, eq-eqb, eqb-true, ne_eqb, leb-true, ltb-true, le-leb, lt-leb, lt-ltb, le-ltb, false≢true, and_parts, and_from, and_left, and_right, or_cases}
use Rattle.std.proofs.lemmas.Bool.Decides.{eqb_tells}
use Rattle.std.proofs.lemmas.List.{length-set, get_or-set_same, get_or-set_other}
use Rattle.std.proofs.Math.Bool.{or-true, and-true}
use Rattle.noc_packet.specs.Set.{has_bit}
use Rattle.noc_packet.proofs.SetLemmas.{has_bit-zero, zero_from_none}
use Rattle.noc_topo.specs.Shape.{Grid, IsGrid, nodes, ports, local_port, neighbour, distance}
use Rattle.noc_topo.proofs.LinkLemmas.{link_back, neighbour-range}
use Rattle.noc_route.specs.Routes.{Routes, width, pages, page_of}
use Rattle.noc_route.specs.Trimming.{set_in, IsPage, CanCome, injected, led, ComesNearer, CanLeave, comes_in, IsSoundOut, IsFullOut}
use Rattle.noc_steps.specs.Reached.{any_below}
use Rattle.noc_route.specs.Gathering.{AreOuts, AreOutsFrom, FartherFull, IsPairDone}
use Rattle.noc_route.proofs.BoolLemmas.{same_test, and_where}
use Rattle.noc_route.proofs.EntryLemmas.{flat-below}

-- ---- a test of the numbers below one

pub any_below-some : (n : ℕ) (test : ℕ → Bool) → any_below n test ≡ true → (i : ℕ) × (i < n) × (test i ≡ true)
any_below-some zero test e = absurd (false≢true e)
any_below-some (suc n) test e = at (any_below-some n test) (or_cases (any_below n test) (test n) e)
  where
    at : (any_below n test ≡ true → (i : ℕ) × (i < n) × (test i ≡ true)) → (any_below n test ≡ true) ⊎ (test n ≡ true) → (i : ℕ) × (i < suc n) × (test i ≡ true)
    at more (inl h) = let found = more h in (found.0, omega (arith, found.1), found.2)
    at more (inr h) = (n, omega arith, h)

pub any_below-at : (n : ℕ) (test : ℕ → Bool) (i : ℕ) → i < n → test i ≡ true → any_below n test ≡ true
any_below-at zero test i l e = absurd (omega arith)
any_below-at (suc n) test i l e = at (any_below-at n test i) (cases_lt i n)
  where
    at : (i < n → test i ≡ true → any_below n test ≡ true) → (i < n) ⊎ (n ≤ i) → (any_below n test || test n) ≡ true
    at more (inl b) = rw (more b e) refl
    at more (inr g) = let last : i ≡ n = omega arith in let yes : test n ≡ true = ap test (sym last) ∙ e in rw yes (or-true (any_below n test))

pub any_below-same : (n : ℕ) (f g : ℕ → Bool) → ((i : ℕ) → i < n → f i ≡ g i) → any_below n f ≡ any_below n g
any_below-same zero f g same = refl
any_below-same (suc n) f g same =
    let here = same n (omega arith) in
    let rest = any_below-same n f g (λ i l. same i (omega arith)) in
    ap (λ b. b || f n) rest ∙ ap (λ b. any_below n g || b) here

-- what is tested besides of all of them alike
pub any_below-and : (n : ℕ) (f : ℕ → Bool) (b : Bool) → any_below n (λ i. f i && b) ≡ (any_below n f && b)
any_below-and zero f b = refl
any_below-and (suc n) f b = ap (λ x. x || (f n && b)) (any_below-and n f b) ∙ both (any_below n f) (f n) b
  where
    both : (x y b : Bool) → ((x && b) || (y && b)) ≡ ((x || y) && b)
    both true y true = refl
    both true y false = and_right y false refl
    both false y b = refl

-- whether a set of numbers below n has a member
pub any_of_set : (n bits : ℕ) → ((i : ℕ) → has_bit bits i ≡ true → i < n) → not (nat_eq bits 0) ≡ any_below n (has_bit bits)
any_of_set n bits within = at (any_below n (has_bit bits)) refl
  where
    none : any_below n (has_bit bits) ≡ false → (i : ℕ) (b : Bool) → has_bit bits i ≡ b → has_bit bits i ≡ false
    none empty i true e = absurd (false≢true (sym empty ∙ any_below-at n (has_bit bits) i (within i e) e))
    none empty i false e = e

    at : (b : Bool) → any_below n (has_bit bits) ≡ b → not (nat_eq bits 0) ≡ b
    at true e =
        let some = any_below-some n (has_bit bits) e in
        ap not (ne_eqb bits 0 (λ zero. false≢true (sym (has_bit-zero some.0) ∙ ap (λ s. has_bit s some.0) (sym zero) ∙ some.2)))
    at false e = ap not (eq-eqb bits 0 (zero_from_none bits (λ k. none e k (has_bit bits k) refl)))

-- a set, or none
pub has_bit-only : (some : Bool) (set k : ℕ) → has_bit (if some then set else 0) k ≡ (some && has_bit set k)
has_bit-only true set k = refl
has_bit-only false set k = has_bit-zero k

-- ---- numbers of a relation

pub record IsSized (routes : Routes) : Type 0 where
  pub grid : IsGrid routes.grid
  pub some_vcs : 1 ≤ routes.vcs

-- an index of a channel is its port and its number there
pub index-parts : (vcs i : ℕ) → i / vcs * vcs + i % vcs ≡ i
index-parts vcs i = ap (λ x. x + i % vcs) (mul_comm (i / vcs) vcs) ∙ div-add-mod i vcs

-- the same, where its port is known
pub port-parts : (vcs port i : ℕ) → i / vcs ≡ port → port * vcs + i % vcs ≡ i
port-parts vcs port i same = ap (λ p. p * vcs + i % vcs) (sym same) ∙ index-parts vcs i

pub port-below : (g : Grid) (vcs i : ℕ) → 1 ≤ vcs → i < width g vcs → i / vcs < ports g
port-below g vcs i some l = (div-lt_iff_lt-mul {k = vcs} {x = i} {y = ports g} (omega arith)).1 l

-- the indices of a port's channels, told by their port
pub port-span : (vcs port i : ℕ) → 1 ≤ vcs → (nat_le (port * vcs) i && nat_lt i (port * vcs + vcs)) ≡ nat_eq (i / vcs) port
port-span vcs port i some = same_test (nat_le (port * vcs) i && nat_lt i (port * vcs + vcs)) (nat_eq (i / vcs) port) within spanned
  where
    within : (nat_le (port * vcs) i && nat_lt i (port * vcs + vcs)) ≡ true → nat_eq (i / vcs) port ≡ true
    within e =
        let parts = and_parts (nat_le (port * vcs) i) (nat_lt i (port * vcs + vcs)) e in
        let from = leb-true (port * vcs) i parts.0 in
        let to = ltb-true i (port * vcs + vcs) parts.1 in
        let same : port * vcs + (i - port * vcs) ≡ i = omega (arith, from) in
        eq-eqb (i / vcs) port (sym (ap (λ x. x / vcs) same) ∙ div-mul-add port vcs (i - port * vcs) (omega (arith, from, to)))

    spanned : nat_eq (i / vcs) port ≡ true → (nat_le (port * vcs) i && nat_lt i (port * vcs + vcs)) ≡ true
    spanned e =
        let parts = port-parts vcs port i (eqb-true (i / vcs) port e) in
        let vc : i % vcs < vcs = mod-lt i some in
        and_from _ _ (le-leb (port * vcs) i (omega (arith, parts))) (lt-ltb i (port * vcs + vcs) (omega (arith, parts, vc)))

-- the same, or none of them
pub port-span_unless : (vcs port i : ℕ) (none : Bool) → 1 ≤ vcs → (nat_le (port * vcs) i && nat_lt i (port * vcs + (if none then 0 else vcs))) ≡ (nat_eq (i / vcs) port && not none)
port-span_unless vcs port i false some = port-span vcs port i some ∙ sym (and-true (nat_eq (i / vcs) port))
port-span_unless vcs port i true some = at (cases_lt i (port * vcs)) ∙ sym (and_right (nat_eq (i / vcs) port) false refl)
  where
    at : (i < port * vcs) ⊎ (port * vcs ≤ i) → (nat_le (port * vcs) i && nat_lt i (port * vcs + 0)) ≡ false
    at (inl l) = and_left _ _ (lt-leb (port * vcs) i l)
    at (inr g) = and_right _ _ (le-ltb i (port * vcs + 0) (omega (arith, g)))

pub CanCome-within : (routes : Routes) (m t r i : ℕ) → IsSized routes → CanCome routes m t r i → IsPage routes m r t × (i < width routes.grid routes.vcs)
CanCome-within routes m t r i sized (injected {v = v} place away l e) =
    (place, rw e (flat-below (local_port routes.grid) (ports routes.grid) v routes.vcs (omega arith) l))
CanCome-within routes m t r i sized (led {r = a} {i = j} {k = k} {q = q} come l has link e) =
    let before = CanCome-within routes m t a j sized come in
    let range = neighbour-range routes.grid a (k / routes.vcs) (Some (r, q)) sized.grid before.0.router link in
    let vc : k % routes.vcs < routes.vcs = mod-lt k {m = routes.vcs} (omega (arith, sized.some_vcs)) in
    (record { class = before.0.class; router = range.0; dst = before.0.dst }, rw e (flat-below q (ports routes.grid) (k % routes.vcs) routes.vcs (omega (arith, range.1)) vc))

-- ---- coming in

not-true : (b : Bool) → not b ≡ true → b ≡ false
not-true true e = absurd (false≢true e)
not-true false e = refl

-- by the lists of the routers before, where the channel arrives over a link
abbrev pub comes_over : Routes → List ℕ → ℕ → ℕ → ℕ → Option (ℕ × ℕ) → Bool
comes_over routes outs m t i from =
    elim from [
      | None ↦ false
      | Some from ↦ has_bit (slice_index outs (page_of routes.grid routes.classes m from.0 t)) (from.1 * routes.vcs + i % routes.vcs)
    ]

pub comes_in-local : (routes : Routes) (outs : List ℕ) (m r t i : ℕ) → nat_eq (i / routes.vcs) (local_port routes.grid) ≡ true → comes_in routes outs m r t i ≡ not (nat_eq r t)
comes_in-local routes outs m r t i e = rw e refl

pub comes_in-link : (routes : Routes) (outs : List ℕ) (m r t i : ℕ) → nat_eq (i / routes.vcs) (local_port routes.grid) ≡ false
    → comes_in routes outs m r t i ≡ comes_over routes outs m t i (neighbour routes.grid r (i / routes.vcs))
comes_in-link routes outs m r t i e = rw e refl

-- nothing comes by a port that has no link
pub comes_in-none : (routes : Routes) (outs : List ℕ) (m r t port i : ℕ) → port ≢ local_port routes.grid → neighbour routes.grid r port ≡ None → (nat_eq (i / routes.vcs) port && comes_in routes outs m r t i) ≡ false
comes_in-none routes outs m r t port i away none = at (nat_eq (i / routes.vcs) port) refl
  where
    at : (b : Bool) → nat_eq (i / routes.vcs) port ≡ b → (b && comes_in routes outs m r t i) ≡ false
    at false e = refl
    at true e =
        let same = eqb-true (i / routes.vcs) port e in
        let other : nat_eq (i / routes.vcs) (local_port routes.grid) ≡ false = ne_eqb _ _ (λ home. away (sym same ∙ home)) in
        comes_in-link routes outs m r t i other ∙ ap (λ (from : Option (ℕ × ℕ)). comes_over routes outs m t i from) (ap (neighbour routes.grid r) same ∙ none)

-- what is moved from the list of the router before, where the channel arrives over a link
pub brought : (routes : Routes) (outs : List ℕ) (m r t port sender out_port out i : ℕ) → 1 ≤ routes.vcs → port ≢ local_port routes.grid → neighbour routes.grid r port ≡ Some (sender, out_port)
    → out ≡ slice_index outs (page_of routes.grid routes.classes m sender t)
    → (nat_le (port * routes.vcs) i && nat_lt i (port * routes.vcs + routes.vcs) && has_bit out (out_port * routes.vcs + (i - port * routes.vcs)))
    ≡ (nat_eq (i / routes.vcs) port && comes_in routes outs m r t i)
brought routes outs m r t port sender out_port out i some away linked had =
    ap (λ b. b && has_bit out (out_port * routes.vcs + (i - port * routes.vcs))) (port-span routes.vcs port i some) ∙ and_where _ _ _ over
  where
    over : nat_eq (i / routes.vcs) port ≡ true → has_bit out (out_port * routes.vcs + (i - port * routes.vcs)) ≡ comes_in routes outs m r t i
    over e =
        let same = eqb-true (i / routes.vcs) port e in
        let parts = port-parts routes.vcs port i same in
        let number : i - port * routes.vcs ≡ i % routes.vcs = omega (arith, parts) in
        let other : nat_eq (i / routes.vcs) (local_port routes.grid) ≡ false = ne_eqb _ _ (λ home. away (sym same ∙ home)) in
        ap (λ n. has_bit out (out_port * routes.vcs + n)) number
        ∙ ap (λ s. has_bit s (out_port * routes.vcs + i % routes.vcs)) had
        ∙ sym (comes_in-link routes outs m r t i other ∙ ap (λ (from : Option (ℕ × ℕ)). comes_over routes outs m t i from) (ap (neighbour routes.grid r) same ∙ linked))

-- what the lists say comes in does
pub comes_in-sound : (routes : Routes) (outs : List ℕ) (m r t i : ℕ) → IsSized routes → IsSoundOut routes outs → IsPage routes m r t → i < width routes.grid routes.vcs
    → comes_in routes outs m r t i ≡ true → CanCome routes m t r i
comes_in-sound routes outs m r t i sized sound place within e = at (eqb_tells (i / routes.vcs) (local_port routes.grid))
  where
    over : (from : Option (ℕ × ℕ)) → neighbour routes.grid r (i / routes.vcs) ≡ from → comes_over routes outs m t i from ≡ true → CanCome routes m t r i
    over None link f = absurd (false≢true f)
    over (Some (u, q)) link f =
        let back = link_back routes.grid r (i / routes.vcs) u q sized.grid place.router link in
        let vc : i % routes.vcs < routes.vcs = mod-lt i {m = routes.vcs} (omega (arith, sized.some_vcs)) in
        let small : q * routes.vcs + i % routes.vcs < width routes.grid routes.vcs = flat-below q (ports routes.grid) (i % routes.vcs) routes.vcs (omega (arith, back.port)) vc in
        let there : IsPage routes m u t = record { class = place.class; router = back.node; dst = place.dst } in
        let out = sound m u t (q * routes.vcs + i % routes.vcs) there small f in
        let port : (q * routes.vcs + i % routes.vcs) / routes.vcs ≡ q = div-mul-add q routes.vcs (i % routes.vcs) vc in
        let number : (q * routes.vcs + i % routes.vcs) % routes.vcs ≡ i % routes.vcs = mod-mul-add q routes.vcs (i % routes.vcs) vc in
        led out.come small out.taken (ap (neighbour routes.grid u) port ∙ back.back) (sym (ap (λ x. i / routes.vcs * routes.vcs + x) number ∙ index-parts routes.vcs i))

    at : ((nat_eq (i / routes.vcs) (local_port routes.grid) ≡ true) × (i / routes.vcs ≡ local_port routes.grid)) ⊎ ((nat_eq (i / routes.vcs) (local_port routes.grid) ≡ false) × (i / routes.vcs ≢ local_port routes.grid))
        → CanCome routes m t r i
    at (inl home) =
        let away : nat_eq r t ≡ false = not-true _ (sym (comes_in-local routes outs m r t i home.0) ∙ e) in
        let vc : i % routes.vcs < routes.vcs = mod-lt i {m = routes.vcs} (omega (arith, sized.some_vcs)) in
        injected place (λ same. false≢true (sym away ∙ eq-eqb r t (sym same))) vc (sym (index-parts routes.vcs i) ∙ ap (λ p. p * routes.vcs + i % routes.vcs) home.1)
    at (inr link) = over (neighbour routes.grid r (i / routes.vcs)) refl (sym (comes_in-link routes outs m r t i link.0) ∙ e)

-- what can come in does so by the lists, where those of farther routers are full
pub comes_in-full : (routes : Routes) (outs : List ℕ) (m r t i : ℕ) → IsSized routes → ComesNearer routes
    → ((u : ℕ) → IsPage routes m u t → distance routes.grid r t < distance routes.grid u t → IsFullOut routes outs m u t)
    → CanCome routes m t r i → comes_in routes outs m r t i ≡ true
comes_in-full routes outs m r t i sized nearer full (injected {v = v} place away l e) =
    let home : i / routes.vcs ≡ local_port routes.grid = ap (λ x. x / routes.vcs) e ∙ div-mul-add (local_port routes.grid) routes.vcs v l in
    let differ : nat_eq r t ≡ false = ne_eqb r t (λ same. away (sym same)) in
    comes_in-local routes outs m r t i (eq-eqb _ _ home) ∙ ap not differ
comes_in-full routes outs m r t i sized nearer full (led {r = a} {i = j} {k = k} {q = q} come l has link e) =
    let before = CanCome-within routes m t a j sized come in
    let vc : k % routes.vcs < routes.vcs = mod-lt k {m = routes.vcs} (omega (arith, sized.some_vcs)) in
    let port : i / routes.vcs ≡ q = ap (λ x. x / routes.vcs) e ∙ div-mul-add q routes.vcs (k % routes.vcs) vc in
    let number : i % routes.vcs ≡ k % routes.vcs = ap (λ x. x % routes.vcs) e ∙ mod-mul-add q routes.vcs (k % routes.vcs) vc in
    let back = link_back routes.grid a (k / routes.vcs) r q sized.grid before.0.router link in
    let other : nat_eq (i / routes.vcs) (local_port routes.grid) ≡ false = ne_eqb _ _ (λ same. omega (arith, port, same, back.port)) in
    let from : neighbour routes.grid r (i / routes.vcs) ≡ Some (a, k / routes.vcs) = ap (neighbour routes.grid r) port ∙ back.back in
    let index : k / routes.vcs * routes.vcs + i % routes.vcs ≡ k = ap (λ x. k / routes.vcs * routes.vcs + x) number ∙ index-parts routes.vcs k in
    let out = full a before.0 (nearer m a t j k r q before.0 before.1 l has link) k l (record { input = j; within = before.1; come = come; taken = has }) in
    comes_in-link routes outs m r t i other ∙ ap (comes_over routes outs m t i) from ∙ ap (has_bit (slice_index outs (page_of routes.grid routes.classes m a t))) index ∙ out

-- ---- the numbers of pages

pub page-dst : (g : Grid) (classes m r t : ℕ) → t < nodes g → page_of g classes m r t % nodes g ≡ t
page-dst g classes m r t l = mod-mul-add (r * classes + m) (nodes g) t l

pub page-pair : (g : Grid) (classes m r t : ℕ) → t < nodes g → page_of g classes m r t / nodes g ≡ r * classes + m
page-pair g classes m r t l = div-mul-add (r * classes + m) (nodes g) t l

pub page-class : (g : Grid) (classes m r t : ℕ) → t < nodes g → m < classes → page_of g classes m r t / nodes g % classes ≡ m
page-class g classes m r t l k = ap (λ x. x % classes) (page-pair g classes m r t l) ∙ mod-mul-add r classes m k

pub page-sender : (g : Grid) (classes m r t : ℕ) → t < nodes g → m < classes → page_of g classes m r t / nodes g / classes ≡ r
page-sender g classes m r t l k = ap (λ x. x / classes) (page-pair g classes m r t l) ∙ div-mul-add r classes m k

pub page-below : (g : Grid) (classes m r t : ℕ) → m < classes → r < nodes g → t < nodes g → page_of g classes m r t < pages g classes
page-below g classes m r t a b c = flat-below (r * classes + m) (nodes g * classes) t (nodes g) (flat-below r (nodes g) m classes b a) c

-- ---- one list written

-- a set of the channels that leave a place, by the lists as they stand
abbrev pub IsOutOf : Routes → List ℕ → ℕ → ℕ → ℕ → ℕ → Type 0
IsOutOf routes outs m r t out =
    (k : ℕ) → k < width routes.grid routes.vcs → has_bit out k ≡ any_below (width routes.grid routes.vcs) (λ i. comes_in routes outs m r t i && has_bit (set_in routes m r t i) k)

out-sound : (routes : Routes) (outs : List ℕ) (m r t out k : ℕ) → IsSized routes → IsSoundOut routes outs → IsPage routes m r t → IsOutOf routes outs m r t out
    → k < width routes.grid routes.vcs → has_bit out k ≡ true → CanLeave routes m r t k
out-sound routes outs m r t out k sized sound place is l e =
    let some = any_below-some (width routes.grid routes.vcs) (λ i. comes_in routes outs m r t i && has_bit (set_in routes m r t i) k) (sym (is k l) ∙ e) in
    let parts = and_parts (comes_in routes outs m r t some.0) (has_bit (set_in routes m r t some.0) k) some.2 in
    record { input = some.0; within = some.1; come = comes_in-sound routes outs m r t some.0 sized sound place some.1 parts.0; taken = parts.1 }

out-full : (routes : Routes) (outs : List ℕ) (m r t out k : ℕ) → IsSized routes → ComesNearer routes → FartherFull routes outs r t → IsOutOf routes outs m r t out
    → k < width routes.grid routes.vcs → CanLeave routes m r t k → has_bit out k ≡ true
out-full routes outs m r t out k sized nearer full is l leave =
    let come = comes_in-full routes outs m r t leave.input sized nearer (full m) leave.come in
    is k l ∙ any_below-at (width routes.grid routes.vcs) (λ i. comes_in routes outs m r t i && has_bit (set_in routes m r t i) k) leave.input leave.within (rw (come, leave.taken) refl)

-- the page is the same, and so the place, or the list is as it was
written : (routes : Routes) (outs : List ℕ) (m r t out m' r' t' : ℕ) → IsPage routes m r t → IsPage routes m' r' t' → length outs ≡ pages routes.grid routes.classes
    → ((m' ≡ m) × (r' ≡ r) × (t' ≡ t) × (slice_index (set outs (page_of routes.grid routes.classes m r t) out) (page_of routes.grid routes.classes m' r' t') ≡ out))
    ⊎ (slice_index (set outs (page_of routes.grid routes.classes m r t) out) (page_of routes.grid routes.classes m' r' t') ≡ slice_index outs (page_of routes.grid routes.classes m' r' t'))
written routes outs m r t out m' r' t' place other long = at (cases_eq (page_of routes.grid routes.classes m' r' t') (page_of routes.grid routes.classes m r t))
  where
    at : (page_of routes.grid routes.classes m' r' t' ≡ page_of routes.grid routes.classes m r t) ⊎ (page_of routes.grid routes.classes m' r' t' ≢ page_of routes.grid routes.classes m r t)
        → ((m' ≡ m) × (r' ≡ r) × (t' ≡ t) × (slice_index (set outs (page_of routes.grid routes.classes m r t) out) (page_of routes.grid routes.classes m' r' t') ≡ out))
        ⊎ (slice_index (set outs (page_of routes.grid routes.classes m r t) out) (page_of routes.grid routes.classes m' r' t') ≡ slice_index outs (page_of routes.grid routes.classes m' r' t'))
    at (inl same) =
        let below = page-below routes.grid routes.classes m r t place.class place.router place.dst in
        inl (
          sym (page-class routes.grid routes.classes m' r' t' other.dst other.class) ∙ ap (λ b. b / nodes routes.grid % routes.classes) same ∙ page-class routes.grid routes.classes m r t place.dst place.class,
          sym (page-sender routes.grid routes.classes m' r' t' other.dst other.class) ∙ ap (λ b. b / nodes routes.grid / routes.classes) same ∙ page-sender routes.grid routes.classes m r t place.dst place.class,
          sym (page-dst routes.grid routes.classes m' r' t' other.dst) ∙ ap (λ b. b % nodes routes.grid) same ∙ page-dst routes.grid routes.classes m r t place.dst,
          ap (slice_index (set outs (page_of routes.grid routes.classes m r t) out)) same ∙ get_or-set_same outs (page_of routes.grid routes.classes m r t) out 0 (omega (arith, long, below)),
        )
    at (inr differ) = inr (get_or-set_other outs (page_of routes.grid routes.classes m r t) (page_of routes.grid routes.classes m' r' t') out 0 differ)

pub IsSoundOut-set : (routes : Routes) (outs : List ℕ) (m r t out : ℕ) → IsSized routes → length outs ≡ pages routes.grid routes.classes → IsSoundOut routes outs → IsPage routes m r t
    → IsOutOf routes outs m r t out → IsSoundOut routes (set outs (page_of routes.grid routes.classes m r t) out)
IsSoundOut-set routes outs m r t out sized long sound place is = λ m' r' t' k other l e. at m' r' t' k other l e (written routes outs m r t out m' r' t' place other long)
  where
    at : (m' r' t' k : ℕ) → IsPage routes m' r' t' → k < width routes.grid routes.vcs
        → has_bit (slice_index (set outs (page_of routes.grid routes.classes m r t) out) (page_of routes.grid routes.classes m' r' t')) k ≡ true
        → ((m' ≡ m) × (r' ≡ r) × (t' ≡ t) × (slice_index (set outs (page_of routes.grid routes.classes m r t) out) (page_of routes.grid routes.classes m' r' t') ≡ out))
        ⊎ (slice_index (set outs (page_of routes.grid routes.classes m r t) out) (page_of routes.grid routes.classes m' r' t') ≡ slice_index outs (page_of routes.grid routes.classes m' r' t'))
        → CanLeave routes m' r' t' k
    at m' r' t' k other l e (inl same) =
        let here = out-sound routes outs m r t out k sized sound place is l (sym (ap (λ s. has_bit s k) same.3) ∙ e) in
        let P : ℕ → Type 0 = λ x. CanLeave routes x r' t' k in
        let Q : ℕ → Type 0 = λ x. CanLeave routes m x t' k in
        let R : ℕ → Type 0 = λ x. CanLeave routes m r x k in
        subst P (sym same.0) (subst Q (sym same.1) (subst R (sym same.2) here))
    at m' r' t' k other l e (inr kept) = sound m' r' t' k other l (sym (ap (λ s. has_bit s k) kept) ∙ e)

pub IsFullOut-set_same : (routes : Routes) (outs : List ℕ) (m r t out : ℕ) → IsSized routes → length outs ≡ pages routes.grid routes.classes → ComesNearer routes → FartherFull routes outs r t
    → IsPage routes m r t → IsOutOf routes outs m r t out → IsFullOut routes (set outs (page_of routes.grid routes.classes m r t) out) m r t
IsFullOut-set_same routes outs m r t out sized long nearer full place is = λ k l leave.
    let below = page-below routes.grid routes.classes m r t place.class place.router place.dst in
    ap (λ s. has_bit s k) (get_or-set_same outs (page_of routes.grid routes.classes m r t) out 0 (omega (arith, long, below)))
    ∙ out-full routes outs m r t out k sized nearer full is l leave

pub IsFullOut-set : (routes : Routes) (outs : List ℕ) (m r t out m' r' t' : ℕ) → IsSized routes → length outs ≡ pages routes.grid routes.classes → ComesNearer routes → FartherFull routes outs r t
    → IsPage routes m r t → IsOutOf routes outs m r t out → IsPage routes m' r' t' → IsFullOut routes outs m' r' t' → IsFullOut routes (set outs (page_of routes.grid routes.classes m r t) out) m' r' t'
IsFullOut-set routes outs m r t out m' r' t' sized long nearer full place is other had = λ k l leave. at k l leave (written routes outs m r t out m' r' t' place other long)
  where
    at : (k : ℕ) → k < width routes.grid routes.vcs → CanLeave routes m' r' t' k
        → ((m' ≡ m) × (r' ≡ r) × (t' ≡ t) × (slice_index (set outs (page_of routes.grid routes.classes m r t) out) (page_of routes.grid routes.classes m' r' t') ≡ out))
        ⊎ (slice_index (set outs (page_of routes.grid routes.classes m r t) out) (page_of routes.grid routes.classes m' r' t') ≡ slice_index outs (page_of routes.grid routes.classes m' r' t'))
        → has_bit (slice_index (set outs (page_of routes.grid routes.classes m r t) out) (page_of routes.grid routes.classes m' r' t')) k ≡ true
    at k l leave (inl same) =
        let P : ℕ → Type 0 = λ x. CanLeave routes x r' t' k in
        let Q : ℕ → Type 0 = λ x. CanLeave routes m x t' k in
        let R : ℕ → Type 0 = λ x. CanLeave routes m r x k in
        let here = subst R same.2 (subst Q same.1 (subst P same.0 leave)) in
        ap (λ s. has_bit s k) same.3 ∙ out-full routes outs m r t out k sized nearer full is l here
    at k l leave (inr kept) = ap (λ s. has_bit s k) kept ∙ had k l leave

-- ---- the loops over entries

-- one more class
pub IsPairDone-more : (routes : Routes) (before outs : List ℕ) (r t class out : ℕ) → IsSized routes → ComesNearer routes → FartherFull routes before r t
    → IsPage routes class r t → IsOutOf routes outs class r t out → IsPairDone routes before outs r t class
    → IsPairDone routes before (set outs (page_of routes.grid routes.classes class r t) out) r t (class + 1)
IsPairDone-more routes before outs r t class out sized nearer farther place is h =
    let full : FartherFull routes outs r t = λ m u other l. h.kept m u t other (farther m u other l) in
    record {
      lists = record { long = length-set outs _ out ∙ long; sound = IsSoundOut-set routes outs class r t out sized long h.lists.sound place is };
      done = λ m l other. at full m l other (cases_lt m class);
      kept = λ m u d other had. IsFullOut-set routes outs class r t out m u d sized long nearer full place is other (h.kept m u d other had);
    }
  where
    long : length outs ≡ pages routes.grid routes.classes
    long = h.lists.long

    at : FartherFull routes outs r t → (m : ℕ) → m < class + 1 → IsPage routes m r t → (m < class) ⊎ (class ≤ m) → IsFullOut routes (set outs (page_of routes.grid routes.classes class r t) out) m r t
    at full m l other (inl b) = IsFullOut-set routes outs class r t out m r t sized long nearer full place is other (h.done m b other)
    at full m l other (inr g) =
        let last : class ≡ m = omega arith in
        let P : ℕ → Type 0 = λ m. IsFullOut routes (set outs (page_of routes.grid routes.classes class r t) out) m r t in
        subst P last (IsFullOut-set_same routes outs class r t out sized long nearer full place is)

-- the lists of all routers farther off are full, and of the first pairs of a router and a
-- destination at this distance
pub record IsRingDone (routes : Routes) (outs : List ℕ) (apart pair : ℕ) : Type 0 where
  pub lists : AreOuts routes outs
  pub farther : (m r t : ℕ) → IsPage routes m r t → apart < distance routes.grid r t → IsFullOut routes outs m r t
  pub done : (m r t : ℕ) → IsPage routes m r t → r * nodes routes.grid + t < pair → distance routes.grid r t ≡ apart → IsFullOut routes outs m r t

-- the pair is the one whose number this is
pair-parts : (g : Grid) (r t pair : ℕ) → t < nodes g → r * nodes g + t ≡ pair → (r ≡ pair / nodes g) × (t ≡ pair % nodes g)
pair-parts g r t pair l e =
    (sym (div-mul-add r (nodes g) t l) ∙ ap (λ x. x / nodes g) e, sym (mod-mul-add r (nodes g) t l) ∙ ap (λ x. x % nodes g) e)

IsRingDone-next : (routes : Routes) (before outs : List ℕ) (apart pair : ℕ) → IsRingDone routes before apart pair → AreOuts routes outs
    → ((m : ℕ) → IsPage routes m (pair / nodes routes.grid) (pair % nodes routes.grid) → IsFullOut routes outs m (pair / nodes routes.grid) (pair % nodes routes.grid))
    → ((m u d : ℕ) → IsPage routes m u d → IsFullOut routes before m u d → IsFullOut routes outs m u d)
    → IsRingDone routes outs apart (pair + 1)
IsRingDone-next routes before outs apart pair h sound full kept = record {
  lists = sound;
  farther = λ m r t place l. kept m r t place (h.farther m r t place l);
  done = λ m r t place l e. at m r t place e (cases_lt (r * nodes routes.grid + t) pair) l;
}
  where
    at : (m r t : ℕ) → IsPage routes m r t → distance routes.grid r t ≡ apart → (r * nodes routes.grid + t < pair) ⊎ (pair ≤ r * nodes routes.grid + t)
        → r * nodes routes.grid + t < pair + 1 → IsFullOut routes outs m r t
    at m r t place e (inl b) l = kept m r t place (h.done m r t place b e)
    at m r t place e (inr g) l =
        let same = pair-parts routes.grid r t pair place.dst (omega arith) in
        let P : ℕ → Type 0 = λ x. IsPage routes m x t in
        let Q : ℕ → Type 0 = λ x. IsPage routes m (pair / nodes routes.grid) x in
        let here = subst Q same.1 (subst P same.0 place) in
        let R : ℕ → Type 0 = λ x. IsFullOut routes outs m (pair / nodes routes.grid) x in
        let S : ℕ → Type 0 = λ x. IsFullOut routes outs m x t in
        subst S (sym same.0) (subst R (sym same.1) (full m here))

pub IsRingDone-more : (routes : Routes) (before outs : List ℕ) (apart pair n : ℕ) → n ≡ nodes routes.grid → IsRingDone routes before apart pair
    → IsPairDone routes before outs (pair / n) (pair % n) routes.classes → IsRingDone routes outs apart (pair + 1)
IsRingDone-more routes before outs apart pair n e h more =
    let P : ℕ → Type 0 = λ n. (m : ℕ) → IsPage routes m (pair / n) (pair % n) → IsFullOut routes outs m (pair / n) (pair % n) in
    IsRingDone-next routes before outs apart pair h more.lists (subst P e (λ m place. more.done m place.class place)) more.kept

-- a pair at another distance is passed over
pub IsRingDone-passed : (routes : Routes) (outs : List ℕ) (apart pair : ℕ) → distance routes.grid (pair / nodes routes.grid) (pair % nodes routes.grid) ≢ apart
    → IsRingDone routes outs apart pair → IsRingDone routes outs apart (pair + 1)
IsRingDone-passed routes outs apart pair other h = record {
  lists = h.lists;
  farther = h.farther;
  done = λ m r t place l e. at m r t place e (cases_lt (r * nodes routes.grid + t) pair) l;
}
  where
    at : (m r t : ℕ) → IsPage routes m r t → distance routes.grid r t ≡ apart → (r * nodes routes.grid + t < pair) ⊎ (pair ≤ r * nodes routes.grid + t)
        → r * nodes routes.grid + t < pair + 1 → IsFullOut routes outs m r t
    at m r t place e (inl b) l = h.done m r t place b e
    at m r t place e (inr g) l =
        let same = pair-parts routes.grid r t pair place.dst (omega arith) in
        absurd (other (sym (ap (λ x. distance routes.grid x t) same.0 ∙ ap (distance routes.grid (pair / nodes routes.grid)) same.1) ∙ e))

-- before the first pair, and after the last
pub IsRingDone-none : (routes : Routes) (outs : List ℕ) (apart : ℕ) → AreOutsFrom routes (apart + 1) outs → IsRingDone routes outs apart 0
IsRingDone-none routes outs apart h = record {
  lists = h.lists;
  farther = λ m r t place l. h.full m r t place (omega (arith, l));
  done = λ m r t place l e. absurd (omega (arith, l));
}

pub IsRingDone-all : (routes : Routes) (outs : List ℕ) (apart pair : ℕ) → nodes routes.grid * nodes routes.grid ≤ pair → IsRingDone routes outs apart pair → AreOutsFrom routes apart outs
IsRingDone-all routes outs apart pair end h = record { lists = h.lists; full = λ m r t place l. at m r t place l (cases_lt apart (distance routes.grid r t)) }
  where
    at : (m r t : ℕ) → IsPage routes m r t → apart ≤ distance routes.grid r t → (apart < distance routes.grid r t) ⊎ (distance routes.grid r t ≤ apart) → IsFullOut routes outs m r t
    at m r t place l (inl f) = h.farther m r t place f
    at m r t place l (inr n) = h.done m r t place (omega (arith, flat-below r (nodes routes.grid) t (nodes routes.grid) place.router place.dst)) (omega arith)

-- lists without channels
pub outs-none : (routes : Routes) (outs : List ℕ) → length outs ≡ pages routes.grid routes.classes → ((j : ℕ) → slice_index outs j ≡ 0) → AreOuts routes outs
outs-none routes outs long none = record {
  long = long;
  sound = λ m r t k place l e.
      let free : has_bit (slice_index outs (page_of routes.grid routes.classes m r t)) k ≡ false = ap (λ s. has_bit s k) (none (page_of routes.grid routes.classes m r t)) ∙ has_bit-zero k in
      absurd (false≢true (sym free ∙ e));
}
