-- What comes from one block after the other.
use Rattle.std.proofs.Common.{◌≡◌, ◌≢◌, ◌⊎◌, ℕ, zero, suc, ◌+◌, ◌*◌, ◌%◌, ◌<◌, Bool, true, false, List, [], ◌∷◌, length, map, get_or, ap, ap₂, sym, subst, ◌∙◌, refl, arith, inl, inr}
use Rattle.std.specs.Prelude.{◌&&◌, ◌||◌, nat_eq, slice_index, if◌then◌else◌}
use Rattle.noc_sets.proofs.MemberLemmas.{or-false}
use Rattle.noc_sets.proofs.UnionLemmas.{or-assoc}
use Rattle.noc_columns.specs.Near.{comes_by, comes_from}
use Rattle.noc_columns.specs.Places.{far_places}
use Rattle.noc_columns.specs.declared.ports.Ports.{Ports}
use Rattle.noc_columns.proofs.PassLemmas.{some-next}
use Rattle.noc_columns.proofs.PlaceLemmas.{some-shift}
use Rattle.noc_cycles.proofs.Common.{cases_eq, eq-eqb, ne_eqb, mod-mul-add, has_bit, opposite, some_below, port_at, word, Links, Far, far_by, AreLed, left_by}

-- the words of a block that is there
pub from-left : (left : List (Links (List ℕ))) (b : ℕ) (d : Links (List ℕ)) → b < length left → get_or left b d ≡ left_by left b
from-left [] b d l = absurd (omega (arith, l))
from-left (x ∷ left) zero d l = refl
from-left (x ∷ left) (suc b) d l = from-left left b d (omega (arith, l))

-- ---- neighbour after neighbour
-- whether one of the first n of these neighbours sends this by virtual channel v of port p, in
-- words of one kind
abbrev pub comes_first : Ports → ℕ → List Far → (ℕ → List ℕ) → ℕ → ℕ → ℕ → Bool
comes_first links p far sent n v r =
    some_below n
    (λ j. nat_eq (slice_index (map (λ (f : Far). f.port) far) j) p
    && comes_from ((far_places far).distance j) ((far_places far).mask j) (word ((port_at links (opposite p)).index v) (sent ((far_places far).block j))) r)

-- so many have been joined
abbrev pub AreJoinedTo : Ports → List Far → (ℕ → List ℕ) → ℕ → List ℕ → List ℕ → Type 0
AreJoinedTo links far sent n old now =
    (p v r : ℕ) → p < links.width → v < links.vcs → r < 64
    → has_bit (word ((port_at links p).index v) now) r ≡ (has_bit (word ((port_at links p).index v) old) r || comes_first links p far sent n v r)

pub none-joined : (links : Ports) (far : List Far) (sent : ℕ → List ℕ) (old : List ℕ) → AreJoinedTo links far sent 0 old old
none-joined links far sent old = λ p v r l few low. sym (or-false (has_bit (word ((port_at links p).index v) old) r))

-- a field of the neighbour with an index
pub at-item : (f : Far → ℕ) (far : List Far) (j : ℕ) (x : Far) → j < length far → x ≡ get_or far j x → slice_index (map f far) j ≡ f x
at-item f [] j x l e = absurd (omega (arith, l))
at-item f (y ∷ far) zero x l e = ap f (sym e)
at-item f (y ∷ far) (suc j) x l e = at-item f far j x (omega (arith, l)) e

other-port : (first width p q v w : ℕ) → p < width → q < width → p ≢ q → first + v * width + q ≢ first + w * width + p
other-port first width p q v w l m other e =
    let same : v * width + q ≡ w * width + p = omega (arith, e) in
    other (sym (sym (mod-mul-add v width q m) ∙ ap (λ n. n % width) same ∙ mod-mul-add w width p l))

-- one more, of words of one kind
pub kind-next : (links : Ports) (far : List Far) (count n : ℕ) (x : Far) (sent : ℕ → List ℕ) (old now new from : List ℕ) → AreLed links count far → n < length far → x ≡ get_or far n x → from ≡ sent x.block
    → AreJoinedTo links far sent n old now
    → ((v r : ℕ) → v < links.vcs → r < 64
    → has_bit (word ((port_at links x.port).index v) new) r ≡ (has_bit (word ((port_at links x.port).index v) now) r || comes_from x.distance x.mask (word ((port_at links (opposite x.port)).index v) from) r))
    → ((k : ℕ) → ((v : ℕ) → v < links.vcs → k ≢ (port_at links x.port).index v) → word k new ≡ word k now)
    → AreJoinedTo links far sent (n + 1) old new
kind-next links far count n x sent old now new from led inside is same before here others = λ p v r l few low. at p v r l few low (cases_eq x.port p)
  where
    port : slice_index (map (λ (f : Far). f.port) far) n ≡ x.port
    port = at-item (λ f. f.port) far n x inside is

    there : ℕ → ℕ → ℕ → Bool
    there p v r = comes_from ((far_places far).distance n) ((far_places far).mask n) (word ((port_at links (opposite p)).index v) (sent ((far_places far).block n))) r

    item : (p v r : ℕ) → comes_from x.distance x.mask (word ((port_at links (opposite p)).index v) from) r ≡ there p v r
    item p v r =
        ap₂ (λ a b. comes_from a b (word ((port_at links (opposite p)).index v) from) r) (sym (at-item (λ f. f.distance) far n x inside is)) (sym (at-item (λ f. f.mask) far n x inside is))
        ∙ ap (λ w. comes_from ((far_places far).distance n) ((far_places far).mask n) (word ((port_at links (opposite p)).index v) w) r) (same ∙ ap sent (sym (at-item (λ f. f.block) far n x inside is)))

    tested : (p : ℕ) (b : Bool) → nat_eq x.port p ≡ b → nat_eq (slice_index (map (λ (f : Far). f.port) far) n) p ≡ b
    tested p b e = ap (λ q. nat_eq q p) port ∙ e

    at : (p v r : ℕ) → p < links.width → v < links.vcs → r < 64 → (x.port ≡ p) ⊎ (x.port ≢ p)
        → has_bit (word ((port_at links p).index v) new) r ≡ (has_bit (word ((port_at links p).index v) old) r || comes_first links p far sent (n + 1) v r)
    at p v r l few low (inl own) =
        subst (λ q. has_bit (word ((port_at links q).index v) new) r ≡ (has_bit (word ((port_at links q).index v) now) r || comes_from x.distance x.mask (word ((port_at links (opposite q)).index v) from) r)) own (here v r few low)
        ∙ ap₂ (λ a b. a || b) (before p v r l few low) (item p v r ∙ sym (ap (λ b. b && there p v r) (tested p true (eq-eqb x.port p own))))
        ∙ or-assoc (has_bit (word ((port_at links p).index v) old) r) (comes_first links p far sent n v r) _
        ∙ sym (ap (λ b. has_bit (word ((port_at links p).index v) old) r || b) (some-next n _))
    at p v r l few low (inr other) =
        let m : x.port < links.width = subst (λ q. q < links.width) port (led.port n inside) in
        ap (λ w. has_bit w r) (others ((port_at links p).index v) (λ w _. other-port links.first links.width x.port p v w m l other))
        ∙ before p v r l few low
        ∙ ap (λ b. has_bit (word ((port_at links p).index v) old) r || b)
        (sym (or-false (comes_first links p far sent n v r)) ∙ ap (λ b. comes_first links p far sent n v r || b) (sym (ap (λ b. b && there p v r) (tested p false (ne_eqb x.port p other)))) ∙ sym (some-next n _))

-- at the end all have been: those that stand at the ends of links of one port
by-port : (far : List Far) (p : ℕ) (sent : ℕ → ℕ) (r : ℕ)
    → some_below (length far) (λ j. nat_eq (slice_index (map (λ (f : Far). f.port) far) j) p && comes_from ((far_places far).distance j) ((far_places far).mask j) (sent ((far_places far).block j)) r)
    ≡ comes_by (far_places (far_by far p)) sent r
by-port [] p sent r = refl
by-port (x ∷ far) p sent r =
    some-shift (length far) (λ j. nat_eq (slice_index (map (λ (f : Far). f.port) (x ∷ far)) j) p && comes_from ((far_places (x ∷ far)).distance j) ((far_places (x ∷ far)).mask j) (sent ((far_places (x ∷ far)).block j)) r)
    ∙ ap (λ b. (nat_eq x.port p && own) || b) (by-port far p sent r)
    ∙ at (nat_eq x.port p) refl
  where
    own : Bool
    own = comes_from x.distance x.mask (sent x.block) r

    at : (b : Bool) → nat_eq x.port p ≡ b → ((nat_eq x.port p && own) || comes_by (far_places (far_by far p)) sent r) ≡ comes_by (far_places (far_by (x ∷ far) p)) sent r
    at true e =
        let all = far_by far p in
        ap (λ b. (b && own) || comes_by (far_places all) sent r) e
        ∙ sym (some-shift (length all) (λ j. comes_from ((far_places (x ∷ all)).distance j) ((far_places (x ∷ all)).mask j) (sent ((far_places (x ∷ all)).block j)) r))
        ∙ sym (ap (λ b. comes_by (far_places (if b then x ∷ all else all)) sent r) e)
    at false e =
        let all = far_by far p in
        ap (λ b. (b && own) || comes_by (far_places all) sent r) e
        ∙ sym (ap (λ b. comes_by (far_places (if b then x ∷ all else all)) sent r) e)

pub all-joined : (links : Ports) (far : List Far) (sent : ℕ → List ℕ) (n : ℕ) (old now : List ℕ) → n ≡ length far → AreJoinedTo links far sent n old now
    → (p v r : ℕ) → p < links.width → v < links.vcs → r < 64
    → has_bit (word ((port_at links p).index v) now) r
    ≡ (has_bit (word ((port_at links p).index v) old) r || comes_by (far_places (far_by far p)) (λ b. word ((port_at links (opposite p)).index v) (sent b)) r)
all-joined links far sent n old now all are p v r l few low =
    are p v r l few low
    ∙ ap (λ b. has_bit (word ((port_at links p).index v) old) r || b)
    (ap (λ m. comes_first links p far sent m v r) all ∙ by-port far p (λ b. word ((port_at links (opposite p)).index v) (sent b)) r)
