-- Numbers that are kept bit by bit.
use Rattle.std.proofs.Common.{◌≡◌, ℕ, suc, ◌+◌, ◌-◌, ◌*◌, ◌%◌, ◌^◌, ◌<◌, ◌≤◌, Bool, true, false, List, [], ◌∷◌, length, refl, ap, sym, ◌∙◌, subst, arith, inl, inr, bit_and, bit_or, bit_xor, pow-suc}
use Rattle.std.specs.Prelude.{nat_eq, nat_lt, ◌⊎◌, ◌&&◌, ◌||◌, not}
use Rattle.std.proofs.lemmas.Bool.{eq-eqb, ne_eqb, cases_eq, cases_lt, lt-ltb, le-ltb}
use Rattle.std.proofs.lemmas.Nat.{mod-mul-add}
use Rattle.noc_topo.specs.Lists.{one_if}
use Rattle.noc_topo.proofs.ListLemmas.{one-small}
use Rattle.noc_packet.specs.Set.{has_bit}
use Rattle.noc_packet.proofs.SetLemmas.{both_members, either_members, has_bit-zero}
use Rattle.noc_sets.specs.Sets.{differ, less}
use Rattle.noc_sets.specs.Planes.{plane_number, ArePlanes, raised_by, carry_of, AreAll, lowered_by, borrow_of, any_from, more_than_one, wrong_from}
use Rattle.noc_sets.proofs.MemberLemmas.{xor_members, less_members, less_fits, and_fits, or_fits, xor_fits, or-false}

pub number-small : (planes : List ℕ) (x : ℕ) → plane_number planes x < 2 ^ length planes
number-small [] x = omega arith
number-small (plane ∷ planes) x = omega (arith, number-small planes x, one-small (has_bit plane x), pow-suc 2 (length planes))

-- ---- one more
add_bits : (a b : Bool) → one_if (differ a b) + 2 * one_if (b && a) ≡ one_if a + one_if b
add_bits true true = omega arith
add_bits true false = omega arith
add_bits false true = omega arith
add_bits false false = omega arith

-- a number that is raised, with what the planes cannot hold
pub raised-is : (planes : List ℕ) (set x : ℕ)
    → plane_number (raised_by planes set) x + 2 ^ length planes * one_if (has_bit (carry_of planes set) x) ≡ plane_number planes x + one_if (has_bit set x)
raised-is [] set x = omega arith
raised-is (plane ∷ planes) set x =
    let rest = raised-is planes (bit_and set plane) x in
    let low : one_if (has_bit (bit_xor plane set) x) + 2 * one_if (has_bit (bit_and set plane) x) ≡ one_if (has_bit plane x) + one_if (has_bit set x) =
    rw (xor_members plane set x, both_members set plane x) (add_bits (has_bit plane x) (has_bit set x)) in
    twice (2 ^ length planes) (2 ^ suc (length planes)) (one_if (has_bit (carry_of planes (bit_and set plane)) x)) _ _ _ _ _ _ (pow-suc 2 (length planes)) rest low
  where
    twice : (p q c low new and old plane set : ℕ) → q ≡ p * 2 → new + p * c ≡ old + and → low + 2 * and ≡ plane + set → low + 2 * new + q * c ≡ plane + 2 * old + set
    twice p q c low new and old plane set e r l =
        let m : q * c ≡ 2 * (p * c) = ap (λ z. z * c) e ∙ omega arith in omega arith

-- where the planes can hold it
pub raised-number : (planes : List ℕ) (set x : ℕ) → plane_number planes x + one_if (has_bit set x) < 2 ^ length planes
    → plane_number (raised_by planes set) x ≡ plane_number planes x + one_if (has_bit set x)
raised-number planes set x room = at (has_bit (carry_of planes set) x) (raised-is planes set x)
  where
    at : (b : Bool) → plane_number (raised_by planes set) x + 2 ^ length planes * one_if b ≡ plane_number planes x + one_if (has_bit set x)
        → plane_number (raised_by planes set) x ≡ plane_number planes x + one_if (has_bit set x)
    at true h = absurd (omega arith)
    at false h = omega arith

pub raised-length : (planes : List ℕ) (set : ℕ) → length (raised_by planes set) ≡ length planes
raised-length [] set = refl
raised-length (plane ∷ planes) set = ap suc (raised-length planes (bit_and set plane))

-- modulo what the planes can hold
pub raised-modulo : (planes : List ℕ) (set x : ℕ) → plane_number (raised_by planes set) x ≡ (plane_number planes x + one_if (has_bit set x)) % 2 ^ length planes
raised-modulo planes set x = at (has_bit (carry_of planes set) x) (raised-is planes set x)
  where
    small : plane_number (raised_by planes set) x < 2 ^ length planes
    small = subst (λ n. plane_number (raised_by planes set) x < 2 ^ n) (raised-length planes set) (number-small (raised_by planes set) x)

    is : (c n : ℕ) → c * 2 ^ length planes + plane_number (raised_by planes set) x ≡ n → plane_number (raised_by planes set) x ≡ n % 2 ^ length planes
    is c n h = sym (mod-mul-add c (2 ^ length planes) (plane_number (raised_by planes set) x) small) ∙ ap (λ k. k % 2 ^ length planes) h

    at : (b : Bool) → plane_number (raised_by planes set) x + 2 ^ length planes * one_if b ≡ plane_number planes x + one_if (has_bit set x)
        → plane_number (raised_by planes set) x ≡ (plane_number planes x + one_if (has_bit set x)) % 2 ^ length planes
    at true h = is 1 _ (omega arith)
    at false h = is 0 _ (omega arith)

pub raised-fits : (planes : List ℕ) (set : ℕ) → ArePlanes planes → set < 2 ^ 64 → ArePlanes (raised_by planes set)
raised-fits [] set fits small = tt
raised-fits (plane ∷ planes) set fits small = (xor_fits plane set fits.0 small, raised-fits planes (bit_and set plane) fits.1 (and_fits set plane small))

-- ---- one less
take_bits : (a b : Bool) → one_if (differ a b) + one_if b ≡ one_if a + 2 * one_if (b && not a)
take_bits true true = omega arith
take_bits true false = omega arith
take_bits false true = omega arith
take_bits false false = omega arith

pub lowered-is : (planes : List ℕ) (set x : ℕ) → ArePlanes planes → set < 2 ^ 64
    → plane_number (lowered_by planes set) x + one_if (has_bit set x) ≡ plane_number planes x + 2 ^ length planes * one_if (has_bit (borrow_of planes set) x)
lowered-is [] set x fits small = omega arith
lowered-is (plane ∷ planes) set x fits small =
    let rest = lowered-is planes (less set plane) x fits.1 (less_fits set plane small) in
    let low : one_if (has_bit (bit_xor plane set) x) + one_if (has_bit set x) ≡ one_if (has_bit plane x) + 2 * one_if (has_bit (less set plane) x) =
    rw (xor_members plane set x, less_members set plane x) (take_bits (has_bit plane x) (has_bit set x)) in
    twice (2 ^ length planes) (2 ^ suc (length planes)) (one_if (has_bit (borrow_of planes (less set plane)) x)) _ _ _ _ _ _ (pow-suc 2 (length planes)) rest low
  where
    twice : (p q c low new b old plane set : ℕ) → q ≡ p * 2 → new + b ≡ old + p * c → low + set ≡ plane + 2 * b → low + 2 * new + set ≡ plane + 2 * old + q * c
    twice p q c low new b old plane set e r l =
        let m : q * c ≡ 2 * (p * c) = ap (λ z. z * c) e ∙ omega arith in omega arith

pub lowered-length : (planes : List ℕ) (set : ℕ) → length (lowered_by planes set) ≡ length planes
lowered-length [] set = refl
lowered-length (plane ∷ planes) set = ap suc (lowered-length planes (less set plane))

-- where there is one
pub lowered-number : (planes : List ℕ) (set x : ℕ) → ArePlanes planes → set < 2 ^ 64 → one_if (has_bit set x) ≤ plane_number planes x
    → plane_number (lowered_by planes set) x + one_if (has_bit set x) ≡ plane_number planes x
lowered-number planes set x fits small some = at (has_bit (borrow_of planes set) x) (lowered-is planes set x fits small)
  where
    at : (b : Bool) → plane_number (lowered_by planes set) x + one_if (has_bit set x) ≡ plane_number planes x + 2 ^ length planes * one_if b
        → plane_number (lowered_by planes set) x + one_if (has_bit set x) ≡ plane_number planes x
    at true h =
        let l : plane_number (lowered_by planes set) x < 2 ^ length planes = lowered-small planes set x in
        absurd (omega (arith, number-small planes x))
      where
        lowered-small : (planes : List ℕ) (set x : ℕ) → plane_number (lowered_by planes set) x < 2 ^ length planes
        lowered-small planes set x = rw (sym (lowered-length planes set)) (number-small (lowered_by planes set) x)
    at false h = omega arith

-- modulo what the planes can hold
pub lowered-modulo : (planes : List ℕ) (set x : ℕ) → ArePlanes planes → set < 2 ^ 64
    → plane_number (lowered_by planes set) x ≡ (plane_number planes x + 2 ^ length planes - one_if (has_bit set x)) % 2 ^ length planes
lowered-modulo planes set x fits few = at (has_bit (borrow_of planes set) x) (lowered-is planes set x fits few)
  where
    small : plane_number (lowered_by planes set) x < 2 ^ length planes
    small = subst (λ n. plane_number (lowered_by planes set) x < 2 ^ n) (lowered-length planes set) (number-small (lowered_by planes set) x)

    is : (c n : ℕ) → c * 2 ^ length planes + plane_number (lowered_by planes set) x ≡ n → plane_number (lowered_by planes set) x ≡ n % 2 ^ length planes
    is c n h = sym (mod-mul-add c (2 ^ length planes) (plane_number (lowered_by planes set) x) small) ∙ ap (λ k. k % 2 ^ length planes) h

    at : (b : Bool) → plane_number (lowered_by planes set) x + one_if (has_bit set x) ≡ plane_number planes x + 2 ^ length planes * one_if b
        → plane_number (lowered_by planes set) x ≡ (plane_number planes x + 2 ^ length planes - one_if (has_bit set x)) % 2 ^ length planes
    at true h = is 0 _ (omega arith)
    at false h = is 1 _ (omega arith)

pub lowered-fits : (planes : List ℕ) (set : ℕ) → ArePlanes planes → set < 2 ^ 64 → ArePlanes (lowered_by planes set)
lowered-fits [] set fits small = tt
lowered-fits (plane ∷ planes) set fits small = (xor_fits plane set fits.0 small, lowered-fits planes (less set plane) fits.1 (less_fits set plane small))

-- ---- tests
or_assoc : (a b c : Bool) → ((a || b) || c) ≡ (a || (b || c))
or_assoc true b c = refl
or_assoc false b c = refl

some_of : (a : Bool) (n : ℕ) → nat_lt 0 (one_if a + 2 * n) ≡ (a || nat_lt 0 n)
some_of true n = lt-ltb 0 (1 + 2 * n) (omega arith)
some_of false n = at (cases_lt 0 n)
  where
    at : (0 < n) ⊎ (n ≤ 0) → nat_lt 0 (0 + 2 * n) ≡ nat_lt 0 n
    at (inl l) = lt-ltb 0 (0 + 2 * n) (omega arith) ∙ sym (lt-ltb 0 n l)
    at (inr u) = le-ltb 0 (0 + 2 * n) (omega arith) ∙ sym (le-ltb 0 n u)

pub any-members : (any : ℕ) (planes : List ℕ) (x : ℕ) → has_bit (any_from any planes) x ≡ (has_bit any x || nat_lt 0 (plane_number planes x))
any-members any [] x = sym (or-false (has_bit any x))
any-members any (plane ∷ planes) x =
    any-members (bit_or any plane) planes x
    ∙ ap (λ b. b || nat_lt 0 (plane_number planes x)) (either_members any plane x)
    ∙ or_assoc (has_bit any x) (has_bit plane x) (nat_lt 0 (plane_number planes x))
    ∙ ap (λ b. has_bit any x || b) (sym (some_of (has_bit plane x) (plane_number planes x)))

-- the channels whose number is not 0
pub filled-members : (planes : List ℕ) (x : ℕ) → has_bit (any_from 0 planes) x ≡ nat_lt 0 (plane_number planes x)
filled-members planes x = any-members 0 planes x ∙ ap (λ b. b || nat_lt 0 (plane_number planes x)) (has_bit-zero x)

-- whether a number is more than 1
pub more-members : (planes : List ℕ) (x : ℕ) → has_bit (more_than_one planes) x ≡ nat_lt 1 (plane_number planes x)
more-members [] x = has_bit-zero x ∙ sym (le-ltb 1 0 (omega arith))
more-members (plane ∷ planes) x = filled-members planes x ∙ at (has_bit plane x) (cases_lt 0 (plane_number planes x))
  where
    at : (b : Bool) → (0 < plane_number planes x) ⊎ (plane_number planes x ≤ 0) → nat_lt 0 (plane_number planes x) ≡ nat_lt 1 (one_if b + 2 * plane_number planes x)
    at b (inl l) = lt-ltb 0 (plane_number planes x) l ∙ sym (lt-ltb 1 (one_if b + 2 * plane_number planes x) (omega arith))
    at b (inr u) = le-ltb 0 (plane_number planes x) u ∙ sym (le-ltb 1 (one_if b + 2 * plane_number planes x) (omega (arith, one-small b)))

differ_bit : (a b : Bool) (m n : ℕ) → (differ a b || not (nat_eq m n)) ≡ not (nat_eq (one_if a + 2 * m) (one_if b + 2 * n))
differ_bit a b m n = at a b (cases_eq m n)
  where
    at : (a b : Bool) → (m ≡ n) ⊎ (m ≡ n → ⊥) → (differ a b || not (nat_eq m n)) ≡ not (nat_eq (one_if a + 2 * m) (one_if b + 2 * n))
    at true true (inl e) = rw (eq-eqb m n e, eq-eqb (1 + 2 * m) (1 + 2 * n) (omega arith)) refl
    at true true (inr o) = rw (ne_eqb m n o, ne_eqb (1 + 2 * m) (1 + 2 * n) (λ e. o (omega arith))) refl
    at true false _ = rw (ne_eqb (1 + 2 * m) (0 + 2 * n) (λ e. absurd (omega arith))) refl
    at false true _ = rw (ne_eqb (0 + 2 * m) (1 + 2 * n) (λ e. absurd (omega arith))) refl
    at false false (inl e) = rw (eq-eqb m n e, eq-eqb (0 + 2 * m) (0 + 2 * n) (omega arith)) refl
    at false false (inr o) = rw (ne_eqb m n o, ne_eqb (0 + 2 * m) (0 + 2 * n) (λ e. o (omega arith))) refl

-- whether a number is not that by other planes
wrong-from : (wrong : ℕ) (planes others : List ℕ) (x : ℕ) → length planes ≡ length others
    → has_bit (wrong_from wrong planes others) x ≡ (has_bit wrong x || not (nat_eq (plane_number planes x) (plane_number others x)))
wrong-from wrong [] [] x long = sym (or-false (has_bit wrong x))
wrong-from wrong [] (other ∷ others) x long = absurd (omega arith)
wrong-from wrong (plane ∷ planes) [] x long = absurd (omega arith)
wrong-from wrong (plane ∷ planes) (other ∷ others) x long =
    wrong-from (bit_or wrong (bit_xor plane other)) planes others x (omega arith)
    ∙ ap (λ b. b || not (nat_eq (plane_number planes x) (plane_number others x))) (either_members wrong (bit_xor plane other) x)
    ∙ or_assoc (has_bit wrong x) (has_bit (bit_xor plane other) x) (not (nat_eq (plane_number planes x) (plane_number others x)))
    ∙ ap (λ b. has_bit wrong x || (b || not (nat_eq (plane_number planes x) (plane_number others x)))) (xor_members plane other x)
    ∙ ap (λ b. has_bit wrong x || b) (differ_bit (has_bit plane x) (has_bit other x) (plane_number planes x) (plane_number others x))

pub other-members : (planes others : List ℕ) (x : ℕ) → length planes ≡ length others
    → has_bit (wrong_from 0 planes others) x ≡ not (nat_eq (plane_number planes x) (plane_number others x))
other-members planes others x long =
    wrong-from 0 planes others x long ∙ ap (λ b. b || not (nat_eq (plane_number planes x) (plane_number others x))) (has_bit-zero x)

-- whether it is not a number that all have
pub wrong-members : (planes others : List ℕ) (count size n x : ℕ) → length planes ≡ count → x < size → AreAll count size n others
    → has_bit (wrong_from 0 planes others) x ≡ not (nat_eq (plane_number planes x) n)
wrong-members planes others count size n x long l all =
    other-members planes others x (long ∙ sym all.bits)
    ∙ ap (λ k. not (nat_eq (plane_number planes x) k)) (all.each x l)

any-fits-from : (any : ℕ) (planes : List ℕ) → any < 2 ^ 64 → ArePlanes planes → any_from any planes < 2 ^ 64
any-fits-from any [] l fits = l
any-fits-from any (plane ∷ planes) l fits = any-fits-from (bit_or any plane) planes (or_fits any plane l fits.0) fits.1

pub any-fits : (planes : List ℕ) → ArePlanes planes → any_from 0 planes < 2 ^ 64
any-fits planes fits = any-fits-from 0 planes (omega arith) fits
