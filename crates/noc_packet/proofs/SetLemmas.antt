-- Sets of channel indices, by their bits.
use Rattle.std.proofs.Common.{◌/◌, ◌≡◌, ℕ, ◌+◌, ◌-◌, ◌*◌, ◌%◌, ◌^◌, ◌<◌, ◌≤◌, Bool, true, false, Option, Some, None, refl, ap, sym, ◌∙◌, arith, inl, inr, w64, bit_and, bit_or, zero-mul}
use Rattle.std.specs.Prelude.{nat_eq, nat_le, nat_lt, ◌⊎◌, ◌&&◌, ◌||◌, not, cond}
use Rattle.std.proofs.Math.Bool.{and_self}
use Rattle.std.specs.Int.{bit_at, bit_not, trailing_zeros}
use Rattle.std.proofs.lemmas.Bool.{eq-eqb, ne_eqb, cases_eq, cases_lt, false≢true, eqb-true, le-leb, lt-leb, lt-ltb, le-ltb}
use Rattle.std.proofs.lemmas.Nat.{or_lt, or_disjoint, shr-shr, shr_le, one_shl, shl_below, shl_whole, and_le_l, and_le_r, and-not, and_comm, pow_below, pow_pos}
use Rattle.std.proofs.Math.Nat.{pow-le-pow_right}
use Rattle.std.proofs.lemmas.Nat.Bits.{bit_at-zero, bit_at-lt, bit_at_and, bit_at_or, bit_at_above, and_pow, same_from_bits, bit_at_set_same, bit_at_set_other, bit_at_clear_same, bit_at_clear_other, bit_at-trailing_zeros, bit_at_not, bit_at_ones, bit_at_ones_above, bit_at_cat_low, bit_at_cat_high}
use Rattle.noc_packet.specs.Set.{has_bit, has_from, in_both, IsLeast}

pub has_bit-one : (bits k : ℕ) → bit_at bits k ≡ 1 → has_bit bits k ≡ true
has_bit-one bits k e = eq-eqb _ _ e

pub has_bit-none : (bits k : ℕ) → bit_at bits k ≡ 0 → has_bit bits k ≡ false
has_bit-none bits k e = ne_eqb _ _ (λ w. omega arith)

pub bit_at-true : (bits k : ℕ) → has_bit bits k ≡ true → bit_at bits k ≡ 1
bit_at-true bits k e = eqb-true _ _ e

pub bit_at-false : (bits k : ℕ) → has_bit bits k ≡ false → bit_at bits k ≡ 0
bit_at-false bits k e = at (cases_eq (bit_at bits k) 1)
  where
    at : (bit_at bits k ≡ 1) ⊎ (bit_at bits k ≡ 1 → ⊥) → bit_at bits k ≡ 0
    at (inl one) = absurd (false≢true (sym e ∙ has_bit-one bits k one))
    at (inr other) = omega (arith, bit_at-lt bits k)

-- two sets with one bit have it both or neither
pub has_bit-same : (a b k : ℕ) → bit_at a k ≡ bit_at b k → has_bit a k ≡ has_bit b k
has_bit-same a b k e = ap (λ n. nat_eq n 1) e

-- no member is past the width
pub has_bit-above : (bits n k : ℕ) → bits < 2 ^ n → n ≤ k → has_bit bits k ≡ false
has_bit-above bits n k bound l = has_bit-none bits k (bit_at_above bits n k bound l)

pub has_bit-below : (bits n k : ℕ) → bits < 2 ^ n → has_bit bits k ≡ true → k < n
has_bit-below bits n k bound e = at (cases_lt k n)
  where
    at : (k < n) ⊎ (n ≤ k) → k < n
    at (inl l) = l
    at (inr u) = absurd (false≢true (sym (has_bit-above bits n k bound u) ∙ e))

pub has_bit-zero : (k : ℕ) → has_bit 0 k ≡ false
has_bit-zero k = has_bit-none 0 k (bit_at-zero k)

-- a set with no member is zero
pub zero_from_none : (bits : ℕ) → ((k : ℕ) → has_bit bits k ≡ false) → bits ≡ 0
zero_from_none bits none = same_from_bits bits 0 (λ k. bit_at-false bits k (none k) ∙ sym (bit_at-zero k))

-- two sets with the same members are one
pub same_set : (a b : ℕ) → ((k : ℕ) → has_bit a k ≡ has_bit b k) → a ≡ b
same_set a b same = same_from_bits a b (λ k. at k (has_bit b k) refl)
  where
    at : (k : ℕ) (x : Bool) → has_bit b k ≡ x → bit_at a k ≡ bit_at b k
    at k true e = bit_at-true a k (same k ∙ e) ∙ sym (bit_at-true b k e)
    at k false e = bit_at-false a k (same k ∙ e) ∙ sym (bit_at-false b k e)

-- ---- with one more
pub with_fits : (bits k : ℕ) → bits < 2 ^ 56 → k < 56 → bit_or bits (1 * 2 ^ k % 2 ^ 64) < 2 ^ 56
with_fits bits k bound l = rw (one_shl k 64 (omega arith)) (or_lt 56 bits (2 ^ k) bound (pow_below k 56 l))

pub with_members : (bits j k : ℕ) → j < 56 → has_bit (bit_or bits (1 * 2 ^ j % 2 ^ 64)) k ≡ (nat_eq k j || has_bit bits k)
with_members bits j k l = at (cases_eq k j)
  where
    at : (k ≡ j) ⊎ (k ≡ j → ⊥) → has_bit (bit_or bits (1 * 2 ^ j % 2 ^ 64)) k ≡ (nat_eq k j || has_bit bits k)
    at (inl e) =
        rw (eq-eqb k j e)
        (ap (has_bit (bit_or bits (1 * 2 ^ j % 2 ^ 64))) e ∙ has_bit-one _ j (bit_at_set_same w64 bits j (omega arith)))
    at (inr n) = rw (ne_eqb k j n) (has_bit-same _ bits k (bit_at_set_other w64 bits j (omega arith) k n))

pub with_bits : (bits k : ℕ) → k < 56 → bit_or bits (1 * 2 ^ k % 2 ^ 64) ≡ cond (has_bit bits k) bits (bits + 2 ^ k)
with_bits bits k l = at (has_bit bits k) refl
  where
    at : (x : Bool) → has_bit bits k ≡ x → bit_or bits (1 * 2 ^ k % 2 ^ 64) ≡ cond x bits (bits + 2 ^ k)
    at true e = same_set _ bits (λ i. with_members bits k i l ∙ held i (cases_eq i k))
      where
        held : (i : ℕ) → (i ≡ k) ⊎ (i ≡ k → ⊥) → (nat_eq i k || has_bit bits i) ≡ has_bit bits i
        held i (inl s) = rw (eq-eqb i k s) (sym (ap (has_bit bits) s ∙ e))
        held i (inr n) = rw (ne_eqb i k n) refl
    at false e = rw (one_shl k 64 (omega arith)) (or_disjoint bits (2 ^ k) (and_pow bits k ∙ ap (λ n. n * 2 ^ k) (bit_at-false bits k e) ∙ zero-mul (2 ^ k)))

-- ---- with one less
pub without_fits : (bits m : ℕ) → bits < 2 ^ 56 → bit_and bits m < 2 ^ 56
without_fits bits m bound = omega (arith, and_le_l bits m)

pub without_members : (bits j k : ℕ) → bits < 2 ^ 56 → j < 56 → has_bit (bit_and bits (bit_not w64 (1 * 2 ^ j % 2 ^ 64))) k ≡ (not (nat_eq k j) && has_bit bits k)
without_members bits j k bound l = at (cases_eq k j) (cases_lt k 56)
  where
    at : (k ≡ j) ⊎ (k ≡ j → ⊥) → (k < 56) ⊎ (56 ≤ k) → has_bit (bit_and bits (bit_not w64 (1 * 2 ^ j % 2 ^ 64))) k ≡ (not (nat_eq k j) && has_bit bits k)
    at (inl e) _ =
        rw (eq-eqb k j e)
        (ap (has_bit (bit_and bits (bit_not w64 (1 * 2 ^ j % 2 ^ 64)))) e ∙ has_bit-none _ j (bit_at_clear_same w64 bits j (omega arith)))
    at (inr n) (inl u) = rw (ne_eqb k j n) (has_bit-same _ bits k (bit_at_clear_other w64 bits j (omega arith) k (omega arith) n))
    at (inr n) (inr u) =
        rw (ne_eqb k j n)
        (has_bit-above _ 56 k (without_fits bits (bit_not w64 (1 * 2 ^ j % 2 ^ 64)) bound) u ∙ sym (has_bit-above bits 56 k bound u))

pub without_bits : (bits k : ℕ) → bits < 2 ^ 56 → k < 56 → bit_and bits (bit_not w64 (1 * 2 ^ k % 2 ^ 64)) ≡ cond (has_bit bits k) (bits - 2 ^ k) bits
without_bits bits k bound l =
    let shifted : 1 * 2 ^ k % 2 ^ 64 ≡ 2 ^ k = one_shl k 64 (omega arith) in
    let parts : bit_and (2 ^ 64 - 1 - 2 ^ k) bits + bit_and (2 ^ k) bits ≡ bits = and-not 64 (2 ^ k) bits (pow_below k 64 (omega arith)) (omega arith) in
    let one : bit_and (2 ^ k) bits ≡ bit_at bits k * 2 ^ k = and_comm (2 ^ k) bits ∙ and_pow bits k in
    let turned : bit_and bits (2 ^ 64 - 1 - 2 ^ k) ≡ bit_and (2 ^ 64 - 1 - 2 ^ k) bits = and_comm bits (2 ^ 64 - 1 - 2 ^ k) in
    rw shifted (at (has_bit bits k) refl (2 ^ k) (bit_and bits (2 ^ 64 - 1 - 2 ^ k)) (ap (λ n. n + bit_and (2 ^ k) bits) turned ∙ parts) one)
  where
    at : (x : Bool) → has_bit bits k ≡ x → (p r : ℕ) → r + bit_and p bits ≡ bits → bit_and p bits ≡ bit_at bits k * p → r ≡ cond x (bits - p) bits
    at true e p r sum one =
        let b : bit_at bits k ≡ 1 = bit_at-true bits k e in
        let s : bit_and p bits ≡ 1 * p = one ∙ ap (λ n. n * p) b in
        omega arith
    at false e p r sum one =
        let b : bit_at bits k ≡ 0 = bit_at-false bits k e in
        let s : bit_and p bits ≡ 0 * p = one ∙ ap (λ n. n * p) b in
        omega arith

-- ---- whether none is there
pub is_zero-members : (bits : ℕ) → ((nat_eq bits 0 ≡ true) → (k : ℕ) → has_bit bits k ≡ false) × (((k : ℕ) → has_bit bits k ≡ false) → nat_eq bits 0 ≡ true)
is_zero-members bits = (
  (λ e k. ap (λ n. has_bit n k) (eqb-true bits 0 e) ∙ has_bit-zero k),
  (λ none. eq-eqb bits 0 (zero_from_none bits none)),
)

-- ---- the least in both
pub in_both-and : (a b k : ℕ) → in_both a b k ≡ has_bit (bit_and a b) k
in_both-and a b k = at (has_bit a k) (has_bit b k) refl refl
  where
    at : (x y : Bool) → has_bit a k ≡ x → has_bit b k ≡ y → (x && y) ≡ has_bit (bit_and a b) k
    at true true p q = sym (has_bit-one _ k (bit_at_and a b k ∙ rw (bit_at-true a k p, bit_at-true b k q) refl))
    at true false p q = sym (has_bit-none _ k (bit_at_and a b k ∙ rw (bit_at-true a k p, bit_at-false b k q) refl))
    at false true p q = sym (has_bit-none _ k (bit_at_and a b k ∙ rw (bit_at-false a k p, bit_at-true b k q) refl))
    at false false p q = sym (has_bit-none _ k (bit_at_and a b k ∙ rw (bit_at-false a k p, bit_at-false b k q) refl))

pub least-none : (a b : ℕ) → bit_and a b ≡ 0 → IsLeast (in_both a b) None
least-none a b e k = in_both-and a b k ∙ ap (λ n. has_bit n k) e ∙ has_bit-zero k

pub least-some : (a b : ℕ) → a < 2 ^ 56 → 0 < bit_and a b → IsLeast (in_both a b) (Some (trailing_zeros w64 (bit_and a b)))
least-some a b bound some =
    let fits : bit_and a b ≤ a = and_le_l a b in
    let tz = bit_at-trailing_zeros w64 (bit_and a b) some (omega arith) in (
      in_both-and a b _ ∙ has_bit-one _ _ tz.1,
      (λ k l. in_both-and a b k ∙ has_bit-none _ k (tz.2 k l)),
    )

-- there is at most one least
pub least-one : (has : ℕ → Bool) (r s : Option ℕ) → IsLeast has r → IsLeast has s → r ≡ s
least-one has None None p q = refl
least-one has None (Some y) p q = absurd (false≢true (sym (p y) ∙ q.0))
least-one has (Some x) None p q = absurd (false≢true (sym (q x) ∙ p.0))
least-one has (Some x) (Some y) p q = ap Some (at (cases_lt x y) (cases_lt y x))
  where
    at : (x < y) ⊎ (y ≤ x) → (y < x) ⊎ (x ≤ y) → x ≡ y
    at (inl l) _ = absurd (false≢true (sym (q.1 x l) ∙ p.0))
    at (inr l) (inl u) = absurd (false≢true (sym (p.1 y u) ∙ q.0))
    at (inr l) (inr u) = omega arith

pub first_of_both : (a b : Bool) → (a && b) ≡ true → a ≡ true
first_of_both true b e = refl
first_of_both false b e = e

-- the least of both is an index
pub least-within : (a b x : ℕ) → a < 2 ^ 56 → in_both a b x ≡ true → x < 56
least-within a b x bound e = has_bit-below a 56 x bound (first_of_both (has_bit a x) (has_bit b x) e)

-- the least of a set in itself is its least
pub least-alone : (a : ℕ) (r : Option ℕ) → IsLeast (in_both a a) r → IsLeast (has_bit a) r
least-alone a None none = λ k. sym (and_self (has_bit a k)) ∙ none k
least-alone a (Some x) least = (sym (and_self (has_bit a x)) ∙ least.0, λ k l. sym (and_self (has_bit a k)) ∙ least.1 k l)

-- ---- the least from an index on
bit_at-shr : (n k i : ℕ) → bit_at (n / 2 ^ k) i ≡ bit_at n (k + i)
bit_at-shr n k i = ap (λ x. x % 2) (shr-shr n k i)

bit_at-past : (n k i : ℕ) → k ≤ i → bit_at n i ≡ bit_at (n / 2 ^ k) (i - k)
bit_at-past n k i l =
    let same : k + (i - k) ≡ i = omega arith in
    ap (bit_at n) (sym same) ∙ sym (bit_at-shr n k (i - k))

pub from-none : (bits from : ℕ) → bits / 2 ^ from ≡ 0 → IsLeast (has_from from bits) None
from-none bits from e k = at (cases_lt k from)
  where
    at : (k < from) ⊎ (from ≤ k) → has_from from bits k ≡ false
    at (inl l) = rw (lt-leb from k l) refl
    at (inr u) = rw (le-leb from k u) (has_bit-none bits k (bit_at-past bits from k u ∙ ap (λ n. bit_at n (k - from)) e ∙ bit_at-zero (k - from)))

pub from-some : (bits from : ℕ) → bits < 2 ^ 56 → 0 < bits / 2 ^ from → IsLeast (has_from from bits) (Some (from + trailing_zeros w64 (bits / 2 ^ from)))
from-some bits from bound some =
    let fits : bits / 2 ^ from ≤ bits = shr_le bits from in
    let tz = bit_at-trailing_zeros w64 (bits / 2 ^ from) some (omega arith) in
    let z : ℕ = trailing_zeros w64 (bits / 2 ^ from) in (
      rw (le-leb from (from + z) (omega arith)) (has_bit-one bits _ (sym (bit_at-shr bits from z) ∙ tz.1)),
      (λ k l. at k l (cases_lt k from)),
    )
  where
    at : (k : ℕ) → k < from + trailing_zeros w64 (bits / 2 ^ from) → (k < from) ⊎ (from ≤ k) → has_from from bits k ≡ false
    at k l (inl u) = rw (lt-leb from k u) refl
    at k l (inr u) =
        let fits : bits / 2 ^ from ≤ bits = shr_le bits from in
        let tz = bit_at-trailing_zeros w64 (bits / 2 ^ from) some (omega arith) in
        rw (le-leb from k u) (has_bit-none bits k (bit_at-past bits from k u ∙ tz.2 (k - from) (omega arith)))

-- ---- the members of both sets, and of either
pub both_members : (a b k : ℕ) → has_bit (bit_and a b) k ≡ (has_bit a k && has_bit b k)
both_members a b k = sym (in_both-and a b k)

pub either_members : (a b k : ℕ) → has_bit (bit_or a b) k ≡ (has_bit a k || has_bit b k)
either_members a b k = at (has_bit a k) (has_bit b k) refl refl
  where
    at : (x y : Bool) → has_bit a k ≡ x → has_bit b k ≡ y → has_bit (bit_or a b) k ≡ (x || y)
    at true true p q = has_bit-one _ k (bit_at_or a b k ∙ rw (bit_at-true a k p, bit_at-true b k q) refl)
    at true false p q = has_bit-one _ k (bit_at_or a b k ∙ rw (bit_at-true a k p, bit_at-false b k q) refl)
    at false true p q = has_bit-one _ k (bit_at_or a b k ∙ rw (bit_at-false a k p, bit_at-true b k q) refl)
    at false false p q = has_bit-none _ k (bit_at_or a b k ∙ rw (bit_at-false a k p, bit_at-false b k q) refl)

-- ---- less another set
and_members : (a b k : ℕ) → has_bit (bit_and a b) k ≡ (has_bit b k && has_bit a k)
and_members a b k = sym (in_both-and b a k ∙ ap (λ n. has_bit n k) (and_comm b a))

pub less_members : (bits other k : ℕ) → bits < 2 ^ 56 → other < 2 ^ 56 → has_bit (bit_and bits (2 ^ 64 - 1 - other)) k ≡ (not (has_bit other k) && has_bit bits k)
less_members bits other k bound fits = and_members bits (2 ^ 64 - 1 - other) k ∙ at (cases_lt k 56)
  where
    turned : k < 56 → (b : Bool) → has_bit other k ≡ b → has_bit (2 ^ 64 - 1 - other) k ≡ not b
    turned l true e = has_bit-none _ k (bit_at_not w64 other k (omega arith) (omega arith) ∙ ap (λ n. 1 - n) (bit_at-true other k e))
    turned l false e = has_bit-one _ k (bit_at_not w64 other k (omega arith) (omega arith) ∙ ap (λ n. 1 - n) (bit_at-false other k e))

    and_false : (b : Bool) → (b && false) ≡ false
    and_false true = refl
    and_false false = refl

    at : (k < 56) ⊎ (56 ≤ k) → (has_bit (2 ^ 64 - 1 - other) k && has_bit bits k) ≡ (not (has_bit other k) && has_bit bits k)
    at (inl l) = ap (λ b. b && has_bit bits k) (turned l (has_bit other k) refl)
    at (inr u) =
        let none : has_bit bits k ≡ false = has_bit-above bits 56 k bound u in
        ap (λ b. has_bit (2 ^ 64 - 1 - other) k && b) none ∙ and_false _ ∙ sym (and_false _) ∙ ap (λ b. not (has_bit other k) && b) (sym none)

-- ---- the members from an index on
pub part_members : (bits from count k : ℕ) → count ≤ 56 → has_bit (bit_and (bits / 2 ^ from) (1 * 2 ^ count % 2 ^ 64 - 1)) k ≡ (nat_lt k count && has_bit bits (from + k))
part_members bits from count k l =
    rw (one_shl count 64 (omega arith))
    (and_members (bits / 2 ^ from) (2 ^ count - 1) k ∙ ap (λ b. has_bit (2 ^ count - 1) k && b) (ap (λ n. nat_eq n 1) (bit_at-shr bits from k)) ∙ ap (λ b. b && has_bit bits (from + k)) (at (cases_lt k count)))
  where
    at : (k < count) ⊎ (count ≤ k) → has_bit (2 ^ count - 1) k ≡ nat_lt k count
    at (inl u) = has_bit-one _ k (bit_at_ones count k u) ∙ sym (lt-ltb k count u)
    at (inr u) = has_bit-none _ k (bit_at_ones_above count k u) ∙ sym (le-ltb k count u)

-- ---- the members no less than an index
pub ones_fit : (index : ℕ) → index ≤ 56 → 2 ^ index - 1 < 2 ^ 56
ones_fit index l = let some : 2 ^ index ≤ 2 ^ 56 = pow-le-pow_right (omega arith) l in omega arith

pub from_members : (bits index k : ℕ) → bits < 2 ^ 56 → index ≤ 56 → has_bit (bit_and bits (bit_not w64 (1 * 2 ^ index % 2 ^ 64 - 1))) k ≡ has_from index bits k
from_members bits index k bound l =
    rw (one_shl index 64 (omega arith))
    (less_members bits (2 ^ index - 1) k bound (ones_fit index l) ∙ ap (λ b. b && has_bit bits k) (at (cases_lt k index)))
  where
    at : (k < index) ⊎ (index ≤ k) → not (has_bit (2 ^ index - 1) k) ≡ nat_le index k
    at (inl u) = ap not (has_bit-one _ k (bit_at_ones index k u)) ∙ sym (lt-leb index k u)
    at (inr u) = ap not (has_bit-none _ k (bit_at_ones_above index k u)) ∙ sym (le-leb index k u)

-- ---- members that are moved up
raised_members : (a to k : ℕ) → has_bit (a * 2 ^ to) k ≡ (nat_le to k && has_bit a (k - to))
raised_members a to k = at (cases_lt k to)
  where
    whole : a * 2 ^ to + 0 ≡ a * 2 ^ to
    whole = omega arith

    at : (k < to) ⊎ (to ≤ k) → has_bit (a * 2 ^ to) k ≡ (nat_le to k && has_bit a (k - to))
    at (inl l) = rw (lt-leb to k l) (has_bit-none _ k (ap (λ n. bit_at n k) (sym whole) ∙ bit_at_cat_low a to 0 k l ∙ bit_at-zero k))
    at (inr u) = rw (le-leb to k u) (ap (λ n. nat_eq n 1) (ap (λ n. bit_at n k) (sym whole) ∙ bit_at_cat_high a to 0 k (pow_pos to) u))

-- the count is one of indices that are moved as far
moved_count : (to count k : ℕ) (x : Bool) → (nat_le to k && (nat_lt (k - to) count && x)) ≡ (nat_le to k && nat_lt k (to + count) && x)
moved_count to count k x = at (cases_lt k to) (cases_lt k (to + count))
  where
    at : (k < to) ⊎ (to ≤ k) → (k < to + count) ⊎ (to + count ≤ k) → (nat_le to k && (nat_lt (k - to) count && x)) ≡ (nat_le to k && nat_lt k (to + count) && x)
    at (inl l) _ = rw (lt-leb to k l) refl
    at (inr u) (inl l) = rw (le-leb to k u, lt-ltb (k - to) count (omega (arith, u, l)), lt-ltb k (to + count) l) refl
    at (inr u) (inr m) = rw (le-leb to k u, le-ltb (k - to) count (omega (arith, u, m)), le-ltb k (to + count) m) refl

part_below : (bits from count : ℕ) → count ≤ 56 → bit_and (bits / 2 ^ from) (1 * 2 ^ count % 2 ^ 64 - 1) < 2 ^ count
part_below bits from count l = rw (one_shl count 64 (omega arith)) (omega (arith, and_le_r (bits / 2 ^ from) (2 ^ count - 1), pow_pos count))

pub moved_members : (bits from count to k : ℕ) → to + count ≤ 56
    → has_bit (bit_and (bits / 2 ^ from) (1 * 2 ^ count % 2 ^ 64 - 1) * 2 ^ to % 2 ^ 64) k ≡ (nat_le to k && nat_lt k (to + count) && has_bit bits (from + (k - to)))
moved_members bits from count to k l =
    let few : count ≤ 56 = omega (arith, l) in
    rw (shl_whole (bit_and (bits / 2 ^ from) (1 * 2 ^ count % 2 ^ 64 - 1)) count to 64 (part_below bits from count few) (omega (arith, l)))
    (raised_members _ to k ∙ ap (λ b. nat_le to k && b) (part_members bits from count (k - to) few) ∙ moved_count to count k (has_bit bits (from + (k - to))))

pub moved_fits : (bits from count to : ℕ) → to + count ≤ 56 → bit_and (bits / 2 ^ from) (1 * 2 ^ count % 2 ^ 64 - 1) * 2 ^ to % 2 ^ 64 < 2 ^ 56
moved_fits bits from count to l =
    let a = bit_and (bits / 2 ^ from) (1 * 2 ^ count % 2 ^ 64 - 1) in
    let below : a < 2 ^ count = part_below bits from count (omega (arith, l)) in
    let least : count + to ≤ 56 = omega (arith, l) in
    let some : 2 ^ (count + to) ≤ 2 ^ 56 = pow-le-pow_right (omega arith) least in
    let moved : a * 2 ^ to < 2 ^ (count + to) = shl_below a count to below in
    rw (shl_whole a count to 64 below (omega (arith, l))) (omega (arith, some, moved))

pub span_members : (from count k : ℕ) → from + count ≤ 56 → has_bit ((1 * 2 ^ count % 2 ^ 64 - 1) * 2 ^ from % 2 ^ 64) k ≡ (nat_le from k && nat_lt k (from + count))
span_members from count k l =
    let few : 2 ^ count - 1 < 2 ^ count = omega (arith, pow_pos count) in
    rw (one_shl count 64 (omega (arith, l)))
    (rw (shl_whole (2 ^ count - 1) count from 64 few (omega (arith, l))) (raised_members (2 ^ count - 1) from k ∙ at (cases_lt k from) (cases_lt k (from + count))))
  where
    at : (k < from) ⊎ (from ≤ k) → (k < from + count) ⊎ (from + count ≤ k) → (nat_le from k && has_bit (2 ^ count - 1) (k - from)) ≡ (nat_le from k && nat_lt k (from + count))
    at (inl l) _ = rw (lt-leb from k l) refl
    at (inr u) (inl l) = rw (lt-ltb k (from + count) l, has_bit-one _ _ (bit_at_ones count (k - from) (omega (arith, u, l)))) refl
    at (inr u) (inr m) = rw (le-ltb k (from + count) m, has_bit-none _ _ (bit_at_ones_above count (k - from) (omega (arith, u, m)))) refl

pub span_fits : (from count : ℕ) → from + count ≤ 56 → (1 * 2 ^ count % 2 ^ 64 - 1) * 2 ^ from % 2 ^ 64 < 2 ^ 56
span_fits from count l =
    let few : 2 ^ count - 1 < 2 ^ count = omega (arith, pow_pos count) in
    let least : count + from ≤ 56 = omega (arith, l) in
    let some : 2 ^ (count + from) ≤ 2 ^ 56 = pow-le-pow_right (omega arith) least in
    let moved : (2 ^ count - 1) * 2 ^ from < 2 ^ (count + from) = shl_below (2 ^ count - 1) count from few in
    rw (one_shl count 64 (omega (arith, l))) (rw (shl_whole (2 ^ count - 1) count from 64 few (omega (arith, l))) (omega (arith, some, moved)))
