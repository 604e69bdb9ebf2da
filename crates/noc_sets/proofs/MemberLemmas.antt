-- What operations on words say of the members of the sets that these are.
use Rattle.std.proofs.Common.{◌≡◌, ◌≢◌, ℕ, suc, ◌+◌, ◌-◌, ◌*◌, ◌/◌, ◌%◌, ◌^◌, ◌<◌, ◌≤◌, Bool, true, false, Some, refl, ap, ap₂, sym, ◌∙◌, arith, inl, inr, bit_and, bit_or, bit_xor}
use Rattle.std.specs.Prelude.{nat_eq, nat_lt, ◌⊎◌, ◌&&◌, ◌||◌, not, if◌then◌else◌}
use Rattle.std.specs.Int.{bit_at, w64}
use Rattle.std.proofs.lemmas.Bool.{eq-eqb, ne_eqb, cases_eq, cases_lt, false≢true, true≢false, lt-ltb, le-ltb}
use Rattle.std.proofs.lemmas.Nat.{or_lt, xor_lt, shr-shr, and_le_l, le_or_l, le_or_r, shr_split, pow_pos, mod_below}
use Rattle.std.proofs.lemmas.Nat.Bits.{bit_at-zero, bit_at_xor, bit_at_above, same_from_bits, bit_at-trailing_zeros, bit_at_ones, bit_at_ones_above, bit_at-pow_same, bit_at-pow_other, bit_at_cat_low, bit_at_cat_high, bit_at-suc}
use Rattle.noc_packet.specs.Set.{has_bit, IsLeast}
use Rattle.noc_packet.proofs.SetLemmas.{has_bit-one, has_bit-none, bit_at-true, bit_at-false, has_bit-above, has_bit-zero, both_members, either_members}
use Rattle.noc_alloc.specs.Members.{MembersAreBelow}
use Rattle.noc_sets.specs.Sets.{differ, less, up_by, down_by, least, lowest}

pub xor_members : (a b k : ℕ) → has_bit (bit_xor a b) k ≡ differ (has_bit a k) (has_bit b k)
xor_members a b k = at (has_bit a k) (has_bit b k) refl refl
  where
    at : (x y : Bool) → has_bit a k ≡ x → has_bit b k ≡ y → has_bit (bit_xor a b) k ≡ differ x y
    at true true p q = has_bit-none _ k (omega (arith, bit_at_xor a b k, bit_at-true a k p, bit_at-true b k q))
    at true false p q = has_bit-one _ k (omega (arith, bit_at_xor a b k, bit_at-true a k p, bit_at-false b k q))
    at false true p q = has_bit-one _ k (omega (arith, bit_at_xor a b k, bit_at-false a k p, bit_at-true b k q))
    at false false p q = has_bit-none _ k (omega (arith, bit_at_xor a b k, bit_at-false a k p, bit_at-false b k q))

-- ---- words of so many bits
pub and_fits : (a b : ℕ) → a < 2 ^ 64 → bit_and a b < 2 ^ 64
and_fits a b fits = omega (arith, and_le_l a b)

pub or_fits : (a b : ℕ) → a < 2 ^ 64 → b < 2 ^ 64 → bit_or a b < 2 ^ 64
or_fits a b = or_lt 64 a b

pub xor_fits : (a b : ℕ) → a < 2 ^ 64 → b < 2 ^ 64 → bit_xor a b < 2 ^ 64
xor_fits a b = xor_lt 64 a b

pub less_fits : (a b : ℕ) → a < 2 ^ 64 → less a b < 2 ^ 64
less_fits a b fits = xor_fits a (bit_and a b) fits (and_fits a b fits)

pub lowest_fits : (a : ℕ) → a < 2 ^ 64 → lowest a < 2 ^ 64
lowest_fits a fits = less_fits a (a - 1) fits

pub above_64 : (a k : ℕ) → a < 2 ^ 64 → 64 ≤ k → has_bit a k ≡ false
above_64 a k fits l = has_bit-above a 64 k fits l

-- ---- one set without another
pub less_members : (a b k : ℕ) → has_bit (less a b) k ≡ (has_bit a k && not (has_bit b k))
less_members a b k = xor_members a (bit_and a b) k ∙ ap (differ (has_bit a k)) (both_members a b k) ∙ at (has_bit a k) (has_bit b k)
  where
    at : (x y : Bool) → differ x (x && y) ≡ (x && not y)
    at true y = refl
    at false y = refl

-- ---- shifts
mod_members : (a k n : ℕ) → k < n → bit_at (a % 2 ^ n) k ≡ bit_at a k
mod_members a k n l = sym (bit_at_cat_low (a / 2 ^ n) n (a % 2 ^ n) k l) ∙ ap (λ x. bit_at x k) (shr_split a n)

pub down_members : (a n k : ℕ) → has_bit (down_by a n) k ≡ has_bit a (n + k)
down_members a n k = has_bit-at (shr-shr a n k)
  where
    has_bit-at : {x y : ℕ} → x ≡ y → nat_eq (x % 2) 1 ≡ nat_eq (y % 2) 1
    has_bit-at e = ap (λ m. nat_eq (m % 2) 1) e

-- a member is n higher
pub up_members : (a n k : ℕ) → n ≤ k → has_bit (up_by a n) k ≡ has_bit a (k - n)
up_members a n k l =
    ap (λ m. nat_eq m 1)
    (ap (λ x. bit_at x k) (let e : a * 2 ^ n ≡ a * 2 ^ n + 0 = omega arith in e)
    ∙ bit_at_cat_high a n 0 k (pow_pos n) l)

pub up_none : (a n k : ℕ) → k < n → has_bit (up_by a n) k ≡ false
up_none a n k l =
    has_bit-none _ k
    (ap (λ x. bit_at x k) (let e : a * 2 ^ n ≡ a * 2 ^ n + 0 = omega arith in e)
    ∙ bit_at_cat_low a n 0 k l ∙ bit_at-zero k)

-- ---- the number before
pub pred_members : (x t c : ℕ) → IsLeast (has_bit x) (Some t) → has_bit (x - 1) c ≡ (if nat_lt c t then true else if nat_eq c t then false else has_bit x c)
pred_members x t c least = at (cases_lt c t) (cases_eq c t)
  where
    -- x is (2h + 1) << t
    low : x % 2 ^ t ≡ 0
    low = same_from_bits (x % 2 ^ t) 0 (λ k. bits k (cases_lt k t))
      where
        bits : (k : ℕ) → (k < t) ⊎ (t ≤ k) → bit_at (x % 2 ^ t) k ≡ bit_at 0 k
        bits k (inl l) = mod_members x k t l ∙ bit_at-false x k (least.1 k l) ∙ sym (bit_at-zero k)
        bits k (inr u) = bit_at_above (x % 2 ^ t) t k (mod_below x (2 ^ t) (pow_pos t)) u ∙ sym (bit_at-zero k)

    odd : bit_at x t ≡ 1
    odd = bit_at-true x t least.0

    split : x - 1 ≡ (x / 2 ^ t - 1) * 2 ^ t + (2 ^ t - 1)
    split =
        let some : 0 < x / 2 ^ t = omega (arith, odd) in
        let one : (x / 2 ^ t - 1) + 1 ≡ x / 2 ^ t = omega arith in
        let whole : x / 2 ^ t * 2 ^ t + x % 2 ^ t ≡ x = shr_split x t in
        let more : (x / 2 ^ t - 1 + 1) * 2 ^ t ≡ (x / 2 ^ t - 1) * 2 ^ t + 2 ^ t = more-times (x / 2 ^ t - 1) (2 ^ t) in
        let same : (x / 2 ^ t - 1 + 1) * 2 ^ t ≡ x / 2 ^ t * 2 ^ t = ap (λ m. m * 2 ^ t) one in
        omega (arith, low, pow_pos t)
      where
        more-times : (m p : ℕ) → (m + 1) * p ≡ m * p + p
        more-times m p = omega arith

    at : (c < t) ⊎ (t ≤ c) → (c ≡ t) ⊎ (c ≡ t → ⊥) → has_bit (x - 1) c ≡ (if nat_lt c t then true else if nat_eq c t then false else has_bit x c)
    at (inl l) _ =
        rw (lt-ltb c t l)
        (has_bit-one _ c (ap (λ n. bit_at n c) split ∙ bit_at_cat_low (x / 2 ^ t - 1) t (2 ^ t - 1) c l ∙ bit_at_ones t c l))
    at (inr u) (inl same) =
        rw (le-ltb c t u, eq-eqb c t same)
        (has_bit-none _ c (ap (λ n. bit_at n c) split ∙ bit_at_cat_high (x / 2 ^ t - 1) t (2 ^ t - 1) c (omega (arith, pow_pos t)) u ∙ here same))
      where
        here : c ≡ t → bit_at (x / 2 ^ t - 1) (c - t) ≡ 0
        here same =
            let e : c - t ≡ 0 = omega arith in
            ap (bit_at (x / 2 ^ t - 1)) e ∙ omega (arith, odd)
    at (inr u) (inr other) =
        rw (le-ltb c t u, ne_eqb c t other)
        (ap (λ m. nat_eq m 1)
        (ap (λ n. bit_at n c) split ∙ bit_at_cat_high (x / 2 ^ t - 1) t (2 ^ t - 1) c (omega (arith, pow_pos t)) u ∙ there))
      where
        there : bit_at (x / 2 ^ t - 1) (c - t) ≡ bit_at x c
        there =
            let e : c - t ≡ suc (c - t - 1) = omega arith in
            let f : c ≡ t + (c - t) = omega arith in
            let half : (x / 2 ^ t - 1) / 2 ≡ x / 2 ^ t / 2 = omega (arith, odd) in
            ap (bit_at (x / 2 ^ t - 1)) e ∙ bit_at-suc (x / 2 ^ t - 1) (c - t - 1) ∙ ap (λ n. bit_at n (c - t - 1)) half
            ∙ sym (bit_at-suc (x / 2 ^ t) (c - t - 1)) ∙ ap (bit_at (x / 2 ^ t)) (sym e)
            ∙ ap (λ n. n % 2) (shr-shr x t (c - t)) ∙ ap (bit_at x) (sym f)

-- ---- the least member
pub least_is : (a : ℕ) → 0 < a → a < 2 ^ 64 → IsLeast (has_bit a) (Some (least a))
least_is a some fits =
    let tz = bit_at-trailing_zeros w64 a some fits in
    (has_bit-one a _ tz.1, λ k l. has_bit-none a k (tz.2 k l))

pub least_below : (a : ℕ) → 0 < a → a < 2 ^ 64 → least a < 64
least_below a some fits = (bit_at-trailing_zeros w64 a some fits).0

pub lowest_members : (a t k : ℕ) → IsLeast (has_bit a) (Some t) → has_bit (lowest a) k ≡ nat_eq k t
lowest_members a t k least = at (cases_lt a 1)
  where
    both : (x : Bool) → has_bit a k ≡ x → (x && not (if nat_lt k t then true else if nat_eq k t then false else has_bit a k)) ≡ nat_eq k t
    both x e = split x e (cases_lt k t) (cases_eq k t)
      where
        split : (x : Bool) → has_bit a k ≡ x → (k < t) ⊎ (t ≤ k) → (k ≡ t) ⊎ (k ≡ t → ⊥) → (x && not (if nat_lt k t then true else if nat_eq k t then false else has_bit a k)) ≡ nat_eq k t
        split false e (inl l) _ = sym (ne_eqb k t (λ same. omega arith))
        split false e (inr u) (inl same) = absurd (false≢true (sym e ∙ ap (has_bit a) same ∙ least.0))
        split false e (inr u) (inr other) = sym (ne_eqb k t other)
        split true e (inl l) _ = absurd (false≢true (sym (least.1 k l) ∙ e))
        split true e (inr u) (inl same) = rw (le-ltb k t u, eq-eqb k t same) refl
        split true e (inr u) (inr other) = rw (le-ltb k t u, ne_eqb k t other, e) refl

    at : (a < 1) ⊎ (1 ≤ a) → has_bit (lowest a) k ≡ nat_eq k t
    at (inl none) =
        let z : a ≡ 0 = omega arith in
        absurd (false≢true (sym (ap (λ n. has_bit n t) z ∙ has_bit-zero t) ∙ least.0))
    at (inr some) = less_members a (a - 1) k ∙ ap (λ b. has_bit a k && not b) (pred_members a t k least) ∙ both (has_bit a k) refl

-- none is the least of none
pub zero_members : (k : ℕ) → has_bit (lowest 0) k ≡ false
zero_members k = less_members 0 (0 - 1) k ∙ ap (λ b. b && not (has_bit (0 - 1) k)) (has_bit-zero k)

-- a set of one member
pub power-members : (j k : ℕ) → has_bit (2 ^ j) k ≡ nat_eq k j
power-members j k = elim (cases_eq k j) [
  | inl same ↦ has_bit-one (2 ^ j) k (ap (bit_at (2 ^ j)) same ∙ bit_at-pow_same j) ∙ sym (eq-eqb k j same)
  | inr other ↦ has_bit-none (2 ^ j) k (bit_at-pow_other j k other) ∙ sym (ne_eqb k j other)
]

-- ---- words by their members
pub same-word : (a b : ℕ) → ((k : ℕ) → has_bit a k ≡ has_bit b k) → a ≡ b
same-word a b same = same_from_bits a b (λ k. at k (has_bit a k) refl)
  where
    at : (k : ℕ) (x : Bool) → has_bit a k ≡ x → bit_at a k ≡ bit_at b k
    at k true e = bit_at-true a k e ∙ sym (bit_at-true b k (sym (same k) ∙ e))
    at k false e = bit_at-false a k e ∙ sym (bit_at-false b k (sym (same k) ∙ e))

pub lowest-one : (a t : ℕ) → IsLeast (has_bit a) (Some t) → lowest a ≡ 2 ^ t
lowest-one a t least = same-word (lowest a) (2 ^ t) (λ k. lowest_members a t k least ∙ sym (power-members t k))

pub lowest-is : (a : ℕ) → 0 < a → a < 2 ^ 64 → lowest a ≡ 2 ^ least a
lowest-is a some fits = same-word (lowest a) (2 ^ least a) (λ k. lowest_members a (least a) k (least_is a some fits) ∙ sym (power-members (least a) k))

pub or-zero : (a : ℕ) → bit_or a 0 ≡ a
or-zero a = same-word (bit_or a 0) a (λ k. either_members a 0 k ∙ ap (λ b. has_bit a k || b) (has_bit-zero k) ∙ or-false (has_bit a k))
  where
    or-false : (b : Bool) → (b || false) ≡ b
    or-false true = refl
    or-false false = refl

pub either-zero : (a b : ℕ) → nat_eq (bit_or a b) 0 ≡ (nat_eq a 0 && nat_eq b 0)
either-zero a b = by (cases_eq a 0) (cases_eq b 0)
  where
    by : (a ≡ 0) ⊎ (a ≢ 0) → (b ≡ 0) ⊎ (b ≢ 0) → nat_eq (bit_or a b) 0 ≡ (nat_eq a 0 && nat_eq b 0)
    by (inl ea) (inl eb) = rw (ea, eb) refl
    by (inl ea) (inr nb) =
        let l : b ≤ bit_or a b = le_or_r a b in
        ne_eqb (bit_or a b) 0 (omega arith) ∙ sym (ap₂ (λ x y. x && y) (eq-eqb a 0 ea) (ne_eqb b 0 nb))
    by (inr na) b_case =
        let l : a ≤ bit_or a b = le_or_l a b in
        ne_eqb (bit_or a b) 0 (omega arith) ∙ sym (ap (λ x. x && nat_eq b 0) (ne_eqb a 0 na))

pub ones-members : (n k : ℕ) → has_bit (2 ^ n - 1) k ≡ nat_lt k n
ones-members n k = at (cases_lt k n)
  where
    at : (k < n) ⊎ (n ≤ k) → has_bit (2 ^ n - 1) k ≡ nat_lt k n
    at (inl l) = has_bit-one _ k (bit_at_ones n k l) ∙ sym (lt-ltb k n l)
    at (inr u) = has_bit-none _ k (bit_at_ones_above n k u) ∙ sym (le-ltb k n u)

pub eq-turned : (a b : ℕ) → nat_eq a b ≡ nat_eq b a
eq-turned a b = by (cases_eq a b)
  where
    by : (a ≡ b) ⊎ (a ≢ b) → nat_eq a b ≡ nat_eq b a
    by (inl e) = eq-eqb a b e ∙ sym (eq-eqb b a (sym e))
    by (inr o) = ne_eqb a b o ∙ sym (ne_eqb b a (λ e. o (sym e)))

pub or-left : (a b : Bool) → a ≡ true → (a || b) ≡ true
or-left a b e = ap (λ x. x || b) e

pub or-right : (a b : Bool) → b ≡ true → (a || b) ≡ true
or-right true b e = refl
or-right false b e = e

pub or-cases : (a b : Bool) → (a || b) ≡ true → (a ≡ true) ⊎ (b ≡ true)
or-cases true b e = inl refl
or-cases false b e = inr e

pub or-none : (a b : Bool) → (a || b) ≡ false → (a ≡ false) × (b ≡ false)
or-none true b e = absurd (true≢false e)
or-none false b e = (refl, e)

pub or-false : (b : Bool) → (b || false) ≡ b
or-false true = refl
or-false false = refl

pub or-true : (b : Bool) → (b || true) ≡ true
or-true true = refl
or-true false = refl

pub and-true : (b : Bool) → (b && true) ≡ b
and-true true = refl
and-true false = refl

pub and-false : (b : Bool) → (b && false) ≡ false
and-false true = refl
and-false false = refl

pub not-not : (b : Bool) → not (not b) ≡ b
not-not true = refl
not-not false = refl

-- a word with no member from n on
pub below_fits : (n word : ℕ) → MembersAreBelow n word → word < 2 ^ n
below_fits n word below =
    let same : word ≡ word % 2 ^ n = same_from_bits word (word % 2 ^ n) (λ k. at k (cases_lt k n)) in
    omega (arith, mod_below word (2 ^ n) (pow_pos n))
  where
    at : (k : ℕ) → (k < n) ⊎ (n ≤ k) → bit_at word k ≡ bit_at (word % 2 ^ n) k
    at k (inl l) = sym (mod_members word k n l)
    at k (inr u) = none (has_bit word k) refl ∙ sym (bit_at_above (word % 2 ^ n) n k (mod_below word (2 ^ n) (pow_pos n)) u)
      where
        none : (b : Bool) → has_bit word k ≡ b → bit_at word k ≡ 0
        none false e = bit_at-false word k e
        none true e = let l : k < n = below k e in absurd (omega arith)
