-- Sets of channels that stand further on.
use Rattle.std.proofs.Common.{◌≡◌, ◌≢◌, ℕ, ◌+◌, ◌-◌, ◌^◌, ◌<◌, ◌≤◌, false, Some, arith, ap, ap₂, sym, ◌∙◌, inl, inr, bit_or}
use Rattle.std.specs.Prelude.{◌⊎◌, ◌||◌, nat_eq}
use Rattle.noc_packet.specs.Set.{IsLeast}
use Rattle.noc_sets.specs.Sets.{least}
use Rattle.noc_sets.proofs.MemberLemmas.{least_is, lowest_members, zero_members}
use Rattle.noc_cycles.proofs.Common.{cases_eq, cases_lt, eq-eqb, ne_eqb, has_bit, either_members, has_bit-zero, zero_from_none, lowest, up_by, same-word, up_members, up_none}

pub up-at : (b n v : ℕ) → has_bit (up_by b n) (n + v) ≡ has_bit b v
up-at b n v = up_members b n (n + v) (omega arith) ∙ (let e : n + v - n ≡ v = omega arith in ap (has_bit b) e)

-- a set with these members behind n and none before
pub up-is : (a b n : ℕ) → ((v : ℕ) → has_bit a (n + v) ≡ has_bit b v) → ((k : ℕ) → k < n → has_bit a k ≡ false) → a ≡ up_by b n
up-is a b n behind before = same-word a (up_by b n) (λ k. at k (cases_lt k n))
  where
    at : (k : ℕ) → (k < n) ⊎ (n ≤ k) → has_bit a k ≡ has_bit (up_by b n) k
    at k (inl l) = before k l ∙ sym (up_none b n k l)
    at k (inr m) =
        let e : k ≡ n + (k - n) = omega (arith, m) in
        ap (has_bit a) e ∙ behind (k - n) ∙ sym (up_members b n k m)

pub up-or : (a b n : ℕ) → bit_or (up_by a n) (up_by b n) ≡ up_by (bit_or a b) n
up-or a b n =
    up-is (bit_or (up_by a n) (up_by b n)) (bit_or a b) n
    (λ v. either_members (up_by a n) (up_by b n) (n + v) ∙ ap₂ (λ x y. x || y) (up-at a n v) (up-at b n v) ∙ sym (either_members a b v))
    (λ k l. either_members (up_by a n) (up_by b n) k ∙ ap₂ (λ x y. x || y) (up_none a n k l) (up_none b n k l))

pub up-zero : (n : ℕ) → up_by 0 n ≡ 0
up-zero n = omega arith

pub up-some : (a n : ℕ) → nat_eq (up_by a n) 0 ≡ nat_eq a 0
up-some a n = elim (cases_eq a 0) [
  | inl none ↦ eq-eqb (up_by a n) 0 (ap (λ x. up_by x n) none ∙ up-zero n) ∙ sym (eq-eqb a 0 none)
  | inr some ↦ ne_eqb (up_by a n) 0 (λ e. some (zero_from_none a (λ v. sym (up-at a n v) ∙ ap (λ w. has_bit w (n + v)) e ∙ has_bit-zero (n + v)))) ∙ sym (ne_eqb a 0 some)
]

-- the least member moves along
pub up-lowest : (a n : ℕ) → a < 2 ^ 64 → lowest (up_by a n) ≡ up_by (lowest a) n
up-lowest a n fits = at (cases_eq a 0)
  where
    moved : (v t : ℕ) → nat_eq (n + v) (n + t) ≡ nat_eq v t
    moved v t = elim (cases_eq v t) [
      | inl same ↦ eq-eqb (n + v) (n + t) (ap (λ x. n + x) same) ∙ sym (eq-eqb v t same)
      | inr other ↦ ne_eqb (n + v) (n + t) (λ e. other (omega (arith, e))) ∙ sym (ne_eqb v t other)
    ]

    none : lowest 0 ≡ 0
    none = zero_from_none (lowest 0) zero_members

    at : (a ≡ 0) ⊎ (a ≢ 0) → lowest (up_by a n) ≡ up_by (lowest a) n
    at (inl zero) = ap (λ x. lowest (up_by x n)) zero ∙ ap lowest (up-zero n) ∙ none ∙ sym (ap (λ x. up_by (lowest x) n) zero ∙ ap (λ x. up_by x n) none ∙ up-zero n)
    at (inr some) =
        let t = least a in
        let is : IsLeast (has_bit a) (Some (least a)) = least_is a (omega (arith, some)) fits in
        let also : IsLeast (has_bit (up_by a n)) (Some (n + least a)) = (up-at a n t ∙ is.0, λ k l. before k l is (cases_lt k n)) in
        up-is (lowest (up_by a n)) (lowest a) n (λ v. lowest_members (up_by a n) (n + t) (n + v) also ∙ moved v t ∙ sym (lowest_members a t v is))
        (λ k l. lowest_members (up_by a n) (n + t) k also ∙ ne_eqb k (n + t) (omega (arith, l)))
      where
        before : (k : ℕ) → k < n + least a → IsLeast (has_bit a) (Some (least a)) → (k < n) ⊎ (n ≤ k) → has_bit (up_by a n) k ≡ false
        before k l is (inl m) = up_none a n k m
        before k l is (inr m) = up_members a n k m ∙ is.1 (k - n) (omega (arith, l, m))
