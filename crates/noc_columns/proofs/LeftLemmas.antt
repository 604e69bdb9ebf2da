-- How many flits are left of the packets that are injected.
use Rattle.std.proofs.Common.{◌≡◌, ℕ, suc, ◌+◌, ◌-◌, ◌*◌, ◌/◌, ◌%◌, ◌^◌, ◌<◌, ◌≤◌, Bool, true, false, List, [], ◌∷◌, length, arith, ap, sym, ◌∙◌, subst, refl, inl, inr, bit_xor, pow-suc}
use Rattle.std.specs.Prelude.{◌&&◌, not, nat_eq, nat_lt, if◌then◌else◌}
use Rattle.std.proofs.lemmas.Bool.{cases_eq, eq-eqb, le-ltb, lt-ltb, ne_eqb}
use Rattle.noc_topo.specs.Lists.{one_if}
use Rattle.noc_topo.proofs.ListLemmas.{one-small}
use Rattle.noc_packet.specs.Set.{has_bit}
use Rattle.noc_sets.specs.Planes.{any_from, borrow_of, lowered_by, plane_number}
use Rattle.noc_sets.specs.Sets.{differ, less}
use Rattle.noc_sets.proofs.MemberLemmas.{less_members, xor_members}
use Rattle.noc_sets.proofs.PlaneLemmas.{filled-members, lowered-length, number-small}

-- ---- one less for each router of a set
take-bits : (a b : Bool) → one_if (differ a b) + one_if b ≡ one_if a + 2 * one_if (b && not a)
take-bits true true = omega arith
take-bits true false = omega arith
take-bits false true = omega arith
take-bits false false = omega arith

lowered-is : (planes : List ℕ) (set x : ℕ) → plane_number (lowered_by planes set) x + one_if (has_bit set x) ≡ plane_number planes x + 2 ^ length planes * one_if (has_bit (borrow_of planes set) x)
lowered-is [] set x = omega arith
lowered-is (plane ∷ planes) set x =
    let rest = lowered-is planes (less set plane) x in
    let low : one_if (has_bit (bit_xor plane set) x) + one_if (has_bit set x) ≡ one_if (has_bit plane x) + 2 * one_if (has_bit (less set plane) x) =
    rw (xor_members plane set x, less_members set plane x) (take-bits (has_bit plane x) (has_bit set x)) in
    twice (2 ^ length planes) (2 ^ suc (length planes)) (one_if (has_bit (borrow_of planes (less set plane)) x)) _ _ _ _ _ _ (pow-suc 2 (length planes)) rest low
  where
    twice : (p q c low new b old plane set : ℕ) → q ≡ p * 2 → new + b ≡ old + p * c → low + set ≡ plane + 2 * b → low + 2 * new + set ≡ plane + 2 * old + q * c
    twice p q c low new b old plane set e r l =
        let m : q * c ≡ 2 * (p * c) = ap (λ z. z * c) e ∙ omega arith in omega arith

-- where there is one
lowered-by-one : (planes : List ℕ) (set x : ℕ) → one_if (has_bit set x) ≤ plane_number planes x → plane_number (lowered_by planes set) x + one_if (has_bit set x) ≡ plane_number planes x
lowered-by-one planes set x some = at (has_bit (borrow_of planes set) x) (lowered-is planes set x)
  where
    at : (b : Bool) → plane_number (lowered_by planes set) x + one_if (has_bit set x) ≡ plane_number planes x + 2 ^ length planes * one_if b
        → plane_number (lowered_by planes set) x + one_if (has_bit set x) ≡ plane_number planes x
    at true h =
        let l : plane_number (lowered_by planes set) x < 2 ^ length planes = subst (λ n. plane_number (lowered_by planes set) x < 2 ^ n) (lowered-length planes set) (number-small (lowered_by planes set) x) in
        absurd (omega (arith, h, l, number-small planes x, some, one-small (has_bit set x)))
    at false h = omega (arith, h)

module _ (planes new : List ℕ) (went r : ℕ) (is : new ≡ lowered_by planes went) (some : has_bit went r ≡ true → 0 < plane_number planes r) where
  pub sent-number : plane_number new r ≡ (if has_bit went r then plane_number planes r - 1 else plane_number planes r)
  sent-number = ap (λ p. plane_number p r) is ∙ at (has_bit went r) refl
    where
      at : (b : Bool) → has_bit went r ≡ b → plane_number (lowered_by planes went) r ≡ (if b then plane_number planes r - 1 else plane_number planes r)
      at true e =
          let one : one_if (has_bit went r) ≡ 1 = ap one_if e in
          let more = some e in
          let all = lowered-by-one planes went r (omega (arith, one, more)) in
          omega (arith, all, one)
      at false e =
          let none : one_if (has_bit went r) ≡ 0 = ap one_if e in
          let all = lowered-by-one planes went r (omega (arith, none)) in
          omega (arith, all, none)

  pub last-number : has_bit (less went (any_from 0 new)) r ≡ (has_bit went r && nat_eq (plane_number planes r) 1)
  last-number = less_members went (any_from 0 new) r ∙ ap (λ b. has_bit went r && not b) (filled-members new r) ∙ at (has_bit went r) refl
    where
      only : (m n : ℕ) → 0 < m → n ≡ m - 1 → not (nat_lt 0 n) ≡ nat_eq m 1
      only m n more e = elim (cases_eq m 1) [
        | inl same ↦ ap not (le-ltb 0 n (omega (arith, same, e))) ∙ sym (eq-eqb m 1 same)
        | inr other ↦ ap not (lt-ltb 0 n (omega (arith, other, more, e))) ∙ sym (ne_eqb m 1 other)
      ]

      at : (b : Bool) → has_bit went r ≡ b → (b && not (nat_lt 0 (plane_number new r))) ≡ (b && nat_eq (plane_number planes r) 1)
      at true e = only (plane_number planes r) (plane_number new r) (some e) (sent-number ∙ ap (λ b. if b then plane_number planes r - 1 else plane_number planes r) e)
      at false e = refl

-- ---- a number by its bits
abbrev pub six : Bool → Bool → Bool → Bool → Bool → Bool → ℕ
six a b c d e f = one_if a + 2 * (one_if b + 2 * (one_if c + 2 * (one_if d + 2 * (one_if e + 2 * (one_if f + 2 * 0)))))

six-of : (n : ℕ) → n < 64
    → six (nat_eq (n % 2) 1) (nat_eq (n / 2 % 2) 1) (nat_eq (n / 2 / 2 % 2) 1) (nat_eq (n / 2 / 2 / 2 % 2) 1) (nat_eq (n / 2 / 2 / 2 / 2 % 2) 1) (nat_eq (n / 2 / 2 / 2 / 2 / 2 % 2) 1) ≡ n
six-of n few = omega (arith, few, odd n, odd (n / 2), odd (n / 2 / 2), odd (n / 2 / 2 / 2), odd (n / 2 / 2 / 2 / 2), odd (n / 2 / 2 / 2 / 2 / 2))
  where
    odd : (m : ℕ) → one_if (nat_eq (m % 2) 1) ≡ m % 2
    odd m = elim (cases_eq (m % 2) 1) [
      | inl same ↦ ap one_if (eq-eqb (m % 2) 1 same) ∙ sym same
      | inr other ↦ ap one_if (ne_eqb (m % 2) 1 other) ∙ (let e : 0 ≡ m % 2 = omega (arith, other) in e)
    ]

pub six-put : (x a b c d e f p q s t u v : Bool) (n : ℕ) → n < 64
    → a ≡ (if x then nat_eq (n % 2) 1 else p) → b ≡ (if x then nat_eq (n / 2 % 2) 1 else q) → c ≡ (if x then nat_eq (n / 2 / 2 % 2) 1 else s)
    → d ≡ (if x then nat_eq (n / 2 / 2 / 2 % 2) 1 else t) → e ≡ (if x then nat_eq (n / 2 / 2 / 2 / 2 % 2) 1 else u) → f ≡ (if x then nat_eq (n / 2 / 2 / 2 / 2 / 2 % 2) 1 else v)
    → six a b c d e f ≡ (if x then n else six p q s t u v)
six-put true a b c d e f p q s t u v n few ea eb ec ed ee ef = (λ i. six (ea i) (eb i) (ec i) (ed i) (ee i) (ef i)) ∙ six-of n few
six-put false a b c d e f p q s t u v n few ea eb ec ed ee ef = λ i. six (ea i) (eb i) (ec i) (ed i) (ee i) (ef i)
