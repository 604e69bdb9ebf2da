-- The members of a set, channel by channel, as a number.
use Rattle.std.proofs.Common.{◌≡◌, ◌≢◌, ◌⊎◌, ℕ, ◌+◌, ◌^◌, ◌<◌, ◌≤◌, true, false, refl, ap, ap₂, arith, sym, ◌∙◌, inl, inr, bit_or}
use Rattle.std.specs.Prelude.{◌&&◌, ◌||◌, nat_eq, nat_lt}
use Rattle.std.proofs.lemmas.Bool.{cases_Bool, cases_eq, cases_lt, eq-eqb, le-ltb, lt-ltb, ne_eqb}
use Rattle.noc_packet.specs.Set.{has_bit}
use Rattle.noc_packet.proofs.SetLemmas.{either_members, has_bit-below, has_bit-zero}
use Rattle.noc_sets.proofs.MemberLemmas.{and-false, or-false, same-word}

pub members-none : (set k : ℕ) → has_bit 0 k ≡ (nat_lt k 0 && has_bit set k)
members-none set k = has_bit-zero k ∙ sym (ap (λ b. b && has_bit set k) (le-ltb k 0 (omega arith)))

pub members-next : (set word bit x : ℕ) → ((k : ℕ) → has_bit word k ≡ (nat_lt k x && has_bit set k)) → ((k : ℕ) → has_bit bit k ≡ (nat_eq k x && has_bit set x))
    → (k : ℕ) → has_bit (bit_or word bit) k ≡ (nat_lt k (x + 1) && has_bit set k)
members-next set word bit x are alone k = either_members word bit k ∙ ap₂ (λ a b. a || b) (are k) (alone k) ∙ at (cases_eq k x) (cases_lt k x)
  where
    at : (k ≡ x) ⊎ (k ≢ x) → (k < x) ⊎ (x ≤ k) → ((nat_lt k x && has_bit set k) || (nat_eq k x && has_bit set x)) ≡ (nat_lt k (x + 1) && has_bit set k)
    at (inl same) less = rw (le-ltb k x (omega (arith, same)), eq-eqb k x same, lt-ltb k (x + 1) (omega (arith, same))) (sym (ap (has_bit set) same))
    at (inr other) (inl less) = rw (lt-ltb k x less, ne_eqb k x other, lt-ltb k (x + 1) (omega (arith, less))) (or-false (has_bit set k))
    at (inr other) (inr above) = rw (le-ltb k x above, ne_eqb k x other, le-ltb k (x + 1) (omega (arith, above, other))) refl

pub members-all : (n set word end : ℕ) → n ≤ end → set < 2 ^ n → ((k : ℕ) → has_bit word k ≡ (nat_lt k end && has_bit set k)) → word ≡ set
members-all n set word end far few are = same-word word set (λ k. are k ∙ at k (cases_Bool (has_bit set k)))
  where
    at : (k : ℕ) → (has_bit set k ≡ true) ⊎ (has_bit set k ≡ false) → (nat_lt k end && has_bit set k) ≡ has_bit set k
    at k (inl e) = let l : k < n = has_bit-below set n k few e in ap (λ b. b && has_bit set k) (lt-ltb k end (omega (arith, l, far)))
    at k (inr e) = rw e (and-false (nat_lt k end))
