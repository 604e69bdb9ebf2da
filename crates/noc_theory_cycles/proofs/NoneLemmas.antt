-- Sets without a member, and counts to which nothing is added.
use Rattle.std.proofs.Common.{◌≡◌, ℕ, zero, suc, Bool, true, false, List, [], ◌∷◌, ap, ap₂, bit_and, bit_or, bit_xor, inl, inr, refl, sym, ◌∙◌}
use Rattle.std.specs.Prelude.{◌⊎◌, not, if◌then◌else◌}
use Rattle.std.proofs.lemmas.Bool.{and_parts, cases_Bool, false≢true}
use Rattle.noc_packet.specs.Set.{has_bit}
use Rattle.noc_packet.proofs.SetLemmas.{both_members, has_bit-zero, zero_from_none}
use Rattle.noc_sets.specs.Passes.{with_first}
use Rattle.noc_sets.specs.Planes.{lowered_by, raised_by}
use Rattle.noc_sets.specs.Sets.{differ, less, lowest}
use Rattle.noc_sets.specs.Unions.{rest_from, union_from}
use Rattle.noc_sets.proofs.MemberLemmas.{less_members, or-zero, same-word, xor_members, zero_members}

-- ---- members
pub no-member : (a k : ℕ) → a ≡ 0 → has_bit a k ≡ true → false ≡ true
no-member a k none e = sym (has_bit-zero k) ∙ ap (λ n. has_bit n k) (sym none) ∙ e

-- a set of which no member can be
pub empty-set : (a : ℕ) → ((k : ℕ) → has_bit a k ≡ true → false ≡ true) → a ≡ 0
empty-set a never = zero_from_none a (λ k. at k (cases_Bool (has_bit a k)))
  where
    at : (k : ℕ) → (has_bit a k ≡ true) ⊎ (has_bit a k ≡ false) → has_bit a k ≡ false
    at k (inl e) = absurd (false≢true (never k e))
    at k (inr e) = e

pub in-both : (a b k : ℕ) → has_bit (bit_and a b) k ≡ true → (has_bit a k ≡ true) × (has_bit b k ≡ true)
in-both a b k e = and_parts (has_bit a k) (has_bit b k) (sym (both_members a b k) ∙ e)

pub in-less : (a b k : ℕ) → has_bit (less a b) k ≡ true → has_bit a k ≡ true
in-less a b k e = (and_parts (has_bit a k) (not (has_bit b k)) (sym (less_members a b k) ∙ e)).0

-- ---- operations
pub and-none : (a b : ℕ) → a ≡ 0 → bit_and a b ≡ 0
and-none a b none = empty-set (bit_and a b) (λ k e. no-member a k none (in-both a b k e).0)

pub less-none : (a b : ℕ) → a ≡ 0 → less a b ≡ 0
less-none a b none = empty-set (less a b) (λ k e. no-member a k none (in-less a b k e))

pub less-same : (a b : ℕ) → a ≡ b → less a b ≡ 0
less-same a b same = empty-set (less a b) (λ k e.
    let both = and_parts (has_bit a k) (not (has_bit b k)) (sym (less_members a b k) ∙ e) in
    sym (ap not (ap (λ n. has_bit n k) (sym same) ∙ both.0)) ∙ both.1)

pub or-none : (a b : ℕ) → a ≡ 0 → b ≡ 0 → bit_or a b ≡ 0
or-none a b first second = ap₂ (λ x y. bit_or x y) first second ∙ or-zero 0

pub lowest-none : (a : ℕ) → a ≡ 0 → lowest a ≡ 0
lowest-none a none = ap lowest none ∙ zero_from_none (lowest 0) zero_members

pub xor-none : (a b : ℕ) → b ≡ 0 → bit_xor a b ≡ a
xor-none a b none = same-word (bit_xor a b) a (λ k. xor_members a b k ∙ ap (λ n. differ (has_bit a k) (has_bit n k)) none ∙ ap (differ (has_bit a k)) (has_bit-zero k) ∙ same (has_bit a k))
  where
    same : (x : Bool) → differ x false ≡ x
    same true = refl
    same false = refl

pub if-none : (b : Bool) (v : ℕ) → v ≡ 0 → (if b then 0 else v) ≡ 0
if-none true v none = refl
if-none false v none = none

pub union-none : (n : ℕ) (words : ℕ → ℕ) → ((q : ℕ) → words q ≡ 0) → union_from 0 n words ≡ 0
union-none zero words none = refl
union-none (suc n) words none = or-none (union_from 0 n words) (words n) (union-none n words none) (none n)

pub rest-none : (base n : ℕ) (words : ℕ → ℕ) → base ≡ 0 → rest_from base n words ≡ 0
rest-none base zero words none = none
rest-none base (suc n) words none = less-none (rest_from base n words) (words n) (rest-none base n words none)

-- ---- counts to which nothing is added
pub raised-none : (planes : List ℕ) (set : ℕ) → set ≡ 0 → raised_by planes set ≡ planes
raised-none [] set none = refl
raised-none (plane ∷ planes) set none = ap₂ (λ p ps. p ∷ ps) (xor-none plane set none) (raised-none planes (bit_and set plane) (and-none set plane none))

pub lowered-none : (planes : List ℕ) (set : ℕ) → set ≡ 0 → lowered_by planes set ≡ planes
lowered-none [] set none = refl
lowered-none (plane ∷ planes) set none = ap₂ (λ p ps. p ∷ ps) (xor-none plane set none) (lowered-none planes (less set plane) (less-none set plane none))

pub first-none : (bit : ℕ) (planes : List ℕ) → bit ≡ 0 → with_first bit planes ≡ planes
first-none bit [] none = refl
first-none bit (plane ∷ planes) none = ap (λ n. n ∷ planes) (ap (bit_or plane) none ∙ or-zero plane)
