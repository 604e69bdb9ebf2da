-- A router's sets out of words of channels: what is done to each word is done to each set.
use Rattle.std.proofs.Common.{◌≡◌, ◌≢◌, ℕ, zero, suc, ◌^◌, ◌<◌, ◌≤◌, Bool, true, false, List, arith, ap, ap₂, sym, ◌∙◌, refl, inl, inr, bit_and, bit_or, bit_xor}
use Rattle.std.specs.Prelude.{◌⊎◌, ◌&&◌, ◌||◌, not, nat_eq, nat_lt, if◌then◌else◌}
use Rattle.std.proofs.lemmas.Bool.{cases_eq, cases_lt, lt-ltb, le-ltb, eq-eqb, ne_eqb}
use Rattle.noc_packet.specs.Set.{has_bit}
use Rattle.noc_packet.proofs.SetLemmas.{both_members, either_members, has_bit-zero}
use Rattle.noc_sets.specs.Sets.{differ, less}
use Rattle.noc_sets.proofs.MemberLemmas.{and-false, and-true, less_members, or-false, power-members, same-word, xor_members}
use Rattle.noc_columns.specs.Words.{Numbering, set_alike, set_below, set_by, set_of, word}

-- ---- the members of a set that is told by a test
pub one-members : (b : Bool) (n k : ℕ) → has_bit (if b then 2 ^ n else 0) k ≡ (nat_eq k n && b)
one-members true n k = power-members n k ∙ sym (and-true (nat_eq k n))
one-members false n k = has_bit-zero k ∙ sym (and-false (nat_eq k n))

pub below-members : (n : ℕ) (test : ℕ → Bool) (k : ℕ) → has_bit (set_below n test) k ≡ (nat_lt k n && test k)
below-members zero test k = has_bit-zero k ∙ sym (ap (λ b. b && test k) (le-ltb k 0 (omega arith)))
below-members (suc n) test k = either_members (set_below n test) (if test n then 2 ^ n else 0) k ∙ ap₂ (λ a b. a || b) (below-members n test k) (one-members (test n) n k) ∙ at (cases_eq k n)
  where
    kept : k ≢ n → nat_lt k n ≡ nat_lt k (suc n)
    kept other = elim (cases_lt k n) [ inl l ↦ lt-ltb k n l ∙ sym (lt-ltb k (suc n) (omega arith)) | inr l ↦ le-ltb k n l ∙ sym (le-ltb k (suc n) (omega arith)) ]

    at : (k ≡ n) ⊎ (k ≢ n) → (nat_lt k n && test k || nat_eq k n && test n) ≡ (nat_lt k (suc n) && test k)
    at (inl same) =
        ap₂ (λ a b. a && test k || b && test n) (le-ltb k n (omega arith)) (eq-eqb k n same)
        ∙ ap test (sym same)
        ∙ ap (λ b. b && test k) (sym (lt-ltb k (suc n) (omega arith)))
    at (inr other) =
        ap (λ b. nat_lt k n && test k || b && test n) (ne_eqb k n other)
        ∙ or-false (nat_lt k n && test k)
        ∙ ap (λ b. b && test k) (kept other)

pub below-same : (n : ℕ) (f g : ℕ → Bool) → ((k : ℕ) → k < n → f k ≡ g k) → set_below n f ≡ set_below n g
below-same n f g same = same-word _ _ (λ k. below-members n f k ∙ at k (cases_lt k n) ∙ sym (below-members n g k))
  where
    at : (k : ℕ) → (k < n) ⊎ (n ≤ k) → (nat_lt k n && f k) ≡ (nat_lt k n && g k)
    at k (inl l) = ap (λ b. nat_lt k n && b) (same k l)
    at k (inr l) = ap (λ b. b && f k) (le-ltb k n l) ∙ sym (ap (λ b. b && g k) (le-ltb k n l))

-- ---- an operation on words that goes bit by bit
module _ (op : ℕ → ℕ → ℕ) (by : Bool → Bool → Bool) (members : (a b k : ℕ) → has_bit (op a b) k ≡ by (has_bit a k) (has_bit b k)) (none : by false false ≡ false) where
  below-op : (n : ℕ) (a b : ℕ → Bool) → set_below n (λ c. by (a c) (b c)) ≡ op (set_below n a) (set_below n b)
  below-op n a b = same-word _ _ (λ k. at k (cases_lt k n))
    where
      at : (k : ℕ) → (k < n) ⊎ (n ≤ k) → has_bit (set_below n (λ c. by (a c) (b c))) k ≡ has_bit (op (set_below n a) (set_below n b)) k
      at k (inl l) =
          below-members n _ k ∙ ap (λ x. x && by (a k) (b k)) (lt-ltb k n l)
          ∙ sym (ap₂ by (below-members n a k ∙ ap (λ x. x && a k) (lt-ltb k n l)) (below-members n b k ∙ ap (λ x. x && b k) (lt-ltb k n l)))
          ∙ sym (members (set_below n a) (set_below n b) k)
      at k (inr l) =
          below-members n _ k ∙ ap (λ x. x && by (a k) (b k)) (le-ltb k n l)
          ∙ sym none
          ∙ sym (ap₂ by (below-members n a k ∙ ap (λ x. x && a k) (le-ltb k n l)) (below-members n b k ∙ ap (λ x. x && b k) (le-ltb k n l)))
          ∙ sym (members (set_below n a) (set_below n b) k)

  by-op : (n : Numbering) (r : ℕ) (a b : ℕ → ℕ) → set_by n r (λ i. op (a i) (b i)) ≡ op (set_by n r a) (set_by n r b)
  by-op n r a b = below-same n.size _ _ (λ k l. members (a (n.index k)) (b (n.index k)) r) ∙ below-op n.size _ _

pub below-both : (n : ℕ) (a b : ℕ → Bool) → set_below n (λ c. a c && b c) ≡ bit_and (set_below n a) (set_below n b)
below-both = below-op bit_and (λ x y. x && y) both_members refl

-- ---- what is made of words bit by bit
pub data Term : Type 0 where
  leaf : List ℕ → Term  -- the words of a block
  alike : ℕ → Term  -- one word for all channels
  none : Term
  both : Term → Term → Term
  either : Term → Term → Term
  other : Term → Term → Term
  without : Term → Term → Term

module _ (of : List ℕ → ℕ) (one : ℕ → ℕ) where
  abbrev pub value : Term → ℕ
  value (leaf words) = of words
  value (alike word) = one word
  value none = 0
  value (both a b) = bit_and (value a) (value b)
  value (either a b) = bit_or (value a) (value b)
  value (other a b) = bit_xor (value a) (value b)
  value (without a b) = less (value a) (value b)

-- of the words with an index, and of a router
abbrev pub word_value : ℕ → Term → ℕ
word_value i = value (word i) (λ w. w)

abbrev pub set_value : Numbering → ℕ → Term → ℕ
set_value n r = value (set_of n r) (set_alike n r)

pub by-term : (n : Numbering) (r : ℕ) (t : Term) → set_by n r (λ i. word_value i t) ≡ set_value n r t
by-term n r (leaf words) = refl
by-term n r (alike word) = refl
by-term n r none = below-same n.size _ (λ k. false) (λ k l. has_bit-zero r) ∙ nothing n.size
  where
    nothing : (m : ℕ) → set_below m (λ k. false) ≡ 0
    nothing m = same-word _ 0 (λ k. below-members m (λ j. false) k ∙ and-false (nat_lt k m) ∙ sym (has_bit-zero k))
by-term n r (both a b) = by-op bit_and (λ x y. x && y) both_members refl n r (λ i. word_value i a) (λ i. word_value i b) ∙ ap₂ bit_and (by-term n r a) (by-term n r b)
by-term n r (either a b) = by-op bit_or (λ x y. x || y) either_members refl n r (λ i. word_value i a) (λ i. word_value i b) ∙ ap₂ bit_or (by-term n r a) (by-term n r b)
by-term n r (other a b) = by-op bit_xor differ xor_members refl n r (λ i. word_value i a) (λ i. word_value i b) ∙ ap₂ bit_xor (by-term n r a) (by-term n r b)
by-term n r (without a b) = by-op less (λ x y. x && not y) less_members refl n r (λ i. word_value i a) (λ i. word_value i b) ∙ ap₂ less (by-term n r a) (by-term n r b)

-- words that are a term's give the sets that are the term's
pub sets-are : (n : Numbering) (r : ℕ) (t : Term) (now : List ℕ) → ((c : ℕ) → c < n.size → word (n.index c) now ≡ word_value (n.index c) t) → set_of n r now ≡ set_value n r t
sets-are n r t now is = below-same n.size _ _ (λ k l. ap (λ w. has_bit w r) (is k l)) ∙ by-term n r t
