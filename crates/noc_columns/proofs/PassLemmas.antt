-- A pass goes from word to word, and what it gives each word follows from what the word was.
use Rattle.std.proofs.Common.{List, subst, length, set, get_or-set_same, get_or-set_other, ◌≡◌, ◌≢◌, ℕ, zero, suc, ◌+◌, ◌<◌, ◌≤◌, Bool, arith, ap, ap₂, sym, ◌∙◌, refl, inl, inr, bit_or}
use Rattle.std.specs.Prelude.{◌⊎◌, ◌||◌}
use Rattle.std.proofs.lemmas.Bool.{cases_eq}
use Rattle.noc_packet.specs.Set.{has_bit}
use Rattle.noc_packet.proofs.SetLemmas.{either_members}
use Rattle.noc_sets.specs.Unions.{some_below}
use Rattle.noc_columns.specs.Words.{word}

-- the words below i are done, and the others are as they were
pub record IsPassed {A : Type 0} (f old now : ℕ → A) (i : ℕ) : Type 0 where
  pub done : (k : ℕ) → k < i → now k ≡ f k
  pub left : (k : ℕ) → i ≤ k → now k ≡ old k

pub passed-next : {A : Type 0} (f old now new : ℕ → A) (i : ℕ) → IsPassed f old now i → new i ≡ f i → ((k : ℕ) → k ≢ i → new k ≡ now k) → IsPassed f old new (i + 1)
passed-next f old now new i passed here others = record {
  done = λ k l. below k l (cases_eq k i);
  left = λ k l. let other : k ≢ i = omega arith in others k other ∙ passed.left k (omega arith);
}
  where
    below : (k : ℕ) → k < i + 1 → (k ≡ i) ⊎ (k ≢ i) → new k ≡ f k
    below k l (inl same) = ap new same ∙ here ∙ sym (ap f same)
    below k l (inr other) = others k other ∙ passed.done k (omega arith)

-- a fact of the words below i and of word i
pub all-next : (P : ℕ → Type 0) (i : ℕ) → ((k : ℕ) → k < i → P k) → P i → (k : ℕ) → k < i + 1 → P k
all-next P i below here k l = elim (cases_eq k i) [ inl same ↦ subst P (sym same) here | inr other ↦ below k (omega arith) ]

pub some-next : (n : ℕ) (test : ℕ → Bool) → some_below (n + 1) test ≡ (some_below n test || test n)
some-next n test = let e : n + 1 ≡ suc n = omega arith in ap (λ m. some_below m test) e

pub some-same : (n : ℕ) (f g : ℕ → Bool) → ((k : ℕ) → k < n → f k ≡ g k) → some_below n f ≡ some_below n g
some-same zero f g same = refl
some-same (suc n) f g same = ap₂ (λ a b. a || b) (some-same n f g (λ k l. same k (omega arith))) (same n (omega arith))

-- the routers that one of the words below i has
pub union-next : (union next i r : ℕ) (before after : ℕ → ℕ) → has_bit union r ≡ some_below i (λ k. has_bit (before k) r) → ((k : ℕ) → k < i → after k ≡ before k) → after i ≡ next
    → has_bit (bit_or union next) r ≡ some_below (i + 1) (λ k. has_bit (after k) r)
union-next union next i r before after is kept here =
    either_members union next r
    ∙ ap₂ (λ a b. a || b) (is ∙ some-same i _ _ (λ k l. ap (λ w. has_bit w r) (sym (kept k l)))) (ap (λ w. has_bit w r) (sym here))
    ∙ sym (some-next i (λ k. has_bit (after k) r))

-- ---- a word that is written
pub word-here : (words : List ℕ) (i x : ℕ) → length words ≡ 72 → i < 72 → word i (set words i x) ≡ x
word-here words i x long few = get_or-set_same words i x 0 (omega (arith, long, few))

pub word-other : (words : List ℕ) (i x k : ℕ) → k ≢ i → word k (set words i x) ≡ word k words
word-other words i x k other = get_or-set_other words i k x 0 other
