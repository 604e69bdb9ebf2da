-- The lowest four bits of counts.
use Rattle.std.proofs.Common.{◌≡◌, ◌≢◌, ℕ, zero, suc, ◌+◌, ◌*◌, ◌/◌, ◌%◌, ◌<◌, ◌≤◌, Bool, true, false, List, [], refl, ap, ap₂, sym, ◌∙◌, arith, inl, inr, bit_and, bit_or}
use Rattle.std.specs.Prelude.{◌⊎◌, ◌&&◌, bit_xor, slice_index_or}
use Rattle.std.proofs.lemmas.Bool.{cases_eq, cases_lt}
use Rattle.noc_packet.specs.Set.{has_bit}
use Rattle.noc_packet.proofs.SetLemmas.{both_members, has_bit-zero}
use Rattle.noc_sets.specs.Sets.{differ}
use Rattle.noc_sets.proofs.MemberLemmas.{xor_members}
use Rattle.noc_topo.specs.Lists.{one_if}
use Rattle.noc_columns.specs.Words.{word}
use Rattle.noc_counts.specs.Low.{HasRaised, low_at, low_by, low_in, set_sum}
use Rattle.noc_counts.specs.declared.low.Low.{Low}
use Rattle.noc_counts.proofs.RowLemmas.{left-none, right-none}
use Rattle.noc_counts.proofs.CountLemmas.{set-next}

pub none-in : (w r : ℕ) → w ≡ 0 → one_if (has_bit w r) ≡ 0
none-in w r is = ap (λ v. one_if (has_bit v r)) is ∙ ap one_if (has_bit-zero r)

-- ---- one bit with two words
two : (s a b : Bool) → one_if (differ (differ s a) b) + 2 * one_if (differ s (differ s a && differ s b)) ≡ one_if s + one_if a + one_if b
two true true true = omega arith
two true true false = omega arith
two true false true = omega arith
two true false false = omega arith
two false true true = omega arith
two false true false = omega arith
two false false true = omega arith
two false false false = omega arith

sum-members : (s a b r : ℕ) → has_bit (bit_xor (bit_xor s a) b) r ≡ differ (differ (has_bit s r) (has_bit a r)) (has_bit b r)
sum-members s a b r = xor_members (bit_xor s a) b r ∙ ap (λ x. differ x (has_bit b r)) (xor_members s a r)

carry-members : (s a b r : ℕ) → has_bit (bit_xor s (bit_and (bit_xor s a) (bit_xor s b))) r
    ≡ differ (has_bit s r) (differ (has_bit s r) (has_bit a r) && differ (has_bit s r) (has_bit b r))
carry-members s a b r =
    xor_members s (bit_and (bit_xor s a) (bit_xor s b)) r
    ∙ ap (λ x. differ (has_bit s r) x) (both_members (bit_xor s a) (bit_xor s b) r ∙ ap₂ (λ x y. x && y) (xor_members s a r) (xor_members s b r))

pub added-two : (s a b r : ℕ) → one_if (has_bit (bit_xor (bit_xor s a) b) r) + 2 * one_if (has_bit (bit_xor s (bit_and (bit_xor s a) (bit_xor s b))) r)
    ≡ one_if (has_bit s r) + one_if (has_bit a r) + one_if (has_bit b r)
added-two s a b r = rw (sum-members s a b r, carry-members s a b r) (two (has_bit s r) (has_bit a r) (has_bit b r))

-- ---- more is added, word by word
module _ (more : ℕ → ℕ → ℕ) (first : ℕ) where
  pub raised-none : (low : Low (List ℕ)) (carry : List ℕ) → HasRaised more first first low low carry carry
  raised-none low carry = record { done = λ j r a l. absurd (omega (arith, a, l)); left = λ j o. refl; kept = λ j o. refl }

  -- to the word behind those that are done
  pub raised-next : (old now new : Low (List ℕ)) (before carry next : List ℕ) (i x : ℕ) (had with : Low ℕ) → first ≤ i → HasRaised more first i old now before carry
      → had ≡ low_by (word i) now
      → ((r : ℕ) → low_in with r + 16 * one_if (has_bit x r) ≡ low_in had r + more i r)
      → low_by (word i) new ≡ with → ((k : ℕ) → k ≢ i → low_by (word k) new ≡ low_by (word k) now)
      → word i next ≡ x → ((k : ℕ) → k ≢ i → word k next ≡ word k carry)
      → HasRaised more first (i + 1) old new before next
  raised-next old now new before carry next i x had with low raised is adds here others put rest = record {
    done = λ j r a l. elim (cases_eq j i) [
      | inl same ↦
          ap (λ k. low_at new k r + 16 * one_if (has_bit (word k next) r)) same
          ∙ ap₂ (λ (v : Low ℕ) w. low_in v r + 16 * one_if (has_bit w r)) here put
          ∙ adds r
          ∙ ap (λ (v : Low ℕ). low_in v r + more i r) (is ∙ raised.left i (inr (omega arith)))
          ∙ ap (λ k. low_at old k r + more k r) (sym same)
      | inr other ↦
          ap₂ (λ (v : Low ℕ) w. low_in v r + 16 * one_if (has_bit w r)) (others j other) (rest j other)
          ∙ raised.done j r a (omega (arith, l, other))
    ];
    left = λ j o. others j (apart j o) ∙ raised.left j (outside j o);
    kept = λ j o. rest j (apart j o) ∙ raised.kept j (outside j o);
  }
    where
      apart : (j : ℕ) → (j < first) ⊎ (i + 1 ≤ j) → j ≢ i
      apart j (inl l) = omega (arith, l, low)
      apart j (inr u) = omega (arith, u)

      outside : (j : ℕ) → (j < first) ⊎ (i + 1 ≤ j) → (j < first) ⊎ (i ≤ j)
      outside j (inl l) = inl l
      outside j (inr u) = inr (omega (arith, u))

  -- to the words behind them, up to the end
  pub raised-on : (old now new : Low (List ℕ)) (before carry next : List ℕ) (middle end : ℕ) → first ≤ middle → middle ≤ end
      → HasRaised more first middle old now before carry → HasRaised more middle end now new carry next → HasRaised more first end old new before next
  raised-on old now new before carry next middle end low high front back = record {
    done = λ j r a l. elim (cases_lt j middle) [
      | inl below ↦
          ap₂ (λ (v : Low ℕ) w. low_in v r + 16 * one_if (has_bit w r)) (back.left j (inl below)) (back.kept j (inl below))
          ∙ front.done j r a below
      | inr above ↦ back.done j r above l ∙ ap (λ (v : Low ℕ). low_in v r + more j r) (front.left j (inr above))
    ];
    left = λ j o. back.left j (behind j o) ∙ front.left j (ahead j o);
    kept = λ j o. back.kept j (behind j o) ∙ front.kept j (ahead j o);
  }
    where
      behind : (j : ℕ) → (j < first) ⊎ (end ≤ j) → (j < middle) ⊎ (end ≤ j)
      behind j (inl l) = inl (omega (arith, l, low))
      behind j (inr u) = inr u

      ahead : (j : ℕ) → (j < first) ⊎ (end ≤ j) → (j < first) ⊎ (middle ≤ j)
      ahead j (inl l) = inl l
      ahead j (inr u) = inr (omega (arith, u, high))

  -- by nothing
  pub raised-zero : (low : Low (List ℕ)) (carry : List ℕ) (end : ℕ) → ((j r : ℕ) → first ≤ j → j < end → more j r ≡ 0) → ((j : ℕ) → first ≤ j → word j carry ≡ 0)
      → HasRaised more first end low low carry carry
  raised-zero low carry end is none = record {
    done = λ j r a l. omega (arith, none-in (word j carry) r (none j a), is j r a l);
    left = λ j o. refl;
    kept = λ j o. refl;
  }

-- ---- whether four words have a router in a cycle
pub joined-next : (sets : List (List ℕ)) (first slot k : ℕ) (some next : List ℕ) → word k next ≡ bit_or (word k some) (word (first + k) (slice_index_or sets slot []))
    → (word k some ≡ 0 → (r : ℕ) → set_sum sets slot (first + k) r ≡ 0) → word k next ≡ 0 → (r : ℕ) → set_sum sets (slot + 1) (first + k) r ≡ 0
joined-next sets first slot k some next is none e r =
    let all : bit_or (word k some) (word (first + k) (slice_index_or sets slot [])) ≡ 0 = sym is ∙ e in
    let before : set_sum sets slot (first + k) r ≡ 0 = none (left-none (word k some) (word (first + k) (slice_index_or sets slot [])) all) r in
    let one : one_if (has_bit (word (first + k) (slice_index_or sets slot [])) r) ≡ 0 = none-in (word (first + k) (slice_index_or sets slot [])) r (right-none (word k some) (word (first + k) (slice_index_or sets slot [])) all) in
    omega (arith, set-next sets slot (first + k) r, before, one)

pub four-none : (words : List ℕ) (k : ℕ) → bit_or (bit_or (bit_or (word 0 words) (word 1 words)) (word 2 words)) (word 3 words) ≡ 0 → k < 4 → word k words ≡ 0
four-none words zero e few = left-none _ _ (left-none _ _ (left-none _ _ e))
four-none words (suc zero) e few = right-none _ _ (left-none _ _ (left-none _ _ e))
four-none words (suc (suc zero)) e few = right-none _ _ (left-none _ _ e)
four-none words (suc (suc (suc zero))) e few = right-none _ _ e
four-none words (suc (suc (suc (suc k)))) e few = absurd (omega arith)

-- ---- a set that is added so many times, bit by bit
pub times-sum : (n : ℕ) (b : Bool) → n < 16 → n % 2 * one_if b + 2 * (n / 2 % 2 * one_if b) + 4 * (n / 4 % 2 * one_if b) + 8 * (n / 8 % 2 * one_if b) ≡ n * one_if b
times-sum n true few = omega arith
times-sum n false few = omega arith
