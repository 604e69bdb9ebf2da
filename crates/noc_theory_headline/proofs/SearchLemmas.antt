-- A search finds the first number that passes its test.
use Rattle.std.proofs.Common.{◌≡◌, ◌≢◌, ℕ, zero, suc, ◌+◌, ◌<◌, ◌≤◌, Bool, true, false, Some, None, refl, ap, sym, ◌∙◌, arith, ⊎_elim}
use Rattle.std.specs.Prelude.{if◌then◌else◌, find}
use Rattle.std.specs.List.{range_with_len}
use Rattle.std.proofs.lemmas.Bool.{cases_eq}
use Rattle.noc_topo.specs.Lists.{below}

in_range-least : (p : ℕ → Bool) (n a x k : ℕ) → find p (range_with_len a n) ≡ Some x → a ≤ k → k < x → p k ≡ false
in_range-least p zero a x k e l u = absurd (cc e)
in_range-least p (suc n) a x k e l u = at (p a) refl e (λ g m. in_range-least p n (a + 1) x k g m u)
  where
    at : (b : Bool) → p a ≡ b → (if b then Some a else find p (range_with_len (a + 1) n)) ≡ Some x → (find p (range_with_len (a + 1) n) ≡ Some x → a + 1 ≤ k → p k ≡ false) → p k ≡ false
    at true h g rest = let s : a ≡ x = cc g in absurd (omega arith)
    at false h g rest = ⊎_elim (λ (same : a ≡ k). ap p (sym same) ∙ h) (λ (other : a ≢ k). rest g (omega arith)) (cases_eq a k)

in_range-absent : (p : ℕ → Bool) (n a k : ℕ) → find p (range_with_len a n) ≡ None → a ≤ k → k < a + n → p k ≡ false
in_range-absent p zero a k e l u = absurd (omega arith)
in_range-absent p (suc n) a k e l u = at (p a) refl e (λ g m. in_range-absent p n (a + 1) k g m (omega arith))
  where
    at : (b : Bool) → p a ≡ b → (if b then Some a else find p (range_with_len (a + 1) n)) ≡ None → (find p (range_with_len (a + 1) n) ≡ None → a + 1 ≤ k → p k ≡ false) → p k ≡ false
    at true h g rest = absurd (cc g)
    at false h g rest = ⊎_elim (λ (same : a ≡ k). ap p (sym same) ∙ h) (λ (other : a ≢ k). rest g (omega arith)) (cases_eq a k)

pub find-least_below : (p : ℕ → Bool) (n x k : ℕ) → find p (below n) ≡ Some x → k < x → p k ≡ false
unfolding below
find-least_below p n x k e u = in_range-least p n 0 x k e (omega arith) u

pub find-absent : (p : ℕ → Bool) (n k : ℕ) → find p (below n) ≡ None → k < n → p k ≡ false
unfolding below
find-absent p n k e u = in_range-absent p n 0 k e (omega arith) (omega arith)

-- ---- tests
