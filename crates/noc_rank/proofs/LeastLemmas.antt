-- The least number with a property.
use Rattle.std.proofs.Common.{◌≡◌, ℕ, ◌<◌, ◌≤◌, Option, Some, None, min, refl, subst, ap, arith, inl, inr}
use Rattle.std.specs.Prelude.{◌⊎◌}
use Rattle.std.proofs.lemmas.Bool.{cases_lt}
use Rattle.std.proofs.lemmas.Option.{none-some, same_Some}
use Rattle.noc_rank.specs.LeastAhead.{IsLeastOf, lesser}

-- the least number with a property that holds of just these numbers
pub least-same : (P Q : ℕ → Type 0) (o : Option ℕ) → ((n : ℕ) → P n → Q n) → ((n : ℕ) → Q n → P n) → IsLeastOf P o → IsLeastOf Q o
least-same P Q o to from h = record { met = λ n e. to n (h.met n e); least = λ n q. h.least n (from n q) }

pub least-none : (P : ℕ → Type 0) → ((n : ℕ) → P n → ⊥) → IsLeastOf P None
least-none P none = record { met = λ n e. absurd (none-some n e); least = λ n p. absurd (none n p) }

pub least-one : (P : ℕ → Type 0) (x : ℕ) → P x → ((n : ℕ) → P n → x ≤ n) → IsLeastOf P (Some x)
least-one P x here low = record { met = λ n e. subst P (same_Some x n e) here; least = λ n p. (x, refl, low n p) }

-- of two properties
pub least-either : (P Q : ℕ → Type 0) (a b : Option ℕ) → IsLeastOf P a → IsLeastOf Q b → IsLeastOf (λ n. P n ⊎ Q n) (lesser a b)
least-either P Q None b h i = record {
  met = λ n e. inr (i.met n e);
  least = λ n. elim [
    | inl p ↦ let l = h.least n p in absurd (none-some l.0 l.1)
    | inr q ↦ i.least n q
  ];
}
least-either P Q (Some x) None h i = record {
  met = λ n e. inl (h.met n e);
  least = λ n. elim [
    | inl p ↦ h.least n p
    | inr q ↦ let l = i.least n q in absurd (none-some l.0 l.1)
  ];
}
least-either P Q (Some x) (Some y) h i = record { met = λ n e. met n (same_Some (min x y) n e) (cases_lt x y); least = λ n. elim [ inl p ↦ left n p | inr q ↦ right n q ] }
  where
    met : (n : ℕ) → min x y ≡ n → (x < y) ⊎ (y ≤ x) → P n ⊎ Q n
    met n e (inl less) = inl (h.met n (ap Some (omega (arith, e, less))))
    met n e (inr more) = inr (i.met n (ap Some (omega (arith, e, more))))

    left : (n : ℕ) → P n → (l : ℕ) × (Some (min x y) ≡ Some l) × (l ≤ n)
    left n p =
        let l = h.least n p in
        let same : x ≡ l.0 = same_Some x l.0 l.1 in
        (min x y, refl, omega (arith, same, l.2))

    right : (n : ℕ) → Q n → (l : ℕ) × (Some (min x y) ≡ Some l) × (l ≤ n)
    right n q =
        let l = i.least n q in
        let same : y ≡ l.0 = same_Some y l.0 l.1 in
        (min x y, refl, omega (arith, same, l.2))
