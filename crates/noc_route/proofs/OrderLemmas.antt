-- The order of rows and entries.
use Rattle.std.proofs.Common.{◌≡◌, ℕ, true, false, List, [], ◌∷◌, length, refl, ◌∙◌, arith, inl, inr}
use Rattle.std.specs.Prelude.{nat_lt, nat_eq, ◌||◌, ◌&&◌, ◌⊎◌}
use Rattle.std.proofs.lemmas.Bool.{eq-eqb, le-ltb, lt-ltb, false≢true, ltb-true, eqb-true, and_parts, or_cases}
use Rattle.std.proofs.Math.Bool.{or-true, and-false}
use Rattle.noc_route.specs.Order.{numbers_before}

pub before-not-self : (xs : List ℕ) → numbers_before xs xs ≡ false
before-not-self [] = refl
before-not-self (x ∷ xs) =
    let level : nat_lt x x ≡ false = le-ltb x x (omega arith) in
    rw (level, before-not-self xs) (and-false (nat_eq x x))

-- what comes before something that comes before a third comes before that
pub before-trans : (xs ys zs : List ℕ) → length xs ≡ length ys → length ys ≡ length zs → numbers_before xs ys ≡ true → numbers_before ys zs ≡ true → numbers_before xs zs ≡ true
before-trans [] ys zs e f a b = absurd (false≢true a)
before-trans (x ∷ xs) [] zs e f a b = absurd (omega (arith, e))
before-trans (x ∷ xs) (y ∷ ys) [] e f a b = absurd (omega (arith, f))
before-trans (x ∷ xs) (y ∷ ys) (z ∷ zs) e f a b =
    at (before-trans xs ys zs (omega (arith, e)) (omega (arith, f))) (or_cases (nat_lt x y) (nat_eq x y && numbers_before xs ys) a) (or_cases (nat_lt y z) (nat_eq y z && numbers_before ys zs) b)
  where
    at : (numbers_before xs ys ≡ true → numbers_before ys zs ≡ true → numbers_before xs zs ≡ true) → (nat_lt x y ≡ true) ⊎ ((nat_eq x y && numbers_before xs ys) ≡ true) → (nat_lt y z ≡ true) ⊎ ((nat_eq y z && numbers_before ys zs) ≡ true)
        → (nat_lt x z || (nat_eq x z && numbers_before xs zs)) ≡ true
    at more (inl p) (inl q) = let l : nat_lt x z ≡ true = lt-ltb x z (omega (arith, ltb-true x y p, ltb-true y z q)) in rw l refl
    at more (inl p) (inr q) = let l : nat_lt x z ≡ true = lt-ltb x z (omega (arith, ltb-true x y p, eqb-true y z (and_parts (nat_eq y z) _ q).0)) in rw l refl
    at more (inr p) (inl q) = let l : nat_lt x z ≡ true = lt-ltb x z (omega (arith, eqb-true x y (and_parts (nat_eq x y) _ p).0, ltb-true y z q)) in rw l refl
    at more (inr p) (inr q) =
        let p' = and_parts (nat_eq x y) (numbers_before xs ys) p in
        let q' = and_parts (nat_eq y z) (numbers_before ys zs) q in
        let same : nat_eq x z ≡ true = eq-eqb x z (eqb-true x y p'.0 ∙ eqb-true y z q'.0) in
        let rest : numbers_before xs zs ≡ true = more p'.1 q'.1 in
        rw (same, rest) (or-true (nat_lt x z))
