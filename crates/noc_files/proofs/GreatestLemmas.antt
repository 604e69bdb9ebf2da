-- The greatest of some numbers is one of them, and none of them is above it.
use Rattle.std.proofs.Common.{◌≡◌, ℕ, ◌≤◌, List, [], ◌∷◌, Some, None, sym, ◌∙◌, inl, inr, refl}
use Rattle.std.specs.Prelude.{◌⊎◌, max, fold}
use Rattle.std.proofs.Math.Nat.{le-max_left, le-max_right, max-eq_left, max-eq_right}
use Rattle.std.proofs.Common.{arith}
use Rattle.std.proofs.lemmas.Bool.{cases_lt}
use Rattle.std.proofs.lemmas.Option.{none-some, same_Some}
use Rattle.noc_topo.specs.Lists.{Each, Has}
use Rattle.noc_files.specs.Summary.{IsGreatest, greater_of, greatest_of}

above : (ns : List ℕ) (a m : ℕ) → fold greater_of (Some a) ns ≡ Some m → (a ≤ m) × Each (λ n. n ≤ m) ns
above [] a m e = (omega (arith, same_Some a m e), tt)
above (n ∷ ns) a m e =
    let rest = above ns (max a n) m e in
    (omega (arith, rest.0, le-max_left a n), (omega (arith, rest.0, le-max_right a n), rest.1))

one_of : (ns : List ℕ) (a m : ℕ) → fold greater_of (Some a) ns ≡ Some m → (m ≡ a) ⊎ Has m ns
one_of [] a m e = inl (sym (same_Some a m e))
one_of (n ∷ ns) a m e =
    elim (one_of ns (max a n) m e) [
      | inl greater ↦ elim (cases_lt a n) [
        | inl less ↦ inr (inl (greater ∙ max-eq_right (omega (arith, less))))
        | inr least ↦ inl (greater ∙ max-eq_left least)
      ]
      | inr there ↦ inr (inr there)
    ]

some : (ns : List ℕ) (a : ℕ) → fold greater_of (Some a) ns ≡ None → ⊥
some [] a e = none-some a (sym e)
some (n ∷ ns) a e = some ns (max a n) e

pub greatest_is : (ns : List ℕ) (m : ℕ) → greatest_of ns ≡ Some m → IsGreatest ns m
greatest_is [] m e = absurd (none-some m e)
greatest_is (n ∷ ns) m e =
    let all = above ns (max 0 n) m e in record {
      one_of_them = elim (one_of ns (max 0 n) m e) [ inl first ↦ inl (first ∙ max-eq_right (omega arith)) | inr there ↦ inr there ];
      none_above = (omega (arith, all.0, le-max_right 0 n), all.1);
    }

pub greatest_none : (ns : List ℕ) → greatest_of ns ≡ None → ns ≡ []
greatest_none [] e = refl
greatest_none (n ∷ ns) e = absurd (some ns (max 0 n) e)
