-- What a search in rising numbers finds, and the arrivals beside them.
use Rattle.std.proofs.Common.{◌≡◌, ◌≢◌, ℕ, zero, suc, ◌+◌, ◌<◌, ◌≤◌, true, false, List, [], ◌∷◌, map, length, get_or, set, Option, Some, None, refl, ap, sym, ◌∙◌, arith, inl, inr}
use Rattle.std.specs.Prelude.{◌||◌, ◌⊎◌, is_none, is_some, Ok, Err}
use Rattle.std.specs.Ordering.{nat_cmp}
use Rattle.std.specs.List.{zip}
use Rattle.std.specs.List.Sorted.{IsStrictlyIncreasing, IsBinarySearchResult}
use Rattle.std.proofs.lemmas.Bool.{cases_eq, cases_lt, eq-eqb, ne_eqb, false≢true}
use Rattle.std.proofs.lemmas.List.Sorted.{searched}
use Rattle.std.proofs.Math.Bool.{or-false}
use Rattle.noc_view.specs.Arrivals.{is_expected_in, arrivals_after, noted_arrival}

-- p stands at this index only
abbrev pub IsOnly : List ℕ → ℕ → ℕ → Type 0
IsOnly es p index = (k : ℕ) → k < length es → get_or es k 0 ≡ p → k ≡ index

-- p stands nowhere
abbrev pub IsAbsent : List ℕ → ℕ → Type 0
IsAbsent es p = (k : ℕ) → k < length es → get_or es k 0 ≢ p

pub rises : (es : List ℕ) → IsStrictlyIncreasing es → (j i : ℕ) → i < j → j < length es → get_or es i 0 < get_or es j 0
rises es up zero i l u = absurd (omega arith)
rises es up (suc j) i l u = at (cases_eq i j) (λ less. rises es up j i less (omega arith))
  where
    step : get_or es j 0 < get_or es (suc j) 0
    step = let e : j + 1 ≡ suc j = omega arith in let h : get_or es (j + 1) 0 ≡ get_or es (suc j) 0 = ap (λ k. get_or es k 0) e in omega (arith, up j (omega arith))

    at : (i ≡ j) ⊎ (i ≡ j → ⊥) → (i < j → get_or es i 0 < get_or es j 0) → get_or es i 0 < get_or es (suc j) 0
    at (inl same) before = let h : get_or es i 0 ≡ get_or es j 0 = ap (λ k. get_or es k 0) same in omega (arith, step)
    at (inr other) before = let h : get_or es i 0 < get_or es j 0 = before (omega arith) in omega (arith, step)

pub rises-weakly : (es : List ℕ) → IsStrictlyIncreasing es → (i j : ℕ) → i ≤ j → j < length es → get_or es i 0 ≤ get_or es j 0
rises-weakly es up i j l u = at (cases_eq i j)
  where
    at : (i ≡ j) ⊎ (i ≡ j → ⊥) → get_or es i 0 ≤ get_or es j 0
    at (inl same) = let h : get_or es i 0 ≡ get_or es j 0 = ap (λ k. get_or es k 0) same in omega arith
    at (inr other) = omega (arith, rises es up j i (omega arith) u)

pub only-at : (es : List ℕ) (p index : ℕ) → IsStrictlyIncreasing es → index < length es → get_or es index 0 ≡ p → IsOnly es p index
only-at es p index up l e k u h = at (cases_eq k index) (cases_lt k index)
  where
    at : (k ≡ index) ⊎ (k ≡ index → ⊥) → (k < index) ⊎ (index ≤ k) → k ≡ index
    at (inl same) _ = same
    at (inr other) (inl less) = absurd (omega (arith, rises es up index k less l))
    at (inr other) (inr more) = absurd (omega (arith, rises es up k index (omega arith) u))

-- nothing of p where it stands nowhere
pub absent-expected : (es : List ℕ) (cs : List (Option ℕ)) (p : ℕ) → IsAbsent es p → is_expected_in p (zip es cs) ≡ false
absent-expected [] cs p h = refl
absent-expected (e ∷ es) [] p h = refl
absent-expected (e ∷ es) (c ∷ cs) p h = rw (ne_eqb e p (h 0 (omega arith))) (absent-expected es cs p (λ k l. h (suc k) (omega arith)))

pub absent-noted : (es : List ℕ) (cs : List (Option ℕ)) (p cycle : ℕ) → IsAbsent es p → arrivals_after p cycle (zip es cs) ≡ zip es cs
absent-noted [] cs p cycle h = refl
absent-noted (e ∷ es) [] p cycle h = refl
absent-noted (e ∷ es) (c ∷ cs) p cycle h = rw (ne_eqb e p (h 0 (omega arith))) (ap (λ rest. (e, c) ∷ rest) (absent-noted es cs p cycle (λ k l. h (suc k) (omega arith))))

pub absent-arrival : (es : List ℕ) (cs : List (Option ℕ)) (p : ℕ) → IsAbsent es p → noted_arrival p (zip es cs) ≡ None
absent-arrival [] cs p h = refl
absent-arrival (e ∷ es) [] p h = refl
absent-arrival (e ∷ es) (c ∷ cs) p h = rw (ne_eqb e p (h 0 (omega arith))) (absent-arrival es cs p (λ k l. h (suc k) (omega arith)))

rest-absent : (e : ℕ) (es : List ℕ) (p : ℕ) → IsOnly (e ∷ es) p 0 → IsAbsent es p
rest-absent e es p only k l is = let bad : suc k ≡ 0 = only (suc k) (omega arith) is in absurd (omega arith)

first-other : (e : ℕ) (es : List ℕ) (p index : ℕ) → IsOnly (e ∷ es) p (suc index) → e ≢ p
first-other e es p index only is = let bad : 0 ≡ suc index = only 0 (omega arith) is in absurd (omega arith)

rest-only : (e : ℕ) (es : List ℕ) (p index : ℕ) → IsOnly (e ∷ es) p (suc index) → IsOnly es p index
rest-only e es p index only k l is = let s : suc k ≡ suc index = only (suc k) (omega arith) is in omega arith

-- where p stands at one index only
pub found-expected : (es : List ℕ) (cs : List (Option ℕ)) (p index : ℕ) → length cs ≡ length es → index < length es → get_or es index 0 ≡ p → IsOnly es p index
    → is_expected_in p (zip es cs) ≡ is_none (get_or cs index None)
found-expected [] cs p index same l is only = absurd (omega arith)
found-expected (e ∷ es) [] p index same l is only = absurd (omega arith)
found-expected (e ∷ es) (c ∷ cs) p zero same l is only =
    rw (eq-eqb e p is) (ap (λ b. is_none c || b) (absent-expected es cs p (rest-absent e es p only)) ∙ or-false (is_none c))
found-expected (e ∷ es) (c ∷ cs) p (suc index) same l is only =
    rw (ne_eqb e p (first-other e es p index only)) (found-expected es cs p index (omega arith) (omega arith) is (rest-only e es p index only))

pub found-noted : (es : List ℕ) (cs : List (Option ℕ)) (p index cycle : ℕ) → length cs ≡ length es → index < length es → get_or es index 0 ≡ p → IsOnly es p index
    → zip es (set cs index (Some cycle)) ≡ arrivals_after p cycle (zip es cs)
found-noted [] cs p index cycle same l is only = absurd (omega arith)
found-noted (e ∷ es) [] p index cycle same l is only = absurd (omega arith)
found-noted (e ∷ es) (c ∷ cs) p zero cycle same l is only =
    rw (eq-eqb e p is) (ap (λ rest. (e, Some cycle) ∷ rest) (sym (absent-noted es cs p cycle (rest-absent e es p only))))
found-noted (e ∷ es) (c ∷ cs) p (suc index) cycle same l is only =
    rw (ne_eqb e p (first-other e es p index only)) (ap (λ rest. (e, c) ∷ rest) (found-noted es cs p index cycle (omega arith) (omega arith) is (rest-only e es p index only)))

pub found-arrival : (es : List ℕ) (cs : List (Option ℕ)) (p index : ℕ) → length cs ≡ length es → index < length es → get_or es index 0 ≡ p → IsOnly es p index
    → noted_arrival p (zip es cs) ≡ get_or cs index None
found-arrival [] cs p index same l is only = absurd (omega arith)
found-arrival (e ∷ es) [] p index same l is only = absurd (omega arith)
found-arrival (e ∷ es) (c ∷ cs) p zero same l is only = rw (eq-eqb e p is) refl
found-arrival (e ∷ es) (c ∷ cs) p (suc index) same l is only =
    rw (ne_eqb e p (first-other e es p index only)) (found-arrival es cs p index (omega arith) (omega arith) is (rest-only e es p index only))

-- what an unsuccessful search says
pub absent-from_search : (es : List ℕ) (p i : ℕ) → ((k : ℕ) → k < i → get_or es k 0 < p) → ((k : ℕ) → i ≤ k → k < length es → p < get_or es k 0) → IsAbsent es p
absent-from_search es p i low high k l is = at (cases_lt k i)
  where
    at : (k < i) ⊎ (i ≤ k) → ⊥
    at (inl less) = omega (arith, low k less)
    at (inr more) = omega (arith, high k more l)

pub index-found : (es : List ℕ) (p index : ℕ) → IsStrictlyIncreasing es → IsBinarySearchResult (λ y. nat_cmp y p) es (Ok index) → (index < length es) × (get_or es index 0 ≡ p) × IsOnly es p index
index-found es p index up answer =
    let r = searched es p (Ok index) answer (rises-weakly es up) in (r.0, r.1, only-at es p index up r.0 r.1)

pub index-absent : (es : List ℕ) (p i : ℕ) → IsStrictlyIncreasing es → IsBinarySearchResult (λ y. nat_cmp y p) es (Err i) → IsAbsent es p
index-absent es p i up answer = let r = searched es p (Err i) answer (rises-weakly es up) in absent-from_search es p i r.1 r.2

-- before any arrival
pub zip-none : (es : List ℕ) (cs : List (Option ℕ)) → length cs ≡ length es → ((k : ℕ) → k < length es → get_or cs k None ≡ None) → zip es cs ≡ map (λ p. (p, None)) es
zip-none [] cs same none = refl
zip-none (e ∷ es) [] same none = absurd (omega arith)
zip-none (e ∷ es) (c ∷ cs) same none =
    ap (λ x. (e, x) ∷ zip es cs) (none 0 (omega arith)) ∙ ap (λ rest. (e, None) ∷ rest) (zip-none es cs (omega arith) (λ k l. none (suc k) (omega arith)))

pub none-from_some : (o : Option ℕ) → is_some o ≡ true → is_none o ≡ false
none-from_some None e = absurd (false≢true e)
none-from_some (Some x) e = refl

pub none-from_not_some : (o : Option ℕ) → is_some o ≡ false → is_none o ≡ true
none-from_not_some None e = refl
none-from_not_some (Some x) e = absurd (false≢true (sym e))
