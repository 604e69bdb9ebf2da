-- The counts of a channel, one cycle more.
use Rattle.std.proofs.Common.{◌≡◌, ℕ, zero, suc, ◌+◌, ◌-◌, ◌^◌, ◌<◌, Bool, true, cond, List, [], ◌∷◌, ◌++◌, length, get_or, set, sum, refl, ap, sym, ◌∙◌, arith, inl, inr, add-one, add-zero, zero-add}
use Rattle.std.specs.Prelude.{count_by, nat_eq, ◌⊎◌, nat_lt}
use Rattle.std.proofs.lemmas.List.Sums.{sum_by-append}
use Rattle.noc_view.specs.Verdict.{column}
use Rattle.noc_view.proofs.ColumnLemmas.{column-small, sum-raised}
use Rattle.noc_theory.proofs.Common.{cases_eq, lt-ltb, eq-eqb, ne_eqb, length-set, get_or-set_same, get_or-set_other, below, tabulate, get_or-tabulate, length-tabulate, tabulate-from_each, below-next, counts_after, Verdict}

abbrev pub counts_of : (ℕ → Verdict) → ℕ → List ℕ
counts_of verdict n = tabulate 10 (λ k. count_by (λ m. nat_eq (column (verdict m)) k) (below n))

count-next : (t : ℕ → Bool) (xs : List ℕ) (x : ℕ) → count_by t (xs ++ x ∷ []) ≡ count_by t xs + cond (t x) 1 0
count-next t xs x = sum_by-append (λ y. cond (t y) 1 0) xs (x ∷ []) ∙ ap (λ k. count_by t xs + k) (zero-add (cond (t x) 1 0))

-- one more in the column of the verdict
next-set : (verdict : ℕ → Verdict) (n : ℕ) → set (counts_of verdict n) (column (verdict n)) (get_or (counts_of verdict n) (column (verdict n)) 0 + 1) ≡ counts_of verdict (n + 1)
next-set verdict n =
    tabulate-from_each 10 (λ k. count_by (λ m. nat_eq (column (verdict m)) k) (below (n + 1)))
    (set (counts_of verdict n) (column (verdict n)) (get_or (counts_of verdict n) (column (verdict n)) 0 + 1)) 0
    (length-set _ _ _ ∙ length-tabulate 10 _)
    (λ k l. at k l (cases_eq (column (verdict n)) k))
  where
    now : (k : ℕ) → k < 10 → get_or (counts_of verdict n) k 0 ≡ count_by (λ m. nat_eq (column (verdict m)) k) (below n)
    now k l = get_or-tabulate 10 k _ 0 l

    then : (k : ℕ) → count_by (λ m. nat_eq (column (verdict m)) k) (below (n + 1)) ≡ count_by (λ m. nat_eq (column (verdict m)) k) (below n) + cond (nat_eq (column (verdict n)) k) 1 0
    then k = ap (count_by (λ m. nat_eq (column (verdict m)) k)) (below-next n) ∙ count-next (λ m. nat_eq (column (verdict m)) k) (below n) n

    at : (k : ℕ) → k < 10 → (column (verdict n) ≡ k) ⊎ (column (verdict n) ≡ k → ⊥)
        → get_or (set (counts_of verdict n) (column (verdict n)) (get_or (counts_of verdict n) (column (verdict n)) 0 + 1)) k 0 ≡ count_by (λ m. nat_eq (column (verdict m)) k) (below (n + 1))
    at k l (inl e) =
        let len : length (counts_of verdict n) ≡ 10 = length-tabulate 10 _ in
        let same : get_or (set (counts_of verdict n) (column (verdict n)) (get_or (counts_of verdict n) (column (verdict n)) 0 + 1)) (column (verdict n)) 0 ≡ get_or (counts_of verdict n) (column (verdict n)) 0 + 1
        = get_or-set_same (counts_of verdict n) (column (verdict n)) _ 0 (let c = column-small (verdict n) in omega (arith, len)) in
        let one : cond (nat_eq (column (verdict n)) k) 1 0 ≡ 1 = ap (λ b. cond b 1 0) (eq-eqb (column (verdict n)) k e) in
        let was = now k l in
        let will = then k in
        let moved : get_or (set (counts_of verdict n) (column (verdict n)) (get_or (counts_of verdict n) (column (verdict n)) 0 + 1)) k 0 ≡ get_or (counts_of verdict n) k 0 + 1
        = ap (λ j. get_or (set (counts_of verdict n) (column (verdict n)) (get_or (counts_of verdict n) (column (verdict n)) 0 + 1)) j 0) (sym e) ∙ same ∙ ap (λ j. get_or (counts_of verdict n) j 0 + 1) e in
        moved ∙ ap (λ x. x + 1) was ∙ sym (will ∙ ap (λ x. count_by (λ m. nat_eq (column (verdict m)) k) (below n) + x) one)
    at k l (inr other) =
        let none : cond (nat_eq (column (verdict n)) k) 1 0 ≡ 0 = ap (λ b. cond b 1 0) (ne_eqb (column (verdict n)) k other) in
        get_or-set_other (counts_of verdict n) (column (verdict n)) k _ 0 (λ e. other (sym e)) ∙ now k l
        ∙ sym (then k ∙ ap (λ x. count_by (λ m. nat_eq (column (verdict m)) k) (below n) + x) none ∙ add-zero _)

zeros : (verdict : ℕ → Verdict) → counts_of verdict 0 ≡ 0 ∷ 0 ∷ 0 ∷ 0 ∷ 0 ∷ 0 ∷ 0 ∷ 0 ∷ 0 ∷ 0 ∷ []
unfolding tabulate below
zeros verdict = refl

-- each cycle is counted once
pub sum-counts : (verdict : ℕ → Verdict) (n : ℕ) → sum (counts_of verdict n) ≡ n
sum-counts verdict zero = ap sum (zeros verdict)
sum-counts verdict (suc n) =
    let len : length (counts_of verdict n) ≡ 10 = length-tabulate 10 _ in
    let low = column-small (verdict n) in
    let before = sum-counts verdict n in
    let next : counts_of verdict (suc n) ≡ counts_of verdict (n + 1) = ap (counts_of verdict) (sym (add-one n)) in
    let more : sum (set (counts_of verdict n) (column (verdict n)) (get_or (counts_of verdict n) (column (verdict n)) 0 + 1)) ≡ sum (counts_of verdict n) + 1
    = sum-raised (counts_of verdict n) (column (verdict n)) (omega (arith, len)) in
    let all : sum (counts_of verdict (suc n)) ≡ sum (counts_of verdict n) + 1 = ap sum (next ∙ sym (next-set verdict n)) ∙ more in
    omega (arith, all, before)

-- the counts after one cycle more, as long as the cycles can be counted
pub counted-next : (verdict : ℕ → Verdict) (n : ℕ) → n < 2 ^ 64 - 1 → counts_after (verdict n) (counts_of verdict n) ≡ counts_of verdict (suc n)
counted-next verdict n l =
    let few : nat_lt (sum (counts_of verdict n)) (2 ^ 64 - 1) ≡ true = ap (λ x. nat_lt x (2 ^ 64 - 1)) (sum-counts verdict n) ∙ lt-ltb n (2 ^ 64 - 1) l in
    ap (λ b. cond b (set (counts_of verdict n) (column (verdict n)) (get_or (counts_of verdict n) (column (verdict n)) 0 + 1)) (counts_of verdict n)) few
    ∙ next-set verdict n
    ∙ ap (counts_of verdict) (add-one n)
