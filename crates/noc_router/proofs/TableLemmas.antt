-- A table is filled in, the first entry first.
use Rattle.std.proofs.Common.{◌≡◌, ℕ, ◌+◌, ◌<◌, ◌≤◌, List, length, get_or, set, take, ap, sym, ◌∙◌, arith, inl, inr, length-set}
use Rattle.std.specs.Prelude.{◌⊎◌}
use Rattle.std.proofs.lemmas.Bool.{cases_eq}
use Rattle.std.proofs.lemmas.List.{get_or-set_same, get_or-set_other, get_or-take, length-take-le}
use Rattle.noc_topo.specs.Lists.{tabulate}
use Rattle.noc_topo.proofs.ListLemmas.{tabulate-from_each}

-- each entry below q is that of the function
abbrev pub IsFilledTo : {X : Type 0} → ℕ → X → (ℕ → X) → List X → Type 0
IsFilledTo q d entry xs = (k : ℕ) → k < q → get_or xs k d ≡ entry k

-- one entry more
pub filled-more : {X : Type 0} (q : ℕ) (d : X) (entry : ℕ → X) (xs : List X) (x : X) → q < length xs → x ≡ entry q → IsFilledTo q d entry xs → IsFilledTo (q + 1) d entry (set xs q x)
filled-more q d entry xs x l is so_far k u = at (cases_eq k q)
  where
    at : (k ≡ q) ⊎ (k ≡ q → ⊥) → get_or (set xs q x) k d ≡ entry k
    at (inl same) = ap (λ j. get_or (set xs q x) j d) same ∙ get_or-set_same xs q x d l ∙ is ∙ ap entry (sym same)
    at (inr other) = get_or-set_other xs q k x d other ∙ so_far k (omega arith)

-- all entries
pub filled-all : {X : Type 0} (n q : ℕ) (d : X) (entry : ℕ → X) (xs : List X) → length xs ≡ n → n ≤ q → IsFilledTo q d entry xs → xs ≡ tabulate n entry
filled-all n q d entry xs long all so_far = tabulate-from_each n entry xs d long (λ k l. so_far k (omega arith))

-- ---- a table with room for more entries than there are
abbrev pub IsWrittenTo : {X : Type 0} → ℕ → ℕ → X → (ℕ → X) → List X → Type 0
IsWrittenTo room q d entry xs = (length xs ≡ room) × IsFilledTo q d entry xs

-- one entry more
pub written-more : {X : Type 0} (room q : ℕ) (d : X) (entry : ℕ → X) (xs : List X) (x : X) → q < room → x ≡ entry q → IsWrittenTo room q d entry xs → IsWrittenTo room (q + 1) d entry (set xs q x)
written-more room q d entry xs x l is h = (length-set xs q x ∙ h.0, filled-more q d entry xs x (omega (arith, h.0, l)) is h.1)

-- all entries
pub written-all : {X : Type 0} (room n q : ℕ) (d : X) (entry : ℕ → X) (xs : List X) → n ≤ room → n ≤ q → IsWrittenTo room q d entry xs → take n xs ≡ tabulate n entry
written-all room n q d entry xs few all h =
    filled-all n n d entry (take n xs) (length-take-le n xs (omega (arith, h.0, few))) (omega arith) (λ k l. get_or-take n xs k d l ∙ h.1 k (omega arith))
