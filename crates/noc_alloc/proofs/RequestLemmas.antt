-- Who is named in a list.
use Rattle.std.proofs.Common.{◌≡◌, ℕ, ◌<◌, ◌≤◌, List, length, get_or, replicate, Option, Some, None, sym, ◌∙◌, arith, inl, inr, subst}
use Rattle.std.specs.Prelude.{IfSome, ◌⊎◌}
use Rattle.std.proofs.Math.ListN.{get_or-eq_default}
use Rattle.std.proofs.lemmas.Bool.{cases_lt}
use Rattle.std.proofs.lemmas.List.{get_or-replicate, length-replicate}
use Rattle.noc_alloc.specs.Requests.{AllBelow}

-- an entry of a list whose entries are all d
pub at_replicate : {X : Type 0} (d : X) (n k : ℕ) → get_or (replicate n d) k d ≡ d
at_replicate d n k = at (cases_lt k n)
  where
    at : (k < n) ⊎ (n ≤ k) → get_or (replicate n d) k d ≡ d
    at (inl l) = get_or-replicate n k d d l
    at (inr u) = get_or-eq_default (replicate n d) d (omega (arith, length-replicate n d))

-- nobody is below n
nobody_below : (n x : ℕ) → None ≡ Some x → x < n
nobody_below n x e = cc

-- whoever is named is below n, said another way
pub below-from : (n : ℕ) (xs : List (Option ℕ)) → ((k : ℕ) (d : Option ℕ) → k < length xs → IfSome (get_or xs k d) (λ i. i < n)) → AllBelow n xs
below-from n xs each k d l x e = subst (λ o. IfSome o (λ i. i < n)) e (each k d l)

-- whoever is named at an index is below n
pub below-at : (n : ℕ) (xs : List (Option ℕ)) (k : ℕ) → AllBelow n xs → (x : ℕ) → get_or xs k None ≡ Some x → x < n
below-at n xs k all x e = at (cases_lt k (length xs))
  where
    at : (k < length xs) ⊎ (length xs ≤ k) → x < n
    at (inl l) = all k None l x e
    at (inr u) = nobody_below n x (sym (get_or-eq_default xs None u) ∙ e)
