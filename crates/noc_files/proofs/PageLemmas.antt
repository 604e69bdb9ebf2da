-- Texts that are put together on a page.
use Rattle.std.proofs.Common.{◌≡◌, ◌∙◌, ℕ, ◌+◌, ◌/◌, ◌%◌, ◌^◌, ◌<◌, ◌≤◌, List, arith, decimal, [], ◌∷◌, ◌++◌, flat_map, ap, sym, append_assoc, append-nil, Option, Some, None, refl}
use Rattle.std.proofs.lemmas.Fmt.{decimal_digit, decimal_step}
use Rattle.noc_topo.specs.Lists.{below}
use Rattle.noc_topo.specs.Shape.{Grid}
use Rattle.noc_files.specs.Channels.{lines_listed, lines_of_router, page_router, router_pages}
use Rattle.noc_files.proofs.BelowLemmas.{each_more}

module _ (f : ℕ → List ℕ) (old : List ℕ) where
  -- nothing is said of no number
  pub added_none : old ≡ old ++ flat_map f (below 0)
  unfolding below
  added_none = sym (append-nil old)

  -- what is said of one number more is added
  pub added_more : (n : ℕ) (page next : List ℕ) → page ≡ old ++ flat_map f (below n) → next ≡ page ++ f n → next ≡ old ++ flat_map f (below (n + 1))
  added_more n page next so_far more =
      more ∙ ap (λ (t : List ℕ). t ++ f n) so_far ∙ append_assoc old (flat_map f (below n)) (f n) ∙ ap (λ (t : List ℕ). old ++ t) (sym (each_more f n))

-- a page for each router
pub listing_is : (g : Grid) (listed vcs : ℕ) (router : Option ℕ) (said : ℕ → ℕ → ℕ → List ℕ)
    → flat_map (λ n. lines_of_router g listed vcs (page_router router n) (said (page_router router n))) (below (router_pages g router)) ≡ lines_listed g listed vcs router said
unfolding below
listing_is g listed vcs None said = refl
listing_is g listed vcs (Some r) said = append-nil (lines_of_router g listed vcs r (said r))

-- ---- digits

-- a number of one digit
pub first_digit : (page next : List ℕ) (n : ℕ) → n < 10 → next ≡ page ++ (48 + n) ∷ [] → next ≡ page ++ decimal n
first_digit page next n small added = added ∙ ap (λ (t : List ℕ). page ++ t) (sym (decimal_digit n small))

-- the digits of a number but its last, and then the last
pub last_digit : (page all next : List ℕ) (n : ℕ) → 10 ≤ n → n < 2 ^ 32 → all ≡ page ++ decimal (n / 10) → next ≡ all ++ (48 + n % 10) ∷ [] → next ≡ page ++ decimal n
last_digit page all next n more fits before added =
    added ∙ ap (λ (t : List ℕ). t ++ (48 + n % 10) ∷ []) before ∙ append_assoc page (decimal (n / 10)) ((48 + n % 10) ∷ []) ∙ ap (λ (t : List ℕ). page ++ t) (sym (decimal_step n more (omega (arith, fits))))
