-- A row of a list that is written one number after the other.
use Rattle.std.proofs.Common.{◌≡◌, ◌≢◌, ℕ, ◌+◌, ◌<◌, ◌≤◌, List, length, get_or, set, arith, inl, inr, ◌∙◌, below_more}
use Rattle.std.specs.Prelude.{◌⊎◌}
use Rattle.std.proofs.lemmas.List.{get_or-set_same, get_or-set_other}

-- what stands from `start` on, as far as number n
abbrev pub StandsTo : (ℕ → ℕ) → List ℕ → ℕ → ℕ → Type 0
StandsTo want sets start n = (t : ℕ) → t < n → get_or sets (start + t) 0 ≡ want t

-- what is left alone by a row that is written as far as number n
abbrev pub LeavesOthers : List ℕ → List ℕ → ℕ → ℕ → Type 0
LeavesOthers before sets start n = (j : ℕ) → (j < start) ⊎ (start + n ≤ j) → get_or sets j 0 ≡ get_or before j 0

pub written-more : (want : ℕ → ℕ) (sets : List ℕ) (start n b : ℕ) → start + n < length sets → b ≡ want n → StandsTo want sets start n → StandsTo want (set sets (start + n) b) start (n + 1)
written-more want sets start n b there is all =
    below_more (λ t. get_or (set sets (start + n) b) (start + t) 0 ≡ want t) n
    (λ t l. let other : start + t ≢ start + n = omega arith in get_or-set_other sets (start + n) (start + t) b 0 other ∙ all t l)
    (get_or-set_same sets (start + n) b 0 there ∙ is)

pub others-more : (before sets : List ℕ) (start n b : ℕ) → LeavesOthers before sets start n → LeavesOthers before (set sets (start + n) b) start (n + 1)
others-more before sets start n b all j (inl l) = let other : j ≢ start + n = omega arith in get_or-set_other sets (start + n) j b 0 other ∙ all j (inl l)
others-more before sets start n b all j (inr l) = let other : j ≢ start + n = omega arith in get_or-set_other sets (start + n) j b 0 other ∙ all j (inr (omega arith))
