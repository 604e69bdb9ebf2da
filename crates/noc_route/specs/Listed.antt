-- Lists of sets that are kept by the number of their kind.
use Rattle.std.specs.Prelude.{◌≡◌, ℕ, ◌<◌, ◌≤◌, List, [], ◌∷◌, length, map, slice_index}

-- the sets whose kinds have these numbers, and where there are no numbers all sets
abbrev pub listed : List ℕ → List ℕ → List ℕ
listed sets [] = sets
listed sets (n ∷ numbers) = map (λ k. slice_index sets k) (n ∷ numbers)

-- each number is that of a set
abbrev pub AreNumbers : List ℕ → List ℕ → Type 0
AreNumbers sets numbers = (j : ℕ) → j < length numbers → slice_index numbers j < length sets

-- of the first sets each is of the kind with its number, among so many kinds
pub record AreNumbered (sets kinds numbers : List ℕ) (many count : ℕ) : Type 0 where
  pub few : count ≤ many
  pub within : (j : ℕ) → j < many → slice_index numbers j < count
  pub same : (j : ℕ) → j < many
      → slice_index kinds (slice_index numbers j) ≡ slice_index sets j
