-- Ranks along single steps.
use Rattle.std.specs.Prelude.{ℕ, Bool, false, List, Option, Some, None, nat_le, is_some, slice_index_or, if◌then◌else◌}

-- whether a rank is no less than the one ahead, where both are there
abbrev pub falls : Option ℕ → Option ℕ → Bool
falls None ahead = false
falls (Some rank) None = false
falls (Some rank) (Some ahead) = nat_le ahead rank

-- what the channel with an index counts for: its mark where it has a rank, else
-- the least mark ahead of it
abbrev pub counts_for : List (Option ℕ) → List (Option ℕ) → List (Option ℕ) → ℕ → Option ℕ
counts_for ranks marks least index =
    if is_some (slice_index_or ranks index None) then slice_index_or marks index None
    else slice_index_or least index None
