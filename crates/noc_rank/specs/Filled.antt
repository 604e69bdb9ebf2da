-- What the search for the least mark ahead of each channel (`LeastAhead`) has filled in so far.
use Rattle.std.specs.Prelude.{ℕ, List, Option}
use Rattle.noc_rank.specs.LeastAhead.{AreLeast, AreAllLeast, IsValueIn}
use Rattle.noc_rank.specs.declared.ahead.Search.{Search}

-- the list has the least mark ahead of each channel that arrives before input channel i
-- of router b at distance d
abbrev pub IsFilled : Search → ℕ → ℕ → ℕ → List (Option ℕ) → Type 0
IsFilled s d b i least = AreLeast s.relation.now s.ranks.now s.marks.now s.class s.dst d b i least

-- the list has the least mark ahead of each link channel
abbrev pub IsAllFilled : Search → List (Option ℕ) → Type 0
IsAllFilled s least = AreAllLeast s.relation.now s.ranks.now s.marks.now s.class s.dst least

-- a channel of this set of a router, with an index below `end`, counts for n
abbrev pub IsFoundIn : Search → List (Option ℕ) → ℕ → ℕ → ℕ → ℕ → Type 0
IsFoundIn s least router set end n =
    IsValueIn s.relation.now s.ranks.now s.marks.now least router set end n
