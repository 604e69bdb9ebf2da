-- Words that are joined, or taken away, port by port.
use Rattle.std.specs.Prelude.{ℕ, zero, suc, Bool, false, ◌||◌, bit_or}
use Rattle.noc_sets.specs.Sets.{less}

-- a word with those of the ports below n
abbrev pub union_from : ℕ → ℕ → (ℕ → ℕ) → ℕ
union_from base zero words = base
union_from base (suc n) words = bit_or (union_from base n words) (words n)

-- a word without those of the ports below n
abbrev pub rest_from : ℕ → ℕ → (ℕ → ℕ) → ℕ
rest_from base zero words = base
rest_from base (suc n) words = less (rest_from base n words) (words n)

-- whether a test holds of some number below n
abbrev pub some_below : ℕ → (ℕ → Bool) → Bool
some_below zero test = false
some_below (suc n) test = some_below n test || test n
