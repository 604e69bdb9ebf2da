-- The sets of one router out of words that are each one channel of 64 routers.
use Rattle.std.specs.Prelude.{◌≡◌, ℕ, zero, suc, ◌^◌, ◌<◌, Bool, true, List, bit_or, if◌then◌else◌, slice_index}
use Rattle.noc_packet.specs.Set.{has_bit}

-- the word with this index
abbrev pub word : ℕ → List ℕ → ℕ
word index words = slice_index words index

-- which channels are read, and the index of the word of each
pub record Numbering : Type 0 where
  pub size : ℕ
  pub index : ℕ → ℕ

-- each has one of the first so many words
abbrev pub IsWithin : ℕ → Numbering → Type 0
IsWithin count n = (c : ℕ) → c < n.size → n.index c < count

-- no two have the same word
abbrev pub AreApart : Numbering → Type 0
AreApart n = (c d : ℕ) → c < n.size → d < n.size → n.index c ≡ n.index d → c ≡ d

-- the numbers below n of which a test holds, as a set
abbrev pub set_below : ℕ → (ℕ → Bool) → ℕ
set_below zero test = 0
set_below (suc n) test = bit_or (set_below n test) (if test n then 2 ^ n else 0)

-- the set of router r, where channel c has this word
abbrev pub set_by : Numbering → ℕ → (ℕ → ℕ) → ℕ
set_by n r words = set_below n.size (λ c. has_bit (words (n.index c)) r)

-- the set of router r, out of the words of a block
abbrev pub set_of : Numbering → ℕ → List ℕ → ℕ
set_of n r words = set_by n r (λ i. slice_index words i)

-- the set of router r, where all channels have one word
abbrev pub set_alike : Numbering → ℕ → ℕ → ℕ
set_alike n r word = set_by n r (λ i. word)

-- all of them
abbrev pub all_of : Numbering → ℕ
all_of n = set_below n.size (λ c. true)
