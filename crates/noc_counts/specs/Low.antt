-- The lowest four bits of counts.
use Rattle.std.specs.Prelude.{◌≡◌, ◌⊎◌, ℕ, zero, suc, ◌+◌, ◌*◌, ◌<◌, ◌≤◌, List, [], slice_index_or}
use Rattle.noc_packet.specs.Set.{has_bit}
use Rattle.noc_topo.specs.Lists.{one_if}
use Rattle.noc_columns.specs.Words.{word}
use Rattle.noc_counts.specs.declared.low.Low.{Low}
use Rattle.noc_counts.specs.declared.low.TheConstants.{SLOTS}

-- what f makes of the words
abbrev pub low_by : (List ℕ → ℕ) → Low (List ℕ) → Low ℕ
low_by f low = record {
  ones = f low.ones;
  twos = f low.twos;
  fours = f low.fours;
  eights = f low.eights;
}

-- the number of router r, bit by bit
abbrev pub low_in : Low ℕ → ℕ → ℕ
low_in low r =
    one_if (has_bit low.ones r) + 2 * one_if (has_bit low.twos r)
    + 4 * one_if (has_bit low.fours r) + 8 * one_if (has_bit low.eights r)

-- .. in word j
abbrev pub low_at : Low (List ℕ) → ℕ → ℕ → ℕ
low_at low j r = low_in (low_by (word j) low) r

-- in how many of the first n of these sets router r has word j
unfoldable pub set_sum : List (List ℕ) → ℕ → ℕ → ℕ → ℕ
set_sum sets zero j r = 0
set_sum sets (suc n) j r =
    set_sum sets n j r + one_if (has_bit (word j (slice_index_or sets n [])) r)

-- the words from `first` on, up to `end`, are raised by what is more of each. What they carry is
-- written, and the others are as they were
pub record HasRaised (more : ℕ → ℕ → ℕ) (first end : ℕ) (old new : Low (List ℕ))
    (before carry : List ℕ) : Type 0 where
  pub done : (j r : ℕ) → first ≤ j → j < end
      → low_at new j r + SLOTS * one_if (has_bit (word j carry) r) ≡ low_at old j r + more j r
  pub left : (j : ℕ) → (j < first) ⊎ (end ≤ j) → low_by (word j) new ≡ low_by (word j) old
  pub kept : (j : ℕ) → (j < first) ⊎ (end ≤ j) → word j carry ≡ word j before
