-- How often four channels of a block had each verdict, place by place of a row: what was added of
-- sixteen cycles at a time, and the cycles since then.
use Rattle.std.specs.Prelude.{◌≡◌, ℕ, ◌+◌, ◌*◌, ◌/◌, ◌%◌, ◌^◌, ◌<◌, List, [], slice_index_or}
use Rattle.noc_packet.specs.Set.{has_bit}
use Rattle.noc_topo.specs.Lists.{one_if}
use Rattle.noc_columns.specs.Words.{word}
use Rattle.noc_counts.specs.Low.{low_at, set_sum}
use Rattle.noc_counts.specs.Tallies.{counted_at}
use Rattle.noc_counts.specs.declared.count.Count.{Count}
use Rattle.noc_counts.specs.declared.low.TheConstants.{SLOTS}
use Rattle.noc_counts.specs.declared.row.TheConstants.{ROW}
use Rattle.noc_counts.specs.declared.tally.TheConstants.{LEVELS}

-- the row of one of the last cycles
abbrev pub set_in : Count → ℕ → List ℕ
set_in c slot = slice_index_or c.recent slot []

-- what was added for router r at place j, where sixteen cycles were so many times
abbrev pub added_in : Count → ℕ → ℕ → ℕ → ℕ
added_in c times j r =
    low_at c.low j r
    + 16 * (counted_at c.tally (times / 4) j r + set_sum c.carried (times % 4) j r)

-- what was noted since then, in so many cycles
abbrev pub noted_in : Count → ℕ → ℕ → ℕ → ℕ
noted_in c slots j r = set_sum c.recent slots j r

-- how often router r had the verdict at place j, where so many cycles were counted one by one
abbrev pub count_in : Count → ℕ → ℕ → ℕ → ℕ
count_in c cycles j r = added_in c (cycles / SLOTS) j r + noted_in c (cycles % SLOTS) j r

-- the row of the last of these
abbrev pub last_of : Count → ℕ → List ℕ
last_of c cycles = set_in c ((cycles + 15) % SLOTS)

-- ---- a cycle more
-- its row was noted
pub record HasNoted (slot : ℕ) (row : List ℕ) (old new : Count) : Type 0 where
  pub counts : (j r : ℕ) → j < ROW
      → noted_in new (slot + 1) j r ≡ noted_in old slot j r + one_if (has_bit (word j row) r)
  pub last : set_in new slot ≡ row
  pub rest : new ≡ record old { recent = new.recent }

-- the last sixteen cycles were added, where such had been added so many times
pub record HasAdded (times : ℕ) (old new : Count) : Type 0 where
  pub counts : (j r : ℕ) → j < ROW → times + 1 < 2 ^ LEVELS
      → added_in new (times + 1) j r ≡ added_in old times j r + noted_in old SLOTS j r
  pub recent : new.recent ≡ old.recent

-- it was counted, where so many were counted before
pub record HasCounted (cycles : ℕ) (row : List ℕ) (old new : Count) : Type 0 where
  pub counts : (j r : ℕ) → j < ROW → cycles + 1 < 2 ^ 32
      → count_in new (cycles + 1) j r
      ≡ count_in old cycles j r + one_if (has_bit (word j row) r)
  pub last : last_of new (cycles + 1) ≡ row
