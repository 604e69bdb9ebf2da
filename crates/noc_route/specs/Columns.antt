-- Tables by columns: the sets of an input channel of a router and a class, by destination.
use Rattle.std.specs.Prelude.{◌≡◌, ◌⊎◌, ℕ, ◌+◌, ◌*◌, ◌/◌, ◌%◌, ◌<◌, ◌≤◌, List, length, slice_index}
use Rattle.noc_topo.specs.Lists.{tabulate}
use Rattle.noc_topo.specs.Shape.{nodes}
use Rattle.noc_route.specs.Routes.{width, pages}
use Rattle.noc_route.specs.declared.sizes.Sizes.{Sizes}

-- the set at an index of a table, from where the column of its input begins
abbrev pub column_set : Sizes → List ℕ → List ℕ → ℕ → ℕ
column_set f sets starts j =
    let w = width f.shape f.vcs in
    slice_index sets
    (slice_index starts (j / w / nodes f.shape * w + j % w) + j / w % nodes f.shape)

-- the table of these columns
abbrev pub table_of : Sizes → List ℕ → List ℕ → List ℕ
table_of f sets starts =
    tabulate (pages f.shape f.classes * width f.shape f.vcs) (column_set f sets starts)

-- each router, class and input has a column among this many sets
pub record AreColumns (f : Sizes) (starts : List ℕ) (count : ℕ) : Type 0 where
  pub long : length starts ≡ nodes f.shape * f.classes * width f.shape f.vcs
  pub within : (c : ℕ) → c < nodes f.shape * f.classes * width f.shape f.vcs
      → slice_index starts c + nodes f.shape ≤ count

-- the column of an input of a block, the sets of one router and class, stands there
abbrev pub IsColumnAt : Sizes → List ℕ → ℕ → List ℕ → ℕ → Type 0
IsColumnAt f block input sets start =
    (t : ℕ) → t < nodes f.shape
    → slice_index sets (start + t) ≡ slice_index block (input * nodes f.shape + t)

-- a column stands there among the sets
abbrev pub StandsAt : List ℕ → List ℕ → ℕ → Type 0
StandsAt column sets start =
    (t : ℕ) → t < length column → slice_index sets (start + t) ≡ slice_index column t

-- the columns of the first inputs of a block stand between `first` and `end`, where `starts` says,
-- and nothing else was written
pub record AreKeptTo (f : Sizes) (block before sets old_starts starts : List ℕ)
    (pair first inputs end : ℕ) : Type 0 where
  pub grown : first ≤ end
  pub few : end ≤ first + inputs * nodes f.shape
  pub within : (i : ℕ) → i < inputs
      → slice_index starts (pair * width f.shape f.vcs + i) + nodes f.shape ≤ end
  pub same : (i : ℕ) → i < inputs
      → IsColumnAt f block i sets (slice_index starts (pair * width f.shape f.vcs + i))
  pub others : (j : ℕ) → (j < first) ⊎ (first + length block ≤ j)
      → slice_index sets j ≡ slice_index before j
  pub earlier : (c : ℕ) → c < pair * width f.shape f.vcs
      → slice_index starts c ≡ slice_index old_starts c

-- the columns of the first of a table's pairs of a router and a class stand before `end`, where
-- `starts` says
pub record AreKept (f : Sizes) (table sets starts : List ℕ) (pairs end : ℕ) : Type 0 where
  pub within : (q i : ℕ) → q < pairs → i < width f.shape f.vcs
      → slice_index starts (q * width f.shape f.vcs + i) + nodes f.shape ≤ end
  pub same : (q i t : ℕ) → q < pairs → i < width f.shape f.vcs → t < nodes f.shape
      → slice_index sets (slice_index starts (q * width f.shape f.vcs + i) + t)
      ≡ slice_index table ((q * nodes f.shape + t) * width f.shape f.vcs + i)
