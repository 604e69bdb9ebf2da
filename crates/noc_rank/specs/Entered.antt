-- A list of ranks as it is filled row by row, and the first channel that no row names.
use Rattle.std.specs.Prelude.{◌≡◌, ℕ, ◌<◌, Bool, true, false, List, Option, None, length, take, slice_index_or}
use Rattle.noc_topo.specs.Shape.{Grid}
use Rattle.noc_topo.specs.Lists.{Each}
use Rattle.noc_rank.specs.declared.rows.RankRow.{RankRow}
use Rattle.noc_rank.specs.declared.fault.RankFault.{RankFault}
use Rattle.noc_rank.specs.declared.fault.RankFault.TheVariants.{MissingChannel}
use Rattle.noc_route.specs.Ranks.{is_port_channel, is_channel, rank_count, rank_index}
use Rattle.noc_rank.specs.Rows.{is_rank, has_rank_row, rank_in, AreGood}

-- a row names a link channel, with a rank within the limits
pub record IsRight (g : Grid) (vcs : ℕ) (row : RankRow) : Type 0 where
  pub channel : is_channel g vcs row.router row.port row.vc ≡ true
  pub limits : is_rank row.rank ≡ true

-- one list holds the ranks of the first n rows, the other says which channels they
-- name, and they have no fault
pub record AreEntered (g : Grid) (vcs : ℕ) (rows : List RankRow) (n : ℕ) (ranks : List (Option ℕ))
    (named : List Bool) : Type 0 where
  pub long : length ranks ≡ rank_count g vcs
  pub all : length named ≡ rank_count g vcs
  pub good : AreGood g vcs rows n
  pub right : Each (IsRight g vcs) (take n rows)
  pub stored : (r p v : ℕ) → is_port_channel g vcs r p v ≡ true
      → slice_index_or ranks (rank_index g vcs r p v) None ≡ rank_in (take n rows) r p v
  pub noted : (r p v : ℕ) → is_port_channel g vcs r p v ≡ true
      → slice_index_or named (rank_index g vcs r p v) false ≡ has_rank_row (take n rows) r p v

-- each link channel before this index is named
abbrev pub IsWhole : Grid → ℕ → List Bool → ℕ → Type 0
IsWhole g vcs named n =
    (r p v : ℕ) → is_channel g vcs r p v ≡ true → rank_index g vcs r p v < n
    → slice_index_or named (rank_index g vcs r p v) false ≡ true

-- the fault names the first link channel that is not named
pub record IsFirstGap (g : Grid) (vcs : ℕ) (names : List Bool) (fault : RankFault) : Type 0 where
  pub router : ℕ
  pub port : ℕ
  pub vc : ℕ
  pub named : fault ≡ MissingChannel router port vc
  pub channel : is_channel g vcs router port vc ≡ true
  pub free : slice_index_or names (rank_index g vcs router port vc) false ≡ false
  pub first : IsWhole g vcs names (rank_index g vcs router port vc)
