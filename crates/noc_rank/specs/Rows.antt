-- Ranks that are given row by row.
use Rattle.std.specs.Prelude.{◌≡◌, ℕ, ◌<◌, Bool, true, false, ◌&&◌, not, List, [], ◌∷◌, Option, Some, None, take, nat_le, nat_eq, slice_get, if◌then◌else◌, ⊤}
use Rattle.std.specs.List.{list_any}
use Rattle.noc_topo.specs.Shape.{Grid}
use Rattle.noc_route.specs.Order.{numbers_before}
use Rattle.noc_rank.specs.declared.rows.TheConstants.{MAX_RANK}
use Rattle.noc_rank.specs.declared.rows.RankRow.{RankRow}
use Rattle.noc_rank.specs.declared.fault.RankFault.{RankFault}
use Rattle.noc_rank.specs.declared.fault.RankFault.TheVariants.{Memory, UnknownChannel, DoubleChannel, BadRank, MissingChannel}
use Rattle.noc_route.specs.Ranks.{Ranking, is_channel, rank_at}
use Rattle.noc_rank.specs.Ranking.{IsRanking}

-- whether a rank, if there is one, is within the limits
abbrev pub is_rank : Option ℕ → Bool
is_rank None = true
is_rank (Some n) = nat_le 1 n && nat_le n MAX_RANK

-- whether a row names this channel
abbrev pub names_channel : ℕ → ℕ → ℕ → RankRow → Bool
names_channel r p v row = nat_eq row.router r && nat_eq row.port p && nat_eq row.vc v

-- whether one of the rows does
abbrev pub has_rank_row : List RankRow → ℕ → ℕ → ℕ → Bool
has_rank_row rows r p v = list_any (names_channel r p v) rows

-- the rank that the rows give a channel, none where none names it
abbrev pub rank_in : List RankRow → ℕ → ℕ → ℕ → Option ℕ
rank_in [] r p v = None
rank_in (row ∷ rows) r p v = if names_channel r p v row then row.rank else rank_in rows r p v

-- the first fault of row number i, where `named` says whether a row before it names its channel
abbrev pub rank_row_fault : Grid → ℕ → Bool → ℕ → RankRow → Option RankFault
rank_row_fault g vcs named i row =
    if not (is_channel g vcs row.router row.port row.vc) then Some (UnknownChannel i)
    else (if not (is_rank row.rank) then Some (BadRank i)
    else (if named then Some (DoubleChannel i) else None))

-- the fault of row number i of a list
abbrev pub listed_row_fault : Grid → ℕ → List RankRow → ℕ → RankRow → Option RankFault
listed_row_fault g vcs rows i row =
    rank_row_fault g vcs (has_rank_row (take i rows) row.router row.port row.vc) i row

-- the first n rows have no fault
abbrev pub AreGood : Grid → ℕ → List RankRow → ℕ → Type 0
AreGood g vcs rows n =
    (i : ℕ) (row : RankRow) → i < n → slice_get rows i ≡ Some row
    → listed_row_fault g vcs rows i row ≡ None

-- the fault of the first row that has one
pub record IsFirstRowFault (g : Grid) (vcs : ℕ) (rows : List RankRow) (fault : RankFault)
    : Type 0 where
  pub number : ℕ
  pub row : RankRow
  pub there : slice_get rows number ≡ Some row
  pub faulty : listed_row_fault g vcs rows number row ≡ Some fault
  pub first : AreGood g vcs rows number

-- the rows have no fault, and this is the first link channel, by router, port and
-- channel, that none of them names
pub record IsFirstMissing (g : Grid) (vcs : ℕ) (rows : List RankRow) (r p v : ℕ) : Type 0 where
  pub good : (n : ℕ) → AreGood g vcs rows n
  pub channel : is_channel g vcs r p v ≡ true
  pub missing : has_rank_row rows r p v ≡ false
  pub first : (a q w : ℕ) → is_channel g vcs a q w ≡ true
      → numbers_before (a ∷ q ∷ w ∷ []) (r ∷ p ∷ v ∷ []) ≡ true → has_rank_row rows a q w ≡ true

-- the first fault of the rows; memory is the allocator's matter
abbrev pub IsFaultOfRows : Grid → ℕ → List RankRow → RankFault → Type 0
IsFaultOfRows g vcs rows Memory = ⊤
IsFaultOfRows g vcs rows (MissingChannel r p v) = IsFirstMissing g vcs rows r p v
IsFaultOfRows g vcs rows fault = IsFirstRowFault g vcs rows fault

-- the ranks of the rows, which have no fault and name each link channel
pub record IsRankingOf (g : Grid) (vcs : ℕ) (rows : List RankRow) (k : Ranking) : Type 0 where
  pub grid : k.grid ≡ g
  pub vcs_are : k.vcs ≡ vcs
  pub ranking : IsRanking k
  pub good : (n : ℕ) → AreGood g vcs rows n
  pub full : (r p v : ℕ) → is_channel g vcs r p v ≡ true → has_rank_row rows r p v ≡ true
  pub ranks : (r p v : ℕ) → rank_at k r p v ≡ rank_in rows r p v
