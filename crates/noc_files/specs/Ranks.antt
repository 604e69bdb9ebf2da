-- What a file of ranks says, and the file of some ranks.
use Rattle.std.specs.Prelude.{◌≡◌, ℕ, zero, suc, ◌==◌, true, decimal, map, List, [], ◌∷◌, ◌++◌, length, codes, is_some, Option, Some, None, option_map, option_and_then, Result, Ok, Err, if◌then◌else◌}
use Rattle.std.specs.List.{flat_map}
use Rattle.std.specs.Option.{ok_or}
use Rattle.std.specs.Str.{bytes_eq}
use Rattle.csv.specs.Records.{field_at}
use Rattle.noc_topo.specs.Shape.{Grid, local_port, neighbour, nodes}
use Rattle.noc_topo.specs.Lists.{below, Each, Has, Pairs}
use Rattle.noc_route.specs.Ranks.{Ranking, is_channel, rank_at}
use Rattle.noc_route.specs.Order.{numbers_before}
use Rattle.noc_rank.specs.declared.rows.RankRow.{RankRow}
use Rattle.noc_bytes.specs.declared.input_fault.InputFault.{InputFault}
use Rattle.noc_bytes.specs.declared.input_fault.InputFault.TheVariants.{BadCount, BadNumber}
use Rattle.noc_files.specs.Columns.{IsRowFault, field_fault}
use Rattle.noc_files.specs.Gives.{◌>>=◌}
use Rattle.noc_files.specs.Ports.{IsPortName, name_of_port, port_at}
use Rattle.noc_files.specs.Plain.{row_line}
use Rattle.noc_files.specs.Rows.{Fields, HasNumeral, IsNumeral, number_at, number_of, text_rows}
use Rattle.noc_files.specs.Sheet.{IsSheet, IsSheetFault, sheet}
use Rattle.noc_files.specs.Writing.{number_or}

abbrev pub rank_header : Fields
rank_header = codes "router" ∷ codes "port" ∷ codes "vc" ∷ codes "rank" ∷ []

-- the text in the column of ranks where a channel is adaptive
abbrev pub adaptive : List ℕ
adaptive = codes "adaptive"

-- the rank that a field writes: a number, or none by that text
abbrev pub rank_of : List ℕ → Option (Option ℕ)
rank_of field = if bytes_eq field adaptive then Some None else option_map Some (number_of field)

-- the rank in a column of a row, counted from 0
abbrev pub rank_field : ℕ → ℕ → Fields → Result (Option ℕ) InputFault
rank_field row column fields =
    ok_or (option_and_then rank_of (field_at fields column)) (BadNumber row column)

-- the channel and the rank of a row: first the number of fields, then the fields from left to right
unfoldable pub rank_row_of : Grid → ℕ → Fields → Result RankRow InputFault
rank_row_of g row fields = if length fields == 4 then four else Err (BadCount row)
  where
    four : Result RankRow InputFault
    four = do
      router ← number_at row 0 fields
      port ← port_at g row 1 fields
      vc ← number_at row 2 fields
      rank ← rank_field row 3 fields
      Ok (record { router = router; port = port; vc = vc; rank = rank })

abbrev pub ranks_of : Grid → List ℕ → Result (List RankRow) InputFault
ranks_of g text = sheet (rank_row_of g) rank_header (text_rows text)

-- a field that writes this rank: a numeral, or that text where there is none
abbrev pub IsRankField : List ℕ → Option ℕ → Type 0
IsRankField field None = field ≡ adaptive
IsRankField field (Some n) = IsNumeral field n

-- four fields, a router, the name of a port, a channel and a rank, which write this row
abbrev pub WritesRank : Grid → Fields → RankRow → Type 0
WritesRank g (router ∷ port ∷ vc ∷ rank ∷ []) r =
    IsNumeral router r.router × IsPortName g port r.port × IsNumeral vc r.vc
    × IsRankField rank r.rank
WritesRank g _ r = ⊥

-- the header, and below it rows of four fields, which write these rows
abbrev pub IsRankFile : Grid → List ℕ → List RankRow → Type 0
IsRankFile g text rows = IsSheet (WritesRank g) rank_header (text_rows text) rows

-- what a column, counted from 0, may hold
abbrev pub MayHold : Grid → ℕ → List ℕ → Type 0
MayHold g zero field = HasNumeral field
MayHold g (suc zero) field = (port : ℕ) × IsPortName g field port
MayHold g (suc (suc zero)) field = HasNumeral field
MayHold g _ field = (rank : Option ℕ) × IsRankField field rank

-- the fault of a row: another number of fields, or a field that its column may not hold, of which
-- that of column 1 is no name of a port
abbrev pub IsRankRowFault : Grid → ℕ → Fields → InputFault → Type 0
IsRankRowFault g row fields fault =
    IsRowFault 4 (MayHold g) (λ at column. field_fault (column == 1) at column) row fields fault

-- the first fault of a file of ranks
abbrev pub IsRankFileFault : Grid → List ℕ → InputFault → Type 0
IsRankFileFault g text fault =
    IsSheetFault (WritesRank g) (IsRankRowFault g) rank_header (text_rows text) fault

-- ---- the file of some ranks

-- a link channel with its rank
abbrev pub rank_row : Ranking → ℕ → ℕ → ℕ → RankRow
rank_row k router port vc = record {
  router = router;
  port = port;
  vc = vc;
  rank = rank_at k router port vc;
}

-- the channels of a port, if it has a link
unfoldable pub port_rows : Ranking → ℕ → ℕ → List RankRow
port_rows k router port =
    if is_some (neighbour k.grid router port) then map (rank_row k router port) (below k.vcs)
    else []

-- the link channels of a router, port by port
unfoldable pub router_rows : Ranking → ℕ → List RankRow
router_rows k router = flat_map (port_rows k router) (below (local_port k.grid))

-- all link channels, router by router
unfoldable pub rank_rows : Ranking → List RankRow
rank_rows k = flat_map (router_rows k) (below (nodes k.grid))

-- a rank, or that text where there is none
abbrev pub rank_text : Option ℕ → List ℕ
rank_text rank = number_or rank adaptive

-- the fields of a row: a router, the name of a port, a channel and a rank
abbrev pub rank_fields : Grid → RankRow → Fields
rank_fields g r = decimal r.router ∷ name_of_port g r.port ∷ decimal r.vc ∷ rank_text r.rank ∷ []

-- the line of a row
unfoldable pub rank_line : Grid → RankRow → List ℕ
rank_line g r = row_line (rank_fields g r)

-- the header, and a line for each link channel
abbrev pub ranks_text : Ranking → List ℕ
ranks_text k = row_line rank_header ++ flat_map (rank_line k.grid) (rank_rows k)

-- ---- each link channel once

-- one row comes before another, by router, port and VC
abbrev pub RowIsBefore : RankRow → RankRow → Type 0
RowIsBefore a b =
    numbers_before (a.router ∷ a.port ∷ a.vc ∷ []) (b.router ∷ b.port ∷ b.vc ∷ []) ≡ true

-- a row of a link channel and its rank
pub record IsRankOf (k : Ranking) (row : RankRow) : Type 0 where
  pub channel : is_channel k.grid k.vcs row.router row.port row.vc ≡ true
  pub rank : row.rank ≡ rank_at k row.router row.port row.vc

-- each link channel once with its rank, in rising order of router, port and VC
pub record ListsRanks (k : Ranking) (rows : List RankRow) : Type 0 where
  pub there : (r p v : ℕ) → is_channel k.grid k.vcs r p v ≡ true → Has (rank_row k r p v) rows
  pub ranks : Each (IsRankOf k) rows
  pub rising : Pairs RowIsBefore rows
