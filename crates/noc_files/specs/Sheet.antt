-- What a file of rows under a header says, whatever a row says.
use Rattle.std.specs.Prelude.{◌≡◌, ◌≢◌, ◌⊎◌, ℕ, ◌+◌, ◌^◌, ◌<◌, length, List, [], ◌∷◌, ◌++◌, Result, Ok, Err, if◌then◌else◌}
use Rattle.std.specs.Borrow.{Bor}
use Rattle.csv.specs.Records.{Row, fields_of}
use Rattle.std.specs.Cmp.Lexicographic.{pointwise}
use Rattle.std.specs.List.{AllZip}
use Rattle.std.specs.Str.{bytes_eq}
use Rattle.noc_bytes.specs.declared.input_fault.InputFault.{InputFault}
use Rattle.noc_bytes.specs.declared.input_fault.InputFault.TheVariants.{BadHeader}
use Rattle.noc_files.specs.Gives.{◌>>=◌}
use Rattle.noc_files.specs.Rows.{Fields}

module _ {P : Type 0} (read : ℕ → Fields → Result P InputFault) where
  -- what the rows say, from this one on
  unfoldable pub each_from : ℕ → List Fields → Result (List P) InputFault
  each_from row [] = Ok []
  each_from row (fields ∷ rows) = do
    first ← read row fields
    others ← each_from (row + 1) rows
    Ok (first ∷ others)

  -- a row of these names, and then the rows
  unfoldable pub sheet : Fields → List Fields → Result (List P) InputFault
  sheet header [] = Err BadHeader
  sheet header (names ∷ rows) =
      if pointwise bytes_eq names header then each_from 0 rows else Err BadHeader

-- each row, with its number, is read as is said of its fields
abbrev pub ReadsRows : {P : Type 0} → (Bor Row → ℕ → Result P InputFault → Type 0)
    → (ℕ → Fields → Result P InputFault) → Type 0
ReadsRows post said =
    (row : Bor Row) (index : ℕ) (read : Result _ InputFault) → index < 2 ^ 64 → post row index read
    → read ≡ said index (fields_of row.now)

-- a row of these names, and below it a row for each of these values
pub record IsSheet {P : Type 0} (Writes : Fields → P → Type 0) (header : Fields)
    (rows : List Fields) (values : List P) : Type 0 where
  pub below : List Fields
  pub under_header : rows ≡ header ∷ below
  pub writes : AllZip Writes below values

-- the first row with a fault, below the header and rows that write values
pub record HasBadRow {P : Type 0} (Writes : Fields → P → Type 0)
    (IsRowFault : ℕ → Fields → InputFault → Type 0) (header : Fields) (rows : List Fields)
    (fault : InputFault) : Type 0 where
  pub good : List Fields
  pub bad : Fields
  pub others : List Fields
  pub values : List P
  pub under_header : rows ≡ header ∷ (good ++ bad ∷ others)
  pub writes : AllZip Writes good values
  pub fault_is : IsRowFault (length good) bad fault

-- no row of these names at first
pub record LacksHeader (header : Fields) (rows : List Fields) (fault : InputFault) : Type 0 where
  pub lacks : (below : List Fields) → rows ≢ header ∷ below
  pub fault_is : fault ≡ BadHeader

-- the first fault of a file: no header, or a row with a fault
abbrev pub IsSheetFault : {P : Type 0} → (Fields → P → Type 0) → (ℕ → Fields → InputFault → Type 0)
    → Fields → List Fields → InputFault → Type 0
IsSheetFault Writes IsRowFault header rows fault =
    LacksHeader header rows fault ⊎ HasBadRow Writes IsRowFault header rows fault
