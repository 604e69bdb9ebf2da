-- What a table file says.
use Rattle.std.specs.Prelude.{◌||◌, Bool, ℕ, ◌^◌, ◌<◌, ◌==◌, decimal, map, List, [], ◌∷◌, length, codes, Result, Ok, Err, if◌then◌else◌}
use Rattle.noc_route.specs.declared.rule.RouteRow.{RouteRow}
use Rattle.noc_topo.specs.Shape.{Grid, ports}
use Rattle.noc_bytes.specs.declared.input_fault.InputFault.{InputFault}
use Rattle.noc_bytes.specs.declared.input_fault.InputFault.TheVariants.{BadCount}
use Rattle.noc_files.specs.Columns.{IsFieldFault}
use Rattle.noc_files.specs.Gives.{◌>>=◌}
use Rattle.noc_files.specs.Ports.{IsPortName, name_of_port, port_at}
use Rattle.noc_files.specs.Plain.{plain_text}
use Rattle.noc_files.specs.Rows.{Fields, IsNumeral, number_at, text_rows}
use Rattle.noc_files.specs.Sheet.{IsSheet, IsSheetFault, sheet}

abbrev pub table_header : Fields
table_header =
    codes "class" ∷ codes "router" ∷ codes "in_port" ∷ codes "in_vc" ∷ codes "dst"
    ∷ codes "out_port" ∷ codes "out_vc" ∷ []

-- the row of a table: first the number of fields, then the fields from left to right
unfoldable pub route_row_of : Grid → ℕ → Fields → Result RouteRow InputFault
route_row_of g row fields = if length fields == 7 then seven else Err (BadCount row)
  where
    seven : Result RouteRow InputFault
    seven = do
      class ← number_at row 0 fields
      router ← number_at row 1 fields
      in_port ← port_at g row 2 fields
      in_vc ← number_at row 3 fields
      dst ← number_at row 4 fields
      out_port ← port_at g row 5 fields
      out_vc ← number_at row 6 fields
      Ok (record {
        class = class;
        router = router;
        in_port = in_port;
        in_vc = in_vc;
        dst = dst;
        out_port = out_port;
        out_vc = out_vc;
      })

abbrev pub table_of : Grid → List ℕ → Result (List RouteRow) InputFault
table_of g text = sheet (route_row_of g) table_header (text_rows text)

-- seven fields, numerals and names of ports, which write this row
abbrev pub WritesRoute : Grid → Fields → RouteRow → Type 0
WritesRoute g (class ∷ router ∷ in_port ∷ in_vc ∷ dst ∷ out_port ∷ out_vc ∷ []) r =
    IsNumeral class r.class × IsNumeral router r.router × IsPortName g in_port r.in_port
    × IsNumeral in_vc r.in_vc × IsNumeral dst r.dst × IsPortName g out_port r.out_port
    × IsNumeral out_vc r.out_vc
WritesRoute g _ r = ⊥

-- the header, and below it rows of seven fields, which write these rows
abbrev pub IsTable : Grid → List ℕ → List RouteRow → Type 0
IsTable g text rows = IsSheet (WritesRoute g) table_header (text_rows text) rows

-- whether a column, counted from 0, holds the name of a port
abbrev pub is_port_column : ℕ → Bool
is_port_column column = column == 2 || column == 5

-- the fault of a row: another number of fields, or a field that its column may not hold
abbrev pub IsRouteFault : Grid → ℕ → Fields → InputFault → Type 0
IsRouteFault g row fields fault = IsFieldFault g 7 is_port_column row fields fault

-- the first fault of a table file
abbrev pub IsTableFault : Grid → List ℕ → InputFault → Type 0
IsTableFault g text fault =
    IsSheetFault (WritesRoute g) (IsRouteFault g) table_header (text_rows text) fault

-- ---- the plainest table file of some rows

-- numbers that a numeral can write, and ports of the shape
pub record IsWritableRow (g : Grid) (r : RouteRow) : Type 0 where
  pub class : r.class < 2 ^ 32
  pub router : r.router < 2 ^ 32
  pub in_port : r.in_port < ports g
  pub in_vc : r.in_vc < 2 ^ 32
  pub dst : r.dst < 2 ^ 32
  pub out_port : r.out_port < ports g
  pub out_vc : r.out_vc < 2 ^ 32

abbrev pub route_fields : Grid → RouteRow → Fields
route_fields g r =
    decimal r.class ∷ decimal r.router ∷ name_of_port g r.in_port ∷ decimal r.in_vc ∷ decimal r.dst
    ∷ name_of_port g r.out_port ∷ decimal r.out_vc ∷ []

-- the header, and a line of numbers and names of ports for each row
abbrev pub table_text : Grid → List RouteRow → List ℕ
table_text g rows = plain_text (table_header ∷ map (route_fields g) rows)
