-- A row is read as a row of a table just where it is seven fields that write it.
use Rattle.std.proofs.Common.{map, refl, ◌≡◌, ℕ, List, [], ◌∷◌, Result, Ok, Err, arith, false, length, ◌==◌}
use Rattle.std.specs.Option.{ok_or}
use Rattle.csv.specs.Records.{field_at}
use Rattle.noc_route.specs.declared.rule.RouteRow.{RouteRow}
use Rattle.noc_topo.specs.Shape.{Grid, IsGrid}
use Rattle.noc_bytes.specs.declared.input_fault.InputFault.{InputFault}
use Rattle.noc_bytes.specs.declared.input_fault.InputFault.TheVariants.{BadCount, BadPort}
use Rattle.noc_files.specs.Ports.{IsPortName, port_named}
use Rattle.noc_files.specs.Rows.{Fields, text_rows}
use Rattle.noc_files.specs.Table.{IsTable, IsWritableRow, WritesRoute, table_header, route_fields, route_row_of, table_of, table_text}
use Rattle.noc_files.proofs.PortLemmas.{is_port, port_is, port_plain}
use Rattle.noc_topo.specs.Lists.{Each}
use Rattle.std.specs.List.{AllZip}
use Rattle.noc_files.specs.Plain.{IsPlainRow}
use Rattle.noc_files.proofs.NumeralLemmas.{decimal_numeral, plain_decimal, some_decimal}
use Rattle.noc_files.proofs.PlainLemmas.{is_plain_row, plain_rows}
use Rattle.noc_files.proofs.SheetLemmas.{bind_ok, is_numeral, is_sheet, sheet_is}
use Rattle.noc_files.proofs.TrafficLemmas.{column, differs, found_in, numeral_at}

-- the port in a column with this field
abbrev pub port_column : Grid → ℕ → ℕ → List ℕ → Result ℕ InputFault
port_column g row at field = ok_or (port_named g field) (BadPort row at)

pub named_at : (g : Grid) (row at : ℕ) (field : List ℕ) (p : ℕ) → port_column g row at field ≡ Ok p → IsPortName g field p
named_at g row at field p e = port_is g field p (found_in (port_named g field) (BadPort row at) p e)

module _ (g : Grid) (grid : IsGrid g) where
  pub route_is : (row : ℕ) (fields : Fields) (r : RouteRow) → route_row_of g row fields ≡ Ok r → WritesRoute g fields r
  unfolding route_row_of field_at
  route_is row [] r e = absurd (cc)
  route_is row (a ∷ []) r e = absurd (cc)
  route_is row (a ∷ b ∷ []) r e = absurd (cc)
  route_is row (a ∷ b ∷ c ∷ []) r e = absurd (cc)
  route_is row (a ∷ b ∷ c ∷ d ∷ []) r e = absurd (cc)
  route_is row (a ∷ b ∷ c ∷ d ∷ f ∷ []) r e = absurd (cc)
  route_is row (a ∷ b ∷ c ∷ d ∷ f ∷ h ∷ []) r e = absurd (cc)
  route_is row (a ∷ b ∷ c ∷ d ∷ f ∷ h ∷ k ∷ []) r e =
      let class = bind_ok (column row 0 a) _ r e in
      let router = bind_ok (column row 1 b) _ r class.2 in
      let in_port = bind_ok (port_column g row 2 c) _ r router.2 in
      let in_vc = bind_ok (column row 3 d) _ r in_port.2 in
      let dst = bind_ok (column row 4 f) _ r in_vc.2 in
      let out_port = bind_ok (port_column g row 5 h) _ r dst.2 in
      let out_vc = bind_ok (column row 6 k) _ r out_port.2 in
      let same : record { class = class.0; router = router.0; in_port = in_port.0; in_vc = in_vc.0; dst = dst.0; out_port = out_port.0; out_vc = out_vc.0 } ≡ r = cc in
      rw (← same) (numeral_at row 0 a class.0 class.1, numeral_at row 1 b router.0 router.1, named_at g row 2 c in_port.0 in_port.1, numeral_at row 3 d in_vc.0 in_vc.1, numeral_at row 4 f dst.0 dst.1, named_at g row 5 h out_port.0 out_port.1, numeral_at row 6 k out_vc.0 out_vc.1)
  route_is row (a ∷ b ∷ c ∷ d ∷ f ∷ h ∷ k ∷ m ∷ more) r e =
      let other : (length (a ∷ b ∷ c ∷ d ∷ f ∷ h ∷ k ∷ m ∷ more) == 7) ≡ false = differs (length (a ∷ b ∷ c ∷ d ∷ f ∷ h ∷ k ∷ m ∷ more)) 7 (omega arith) in
      let refused : route_row_of g row (a ∷ b ∷ c ∷ d ∷ f ∷ h ∷ k ∷ m ∷ more) ≡ Err (BadCount row) = rw other in
      absurd (cc (refused, e))

  pub is_route : (row : ℕ) (fields : Fields) (r : RouteRow) → WritesRoute g fields r → route_row_of g row fields ≡ Ok r
  unfolding route_row_of field_at
  is_route row (a ∷ b ∷ c ∷ d ∷ f ∷ h ∷ k ∷ []) r w = rw (is_numeral a r.class w.0, is_numeral b r.router w.1, is_port g c r.in_port grid w.2, is_numeral d r.in_vc w.3, is_numeral f r.dst w.4, is_port g h r.out_port grid w.5, is_numeral k r.out_vc w.6)
  is_route row [] r w = absurd w
  is_route row (a ∷ []) r w = absurd w
  is_route row (a ∷ b ∷ []) r w = absurd w
  is_route row (a ∷ b ∷ c ∷ []) r w = absurd w
  is_route row (a ∷ b ∷ c ∷ d ∷ []) r w = absurd w
  is_route row (a ∷ b ∷ c ∷ d ∷ f ∷ []) r w = absurd w
  is_route row (a ∷ b ∷ c ∷ d ∷ f ∷ h ∷ []) r w = absurd w
  is_route row (a ∷ b ∷ c ∷ d ∷ f ∷ h ∷ k ∷ m ∷ more) r w = absurd w

  -- a text is read as these rows just where it is the header and rows that write them
  pub table_is : (text : List ℕ) (rows : List RouteRow) → table_of g text ≡ Ok rows → IsTable g text rows
  table_is text rows e = sheet_is (route_row_of g) (WritesRoute g) route_is is_route table_header (text_rows text) rows e

  pub is_table : (text : List ℕ) (rows : List RouteRow) → IsTable g text rows → table_of g text ≡ Ok rows
  is_table text rows h = is_sheet (route_row_of g) (WritesRoute g) route_is is_route table_header (text_rows text) rows h

  -- ---- the plainest file of some rows

  routes_plain : (rows : List RouteRow) → Each (IsWritableRow g) rows → Each IsPlainRow (map (route_fields g) rows)
  routes_plain [] h = tt
  routes_plain (r ∷ rows) h =
      let w = h.0 in
      ((some_decimal r.class (omega (arith, w.class)), plain_decimal r.class (omega (arith, w.class)), (plain_decimal r.router (omega (arith, w.router)), (port_plain g r.in_port grid w.in_port, (plain_decimal r.in_vc (omega (arith, w.in_vc)), (plain_decimal r.dst (omega (arith, w.dst)), (port_plain g r.out_port grid w.out_port, (plain_decimal r.out_vc (omega (arith, w.out_vc)), tt))))))), routes_plain rows h.1)

  routes_written : (rows : List RouteRow) → Each (IsWritableRow g) rows → AllZip (WritesRoute g) (map (route_fields g) rows) rows
  routes_written [] h = tt
  routes_written (r ∷ rows) h =
      let w = h.0 in
      ((decimal_numeral r.class w.class, decimal_numeral r.router w.router, record { known = w.in_port; text = refl }, decimal_numeral r.in_vc w.in_vc, decimal_numeral r.dst w.dst, record { known = w.out_port; text = refl }, decimal_numeral r.out_vc w.out_vc), routes_written rows h.1)

  -- the rows that were written plainly are read
  pub table_back : (rows : List RouteRow) → Each (IsWritableRow g) rows → table_of g (table_text g rows) ≡ Ok rows
  table_back rows h =
      is_table (table_text g rows) rows (record { below = map (route_fields g) rows; under_header = plain_rows (table_header ∷ map (route_fields g) rows) (is_plain_row table_header refl, routes_plain rows h); writes = routes_written rows h })
