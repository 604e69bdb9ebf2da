-- A table file is refused with its first fault.
use Rattle.std.proofs.Common.{◌≡◌, ◌≢◌, inl, inr, ℕ, zero, suc, ◌<◌, List, [], ◌∷◌, length, slice_index_or, Option, Some, None, Result, Ok, Err, ap, arith, refl, sym, ◌∙◌}
use Rattle.std.proofs.lemmas.Option.{none-some}
use Rattle.csv.specs.Records.{field_at}
use Rattle.noc_route.specs.declared.rule.RouteRow.{RouteRow}
use Rattle.noc_topo.specs.Shape.{Grid, IsGrid}
use Rattle.noc_bytes.specs.declared.input_fault.InputFault.{InputFault}
use Rattle.noc_bytes.specs.declared.input_fault.InputFault.TheVariants.{BadCount, BadNumber, BadPort}
use Rattle.noc_files.specs.Ports.{IsPortName, port_named}
use Rattle.noc_files.specs.Rows.{Fields, number_of, text_rows}
use Rattle.noc_files.specs.Columns.{HasBadField, IsField, field_fault}
use Rattle.noc_files.specs.Table.{IsRouteFault, IsTableFault, WritesRoute, table_header, is_port_column, route_row_of, table_of}
use Rattle.noc_files.proofs.FaultLemmas.{breaks_sheet, sheet_breaks}
use Rattle.noc_files.proofs.PortLemmas.{is_port, port_is}
use Rattle.noc_files.proofs.SheetLemmas.{is_numeral, numeral_is}
use Rattle.noc_files.proofs.TableLemmas.{is_route, route_is}
use Rattle.noc_files.proofs.TrafficFaultLemmas.{no_numeral, none_of, unlike}
use Rattle.noc_files.proofs.TrafficLemmas.{differs}
use borrow.Author.Count.{below_more, below_none}

module _ (g : Grid) (grid : IsGrid g) where
  pub no_port : (field : List ℕ) → port_named g field ≡ None → ((port : ℕ) × IsPortName g field port) → ⊥
  no_port field e h = none-some h.0 (sym e ∙ is_port g field h.0 grid h.1)

  pub none_named : (field : List ℕ) → (((port : ℕ) × IsPortName g field port) → ⊥) → port_named g field ≡ None
  none_named field h = by (port_named g field) refl
    where
      by : (o : Option ℕ) → port_named g field ≡ o → port_named g field ≡ None
      by (Some n) e = absurd (h (n, port_is g field n e))
      by None e = e

  seven_fault : (row : ℕ) (a b c d f h k : List ℕ) (fault : InputFault) → (oa : Option ℕ) → number_of a ≡ oa → (ob : Option ℕ) → number_of b ≡ ob → (oc : Option ℕ) → port_named g c ≡ oc → (od : Option ℕ) → number_of d ≡ od → (of : Option ℕ) → number_of f ≡ of → (oh : Option ℕ) → port_named g h ≡ oh → (ok : Option ℕ) → number_of k ≡ ok
      → route_row_of g row (a ∷ b ∷ c ∷ d ∷ f ∷ h ∷ k ∷ []) ≡ Err fault → HasBadField g 7 is_port_column row (a ∷ b ∷ c ∷ d ∷ f ∷ h ∷ k ∷ []) fault
  unfolding route_row_of field_at
  seven_fault row a b c d f h k fault None ea ob eb oc ec od ed of ef oh eh ok ek e =
      let said : Path (Result RouteRow InputFault) (Err (BadNumber row 0)) (Err fault) = rw ea at e in
      record { all_there = refl; column = 0; known = omega arith; before = below_none _; bad = no_numeral a ea; fault_is = cc }
  seven_fault row a b c d f h k fault (Some na) ea None eb oc ec od ed of ef oh eh ok ek e =
      let said : Path (Result RouteRow InputFault) (Err (BadNumber row 1)) (Err fault) = rw (ea, eb) at e in
      record { all_there = refl; column = 1; known = omega arith; before = below_more _ 0 (below_none _) (na, numeral_is a na ea); bad = no_numeral b eb; fault_is = cc }
  seven_fault row a b c d f h k fault (Some na) ea (Some nb) eb None ec od ed of ef oh eh ok ek e =
      let said : Path (Result RouteRow InputFault) (Err (BadPort row 2)) (Err fault) = rw (ea, eb, ec) at e in
      record { all_there = refl; column = 2; known = omega arith; before = below_more _ 1 (below_more _ 0 (below_none _) (na, numeral_is a na ea)) (nb, numeral_is b nb eb); bad = no_port c ec; fault_is = cc }
  seven_fault row a b c d f h k fault (Some na) ea (Some nb) eb (Some nc) ec None ed of ef oh eh ok ek e =
      let said : Path (Result RouteRow InputFault) (Err (BadNumber row 3)) (Err fault) = rw (ea, eb, ec, ed) at e in
      record { all_there = refl; column = 3; known = omega arith; before = below_more _ 2 (below_more _ 1 (below_more _ 0 (below_none _) (na, numeral_is a na ea)) (nb, numeral_is b nb eb)) (nc, port_is g c nc ec); bad = no_numeral d ed; fault_is = cc }
  seven_fault row a b c d f h k fault (Some na) ea (Some nb) eb (Some nc) ec (Some nd) ed None ef oh eh ok ek e =
      let said : Path (Result RouteRow InputFault) (Err (BadNumber row 4)) (Err fault) = rw (ea, eb, ec, ed, ef) at e in
      record { all_there = refl; column = 4; known = omega arith; before = below_more _ 3 (below_more _ 2 (below_more _ 1 (below_more _ 0 (below_none _) (na, numeral_is a na ea)) (nb, numeral_is b nb eb)) (nc, port_is g c nc ec)) (nd, numeral_is d nd ed); bad = no_numeral f ef; fault_is = cc }
  seven_fault row a b c d f h k fault (Some na) ea (Some nb) eb (Some nc) ec (Some nd) ed (Some nf) ef None eh ok ek e =
      let said : Path (Result RouteRow InputFault) (Err (BadPort row 5)) (Err fault) = rw (ea, eb, ec, ed, ef, eh) at e in
      record { all_there = refl; column = 5; known = omega arith; before = below_more _ 4 (below_more _ 3 (below_more _ 2 (below_more _ 1 (below_more _ 0 (below_none _) (na, numeral_is a na ea)) (nb, numeral_is b nb eb)) (nc, port_is g c nc ec)) (nd, numeral_is d nd ed)) (nf, numeral_is f nf ef); bad = no_port h eh; fault_is = cc }
  seven_fault row a b c d f h k fault (Some na) ea (Some nb) eb (Some nc) ec (Some nd) ed (Some nf) ef (Some nh) eh None ek e =
      let said : Path (Result RouteRow InputFault) (Err (BadNumber row 6)) (Err fault) = rw (ea, eb, ec, ed, ef, eh, ek) at e in
      record { all_there = refl; column = 6; known = omega arith; before = below_more _ 5 (below_more _ 4 (below_more _ 3 (below_more _ 2 (below_more _ 1 (below_more _ 0 (below_none _) (na, numeral_is a na ea)) (nb, numeral_is b nb eb)) (nc, port_is g c nc ec)) (nd, numeral_is d nd ed)) (nf, numeral_is f nf ef)) (nh, port_is g h nh eh); bad = no_numeral k ek; fault_is = cc }
  seven_fault row a b c d f h k fault (Some na) ea (Some nb) eb (Some nc) ec (Some nd) ed (Some nf) ef (Some nh) eh (Some nk) ek e =
      let said : Path (Result RouteRow InputFault) (Ok (record { class = na; router = nb; in_port = nc; in_vc = nd; dst = nf; out_port = nh; out_vc = nk })) (Err fault) = rw (ea, eb, ec, ed, ef, eh, ek) at e in
      absurd (cc)

  route_fault : (row : ℕ) (fields : Fields) (fault : InputFault) → route_row_of g row fields ≡ Err fault → IsRouteFault g row fields fault
  unfolding route_row_of field_at
  route_fault row [] fault e = inl ((λ same. omega arith), cc)
  route_fault row (a ∷ []) fault e = inl ((λ same. omega arith), cc)
  route_fault row (a ∷ b ∷ []) fault e = inl ((λ same. omega arith), cc)
  route_fault row (a ∷ b ∷ c ∷ []) fault e = inl ((λ same. omega arith), cc)
  route_fault row (a ∷ b ∷ c ∷ d ∷ []) fault e = inl ((λ same. omega arith), cc)
  route_fault row (a ∷ b ∷ c ∷ d ∷ f ∷ []) fault e = inl ((λ same. omega arith), cc)
  route_fault row (a ∷ b ∷ c ∷ d ∷ f ∷ h ∷ []) fault e = inl ((λ same. omega arith), cc)
  route_fault row (a ∷ b ∷ c ∷ d ∷ f ∷ h ∷ k ∷ []) fault e = inr (seven_fault row a b c d f h k fault (number_of a) refl (number_of b) refl (port_named g c) refl (number_of d) refl (number_of f) refl (port_named g h) refl (number_of k) refl e)
  route_fault row (a ∷ b ∷ c ∷ d ∷ f ∷ h ∷ k ∷ m ∷ more) fault e =
      let fields = a ∷ b ∷ c ∷ d ∷ f ∷ h ∷ k ∷ m ∷ more in
      let refused : route_row_of g row fields ≡ Err (BadCount row) = rw (differs (length fields) 7 (omega arith)) in
      inl ((λ same. omega arith), cc (refused, e))

  -- a field that its column may not hold, in one of seven columns
  bad_column : (row : ℕ) (a b c d f h k : List ℕ) (fault : InputFault) (column : ℕ) → column < 7 → ((i : ℕ) → i < column → IsField g (is_port_column i) (slice_index_or (a ∷ b ∷ c ∷ d ∷ f ∷ h ∷ k ∷ []) i []))
      → (IsField g (is_port_column column) (slice_index_or (a ∷ b ∷ c ∷ d ∷ f ∷ h ∷ k ∷ []) column []) → ⊥) → fault ≡ field_fault (is_port_column column) row column → route_row_of g row (a ∷ b ∷ c ∷ d ∷ f ∷ h ∷ k ∷ []) ≡ Err fault
  unfolding route_row_of field_at
  bad_column row a b c d f h k fault zero known before bad e =
      rw (none_of a bad) (ap (λ (t : InputFault). Err t) (sym e))
  bad_column row a b c d f h k fault (suc zero) known before bad e =
      let h0 = before 0 (omega arith) in
      rw (is_numeral a h0.0 h0.1, none_of b bad) (ap (λ (t : InputFault). Err t) (sym e))
  bad_column row a b c d f h k fault (suc (suc zero)) known before bad e =
      let h0 = before 0 (omega arith) in
      let h1 = before 1 (omega arith) in
      rw (is_numeral a h0.0 h0.1, is_numeral b h1.0 h1.1, none_named c bad) (ap (λ (t : InputFault). Err t) (sym e))
  bad_column row a b c d f h k fault (suc (suc (suc zero))) known before bad e =
      let h0 = before 0 (omega arith) in
      let h1 = before 1 (omega arith) in
      let h2 = before 2 (omega arith) in
      rw (is_numeral a h0.0 h0.1, is_numeral b h1.0 h1.1, is_port g c h2.0 grid h2.1, none_of d bad) (ap (λ (t : InputFault). Err t) (sym e))
  bad_column row a b c d f h k fault (suc (suc (suc (suc zero)))) known before bad e =
      let h0 = before 0 (omega arith) in
      let h1 = before 1 (omega arith) in
      let h2 = before 2 (omega arith) in
      let h3 = before 3 (omega arith) in
      rw (is_numeral a h0.0 h0.1, is_numeral b h1.0 h1.1, is_port g c h2.0 grid h2.1, is_numeral d h3.0 h3.1, none_of f bad) (ap (λ (t : InputFault). Err t) (sym e))
  bad_column row a b c d f h k fault (suc (suc (suc (suc (suc zero))))) known before bad e =
      let h0 = before 0 (omega arith) in
      let h1 = before 1 (omega arith) in
      let h2 = before 2 (omega arith) in
      let h3 = before 3 (omega arith) in
      let h4 = before 4 (omega arith) in
      rw (is_numeral a h0.0 h0.1, is_numeral b h1.0 h1.1, is_port g c h2.0 grid h2.1, is_numeral d h3.0 h3.1, is_numeral f h4.0 h4.1, none_named h bad) (ap (λ (t : InputFault). Err t) (sym e))
  bad_column row a b c d f h k fault (suc (suc (suc (suc (suc (suc zero)))))) known before bad e =
      let h0 = before 0 (omega arith) in
      let h1 = before 1 (omega arith) in
      let h2 = before 2 (omega arith) in
      let h3 = before 3 (omega arith) in
      let h4 = before 4 (omega arith) in
      let h5 = before 5 (omega arith) in
      rw (is_numeral a h0.0 h0.1, is_numeral b h1.0 h1.1, is_port g c h2.0 grid h2.1, is_numeral d h3.0 h3.1, is_numeral f h4.0 h4.1, is_port g h h5.0 grid h5.1, none_of k bad) (ap (λ (t : InputFault). Err t) (sym e))
  bad_column row a b c d f h k fault (suc (suc (suc (suc (suc (suc (suc n))))))) known before bad e = absurd (omega arith)

  wrong_count : (row : ℕ) (fields : Fields) → length fields ≢ 7 → route_row_of g row fields ≡ Err (BadCount row)
  unfolding route_row_of
  wrong_count row fields other = rw (unlike (length fields) 7 other)

  column_fault : (row : ℕ) (fields : Fields) (fault : InputFault) → HasBadField g 7 is_port_column row fields fault → route_row_of g row fields ≡ Err fault
  column_fault row [] fault w = absurd (omega (arith, w.all_there))
  column_fault row (a ∷ []) fault w = absurd (omega (arith, w.all_there))
  column_fault row (a ∷ b ∷ []) fault w = absurd (omega (arith, w.all_there))
  column_fault row (a ∷ b ∷ c ∷ []) fault w = absurd (omega (arith, w.all_there))
  column_fault row (a ∷ b ∷ c ∷ d ∷ []) fault w = absurd (omega (arith, w.all_there))
  column_fault row (a ∷ b ∷ c ∷ d ∷ f ∷ []) fault w = absurd (omega (arith, w.all_there))
  column_fault row (a ∷ b ∷ c ∷ d ∷ f ∷ h ∷ []) fault w = absurd (omega (arith, w.all_there))
  column_fault row (a ∷ b ∷ c ∷ d ∷ f ∷ h ∷ k ∷ []) fault w = bad_column row a b c d f h k fault w.column w.known w.before w.bad w.fault_is
  column_fault row (a ∷ b ∷ c ∷ d ∷ f ∷ h ∷ k ∷ m ∷ more) fault w = absurd (omega (arith, w.all_there))

  fault_route : (row : ℕ) (fields : Fields) (fault : InputFault) → IsRouteFault g row fields fault → route_row_of g row fields ≡ Err fault
  fault_route row fields fault (inl w) = wrong_count row fields w.0 ∙ ap (λ (t : InputFault). Err t) (sym w.1)
  fault_route row fields fault (inr w) = column_fault row fields fault w

  -- a text is refused with this fault just where it is its first
  pub table_fault : (text : List ℕ) (fault : InputFault) → table_of g text ≡ Err fault → IsTableFault g text fault
  table_fault text fault e = sheet_breaks (route_row_of g) (WritesRoute g) (IsRouteFault g) (route_is g grid) (is_route g grid) route_fault fault_route table_header (text_rows text) fault e

  pub fault_table : (text : List ℕ) (fault : InputFault) → IsTableFault g text fault → table_of g text ≡ Err fault
  fault_table text fault w = breaks_sheet (route_row_of g) (WritesRoute g) (IsRouteFault g) (route_is g grid) (is_route g grid) route_fault fault_route table_header (text_rows text) fault w
